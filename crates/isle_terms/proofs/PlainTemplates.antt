-- What texts spell has plain templates.
use Rattle.std.proofs.Common.{List, [], ◌∷◌}
use Rattle.std.specs.List.{All}
use Rattle.std.proofs.lemmas.List.Elements.{All-nil, All-cons, All-head, All-tail}
use Rattle.isle_ast.specs.declared.ast.Extractor.{Extractor as ExtractorTree}
use Rattle.isle_ast.specs.declared.ast.Def.{Def}
use Rattle.isle_ast.specs.declared.ast.Def.TheVariants.{Extractor}
use Rattle.isle_ast.specs.Trees.MacroArgs.{HasNoMacroArg, HasNoMacroArgs}
use Rattle.isle_rules.specs.Definitions.{extractors_in}
use Rattle.isle_rules.specs.Definitions.{HasPlainTemplates}

-- definitions without numbered arguments of templates have plain templates
pub plain_templates : (defs : List Def) → All HasNoMacroArgs defs → HasPlainTemplates (extractors_in defs)
plain_templates [] none = All-nil (λ (extractor : ExtractorTree). HasNoMacroArg extractor.template)
plain_templates (Extractor x ∷ others) none =
    All-cons (λ (extractor : ExtractorTree). HasNoMacroArg extractor.template) x (extractors_in others)
    (All-head HasNoMacroArgs (Extractor x) others none)
    (plain_templates others (All-tail HasNoMacroArgs (Extractor x) others none))
plain_templates (def ∷ others) none = plain_templates others (All-tail HasNoMacroArgs def others none)
