-- The environment of terms that definitions make, before and after its rules are typed.
use Rattle.std.specs.Prelude.{◌≤◌, List, length, All}
use Rattle.isle_ast.specs.declared.ast.Decl.{Decl as DeclTree}
use Rattle.isle_ast.specs.declared.ast.Def.{Def}
use Rattle.isle_types.specs.Names.{AreDistinct}
use Rattle.isle_types.specs.Environment.{Environment}
use Rattle.isle_types.specs.TypeTables.{TypeTables}
use Rattle.isle_rules.specs.Signatures.{Signature, Conversion}
use Rattle.isle_rules.specs.Definitions.{declarations, rules_in, AreTerms, AreConversions, KeepConstructorRules, KeepExtractorRules, IsDefined}
use Rattle.isle_terms.specs.TermFaults.{names_of}
use Rattle.isle_terms.specs.TypingFaults.{named_rules}
use Rattle.isle_rules.specs.Shown.TermTables.{TermTables}
use Rattle.isle_rules.specs.Shown.ShownTerms.{ShowsDeclared}
use Rattle.isle_terms.specs.Inside.Shown.TermLimits.{HasKnownSymbols}
use Rattle.isle_terms.specs.Inside.Collecting.RuleChecks.{HasSomeRoot}

-- tables are those of the terms and converters that definitions make, and the definitions keep every rule but those of typed rules
pub record ShowsDeclaredOf (tyenv : TypeTables) (env : TermTables) (types : Environment) (defs : List Def) : Type 0 where
  pub terms : List Signature
  pub conversions : List Conversion
  pub made : AreTerms types defs terms
  pub within : All (λ (decl : DeclTree). length decl.arg_tys ≤ 255) (declarations defs)
  pub constructors : KeepConstructorRules defs
  pub extractors : KeepExtractorRules defs terms
  pub converted : AreConversions types defs terms conversions
  pub defined : All (IsDefined defs) (declarations defs)
  pub names : AreDistinct (names_of (named_rules defs))
  pub shown : ShowsDeclared tyenv env (record { types = types; terms = terms; conversions = conversions; expands = env.expands })
  pub rooted : All (HasSomeRoot (record { types = types; terms = terms; conversions = conversions; expands = env.expands })) (rules_in defs)
  pub symbols : HasKnownSymbols tyenv.names env
