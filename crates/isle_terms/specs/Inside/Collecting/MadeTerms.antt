-- The terms that definitions make, as the code has them.
use Rattle.std.specs.Prelude.{◌≤◌, ℕ, List, length, All}
use Rattle.std.specs.List.{AllZip}
use Rattle.isle_ast.specs.declared.ast.Decl.{Decl as DeclTree}
use Rattle.isle_ast.specs.declared.ast.Def.{Def}
use Rattle.isle_types.specs.declared.ids.TypeId.{TypeId}
use Rattle.isle_types.specs.declared.ids.TermId.{TermId}
use Rattle.isle_types.specs.Environment.{Environment}
use Rattle.isle_types.specs.TypeEnvs.{CountUp}
use Rattle.isle_rules.specs.declared.terms.Term.{Term}
use Rattle.isle_terms.specs.declared.env.stages.MadeTerms.{MadeTerms}
use Rattle.isle_rules.specs.Signatures.{Signature}
use Rattle.isle_rules.specs.Definitions.{declarations, AreTerms, names_of_terms, KeepExtractorRules, IsDefined}
use Rattle.isle_terms.specs.Inside.Collecting.NameTables.{IsTableOf}
use Rattle.isle_terms.specs.Inside.Collecting.DeclaredTerms.{IsShownTerm}
use Rattle.isle_terms.specs.Inside.Collecting.ReadConverters.{AreReadConverters}

-- terms are those that definitions make, each at the place of its number, with the table of their names
pub record AreMadeTerms (types : Environment) (defs : List Def) (names : List (List ℕ)) (made : MadeTerms) : Type 0 where
  pub signatures : List Signature
  pub meant : AreTerms types defs signatures
  pub within : All (λ (decl : DeclTree). length decl.arg_tys ≤ 255) (declarations defs)
  pub shown : AllZip (IsShownTerm names) signatures made.terms.items
  pub counted : CountUp (λ (term : Term). term.id.0) 0 made.terms.items
  pub table : IsTableOf (names_of_terms signatures) made.table

-- definitions keep what can be told of them once their terms are made: the rules of extractors, converters and uses
pub record KeepLaterRules (types : Environment) (defs : List Def) (signatures : List Signature) (table : List ((TypeId × TypeId) × TermId))
    : Type 0 where
  pub extractors : KeepExtractorRules defs signatures
  pub conversions : AreReadConverters types defs signatures table
  pub defined : All (IsDefined defs) (declarations defs)
