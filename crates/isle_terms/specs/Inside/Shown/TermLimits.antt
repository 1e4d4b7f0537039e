-- Below what the symbols of terms are.
use Rattle.std.specs.Prelude.{ℕ, suc, max, ◌≤◌, ◌<◌, List, map, length, Option, None, Some, IsSome}
use Rattle.isle_types.specs.declared.ids.Sym.{Sym}
use Rattle.isle_rules.specs.declared.terms.Term.{Term}
use Rattle.isle_rules.specs.declared.terms.ConstructorKind.{ConstructorKind}
use Rattle.isle_rules.specs.declared.terms.ConstructorKind.TheVariants.{InternalConstructor, ExternalConstructor}
use Rattle.isle_rules.specs.declared.terms.ExtractorKind.{ExtractorKind}
use Rattle.isle_rules.specs.declared.terms.ExtractorKind.TheVariants.{InternalExtractor, ExternalExtractor}
use Rattle.isle_rules.specs.declared.terms.TermKind.{TermKind}
use Rattle.isle_rules.specs.declared.terms.TermKind.TheVariants.{EnumVariant, Struct, Decl}
use Rattle.isle_rules.specs.Shown.ShownRules.{greatest}
use Rattle.isle_rules.specs.Shown.TermTables.{TermTables, term_with}

-- the symbol of a host's function is below this
abbrev pub constructor_limit : Option ConstructorKind → ℕ
constructor_limit None = 0
constructor_limit (Some InternalConstructor) = 0
constructor_limit (Some (ExternalConstructor name)) = suc name.0

-- the symbol of a host's extractor is below this
abbrev pub extractor_limit : Option ExtractorKind → ℕ
extractor_limit None = 0
extractor_limit (Some (InternalExtractor template)) = 0
extractor_limit (Some (ExternalExtractor name infallible pos)) = suc name.0

-- the symbols of the host's functions of a term are below this
abbrev pub kind_limit : TermKind → ℕ
kind_limit (EnumVariant variant) = 0
kind_limit Struct = 0
kind_limit (Decl flags constructor_kind extractor_kind) = max (constructor_limit constructor_kind) (extractor_limit extractor_kind)

-- all symbols of a term are below this
abbrev pub term_limit : Term → ℕ
term_limit term = max (suc term.name.0) (kind_limit term.kind)

-- all symbols of terms are below this
abbrev pub terms_limit : List Term → ℕ
terms_limit terms = greatest (map term_limit terms)

-- the symbols of terms, and those that a table finds a term at, are of names
pub record HasKnownSymbols (names : List (List ℕ)) (env : TermTables) : Type 0 where
  pub terms : terms_limit env.terms ≤ length names
  pub numbers : (symbol : Sym) → IsSome (term_with env symbol) → symbol.0 < length names
