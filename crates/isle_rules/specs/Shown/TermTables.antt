-- The value of an environment of terms: its tables.
use Rattle.std.specs.Prelude.{Bool, List, Option, ◌==◌, ◌&&◌, ℕ, false, slice_get}
use Rattle.isle_types.specs.declared.ids.Sym.{Sym}
use Rattle.isle_types.specs.declared.ids.TypeId.{TypeId}
use Rattle.isle_types.specs.declared.ids.TermId.{TermId}
use Rattle.isle_types.specs.declared.ids.RuleId.{RuleId}
use Rattle.isle_containers.specs.StableMaps.{value_at}
use Rattle.isle_rules.specs.declared.terms.Term.{Term}
use Rattle.isle_rules.specs.declared.rules.Rule.{Rule}
use Rattle.std.specs.Option.{option_map_or}
use Rattle.isle_rules.specs.declared.terms.TermKind.{TermKind}
use Rattle.isle_rules.specs.declared.terms.TermKind.TheVariants.{EnumVariant, Struct, Decl}

-- what an environment of terms holds
pub record TermTables : Type 0 where
  -- the terms, each at the place of its id
  pub terms : List Term
  -- the symbol of each term's name with the term's id
  pub numbers : List (Sym × TermId)
  -- the rules, each at the place of its id
  pub rules : List Rule
  -- the symbol of each rule's name with the rule's id
  pub rule_numbers : List (Sym × RuleId)
  -- the converter's term of each inner and outer type
  pub converters : List ((TypeId × TypeId) × TermId)
  -- whether internal extractors are put in
  pub expands : Bool

-- whether symbols are the same
abbrev pub same_sym : Sym → Sym → Bool
same_sym a b = a.0 == b.0

-- whether pairs of types are the same
abbrev pub same_types : TypeId × TypeId → TypeId × TypeId → Bool
same_types a b = (a.0.0 == b.0.0) && (a.1.0 == b.1.0)

-- the term of a symbol
abbrev pub term_with : TermTables → Sym → Option TermId
term_with env sym = value_at same_sym env.numbers sym

-- the rule of a symbol
abbrev pub rule_with : TermTables → Sym → Option RuleId
rule_with env sym = value_at same_sym env.rule_numbers sym

-- the converter's term of a pair of types
abbrev pub converter_with : TermTables → TypeId → TypeId → Option TermId
converter_with env inner outer = value_at same_types env.converters (inner, outer)

-- the rule of a number
abbrev pub rule_at : ℕ → RuleId
rule_at number = record { 0 = number }

-- whether a term of a kind gives any number of answers
abbrev pub is_multi_kind : TermKind → Bool
is_multi_kind (EnumVariant _) = false
is_multi_kind Struct = false
is_multi_kind (Decl flags _ _) = flags.multi

-- whether the term of a number does
abbrev pub is_multi_in : TermTables → ℕ → Bool
is_multi_in env number = option_map_or (λ (term : Term). is_multi_kind term.kind) (slice_get env.terms number) false
