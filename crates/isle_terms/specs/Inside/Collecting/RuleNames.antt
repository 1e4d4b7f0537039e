-- Typed rules with their names, and the table of the names.
use Rattle.std.specs.Prelude.{◌≡◌, ◌<◌, ℕ, zero, suc, Bool, true, false, List, [], ◌∷◌, length, Option, None, Some, IsSome, String}
use Rattle.std.specs.List.{AllZip}
use Rattle.std.specs.Global.{Global}
use Rattle.std.specs.Option.{option_map, option_and_then}
use Rattle.isle_types.specs.declared.ids.Sym.{Sym}
use Rattle.isle_types.specs.declared.ids.RuleId.{RuleId}
use Rattle.isle_types.specs.Names.{AreDistinct, position_of}
use Rattle.isle_containers.specs.StableMaps.{value_at, value_at_text}
use Rattle.isle_types.specs.TypeEnvs.{CountUp, symbol_at}
use Rattle.isle_rules.specs.declared.rules.Rule.{Rule}
use Rattle.isle_terms.specs.declared.env.rule_names.NamedRules.{NamedRules}
use Rattle.isle_rules.specs.TypedRules.{TypedRule}
use Rattle.isle_rules.specs.Definitions.{times, rule_names, rule_named}
use Rattle.isle_rules.specs.Shown.TermTables.{same_sym, rule_at}
use Rattle.isle_rules.specs.Shown.RulesShown.{IsShownRule}

-- whether a name that occurs so many times occurs once alone; none where it doesn't occur
abbrev pub lone_mark : ℕ → Option Bool
lone_mark zero = None
lone_mark (suc zero) = Some true
lone_mark (suc (suc more)) = Some false

-- a table tells of each of these names whether it occurs once alone
pub record MarksLone (names : List (List ℕ)) (lone : List (String Global × Bool)) : Type 0 where
  pub marked : (name : List ℕ) → value_at_text lone name ≡ lone_mark (times name names)

-- typed rules with these names
abbrev pub with_names : List TypedRule → List (Option (List ℕ)) → List TypedRule
with_names [] names = []
with_names (rule ∷ rules) [] = []
with_names (rule ∷ rules) (name ∷ names) = record rule { name = name } ∷ with_names rules names

-- a table has the number of the rule of each name, by the symbol of the name, where these are the interned names
abbrev pub IsTableOfRules : List (List ℕ) → List TypedRule → List (Sym × RuleId) → Type 0
IsTableOfRules names rules table = (name : List ℕ) → option_and_then (λ (sym : Sym). value_at same_sym table sym)
    (option_map symbol_at (position_of names name)) ≡ option_map rule_at (rule_named 0 rules name)

-- a table whose symbols are all of interned names is that of the names of these rules where no name stands twice
pub record IsNumbering (names : List (List ℕ)) (rules : List TypedRule) (table : List (Sym × RuleId)) : Type 0 where
  pub known : (sym : Sym) → IsSome (value_at same_sym table sym) → sym.0 < length names
  pub numbered : AreDistinct (rule_names rules) → IsTableOfRules names rules table

-- rules are these typed rules, each at the place of its number, and the table is that of their names where no name stands twice
pub record AreNamedRules (names : List (List ℕ)) (typed : List TypedRule) (named : NamedRules) : Type 0 where
  pub shown : AllZip (IsShownRule names) typed named.rules.items
  pub counted : CountUp (λ (rule : Rule). rule.id.0) 0 named.rules.items
  pub table : AreDistinct (rule_names typed) → IsTableOfRules names typed named.numbers
