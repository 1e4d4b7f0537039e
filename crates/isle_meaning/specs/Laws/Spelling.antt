-- Definitions and programs that differ in positions alone.
use Rattle.std.specs.Prelude.{◌≡◌, ℕ, List, map, Option}
use Rattle.isle_ast.specs.declared.ast.Def.{Def}
use Rattle.isle_ast.specs.Trees.WithoutPos.{no_pos, def_without_pos}
use Rattle.isle_rules.specs.TypedRules.{TypedRule}
use Rattle.isle_meaning.specs.Values.{Value, Values}
use Rattle.isle_meaning.specs.Worlds.{CheckedProgram, Answers, Event}
use Rattle.isle_meaning.specs.Calls.{Means}

-- definitions that differ in positions alone
abbrev pub AreAlike : List Def → List Def → Type 0
AreAlike defs others = map def_without_pos defs ≡ map def_without_pos others

-- a typed rule without its position
abbrev pub typed_rule_without_pos : TypedRule → TypedRule
typed_rule_without_pos rule = record rule { pos = no_pos }

-- programs that differ in the positions of their rules alone
pub record AreAlikePrograms (one other : CheckedProgram) : Type 0 where
  pub terms : one.terms ≡ other.terms
  pub values : one.values ≡ other.values
  pub has_rules : one.has_rules ≡ other.has_rules
  pub rules : map typed_rule_without_pos one.rules ≡ map typed_rule_without_pos other.rules

-- In such programs a call means the same.
abbrev pub AlikeProgramsMeanTheSame : Type 0
AlikeProgramsMeanTheSame = (one other : CheckedProgram) → AreAlikePrograms one other → (w : Answers) (n t : ℕ) (args : Values)
    (trace : List Event) (answer : Option Value) → Means one w n t args trace answer → Means other w n t args trace answer
