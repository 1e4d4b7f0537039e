-- What reading comes to, in the words of the judgement: what trees stand for, where they are ill typed, and when they are
-- too large.
use Rattle.std.specs.Prelude.{ℕ, ◌≤◌, pos, unwrap_or}
use Rattle.std.specs.Option.{option_map}
use Rattle.isle_ast.specs.declared.ast.Ident.{Ident}
use Rattle.isle_ast.specs.declared.ast.Rule.{Rule}
use Rattle.isle_ast.specs.declared.pos.Pos.{Pos}
use Rattle.isle_rules.specs.TypedRules.{TypedRule}
use Rattle.isle_rules.specs.Elaboration.{State}
use Rattle.isle_terms.specs.Inside.Readings.Outcomes.{Outcome, stands_for, ill_at, exceeds}
use Rattle.isle_terms.specs.Inside.Readings.RuleOutcomes.{RuleParts}

-- an outcome tells the truth: the trees stand for its value within so many nodes, or are ill typed at its position, or are
-- too large
abbrev pub Tells : {A : Type 0} → (max : ℕ) → (Stands : A → State → Type 0) → (Ill : Pos → Type 0) → (Large : Type 0) → Outcome A → Type 0
Tells max Stands Ill Large (stands_for v s) = Stands v s × (s.nodes ≤ max)
Tells max Stands Ill Large (ill_at at) = Ill at
Tells max Stands Ill Large exceeds = Large

-- the typed rule of a rule, by the number of its root, its typed parts, and the state after them
abbrev pub rule_of_parts : (number : ℕ) → Rule → RuleParts → State → TypedRule
rule_of_parts number tree parts s = record {
  root = number;
  args = parts.args;
  iflets = parts.iflets;
  right = parts.right;
  variables = s.variables;
  priority = unwrap_or tree.prio (pos 0);
  pos = tree.pos;
  name = option_map (λ (name : Ident). name.0) tree.name;
}
