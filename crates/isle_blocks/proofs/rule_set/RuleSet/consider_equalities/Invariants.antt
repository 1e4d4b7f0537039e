use Rattle.std.proofs.Common.{ℕ, take}
use Rattle.isle_trees.specs.Rules.{Elem}
use Rattle.isle_blocks.specs.Inside.Trees.Best.{IsRulePassed, IsStillRanked}
use Rattle.isle_blocks.specs.Inside.Trees.Builder.{best_shown, rules_in, scope_of}
use Rattle.isle_blocks.proofs.rule_set.RuleSet.consider_equalities.Given as goal

abbrev pub invariant-loop-rule : goal.invariant-loop-rule
invariant-loop-rule l = record {
  kept : IsStillRanked (rules_in l.self) l.left (scope_of l.self l.known) (best_shown l.initial.best) (best_shown l.best);
  passed : (rule : ℕ) → Elem rule (take l.rule-index l.left)
      → IsRulePassed (rules_in l.self) l.left (scope_of l.self l.known) l.marks (best_shown l.best) rule;
}
