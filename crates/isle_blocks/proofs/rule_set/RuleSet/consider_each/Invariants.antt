use Rattle.std.proofs.Common.{take}
use Rattle.isle_trees.specs.Rules.{Elem}
use Rattle.isle_trees.specs.Scopes.{on_equal}
use Rattle.isle_blocks.specs.declared.ids.BindingId.{BindingId}
use Rattle.isle_blocks.specs.Inside.Trees.Best.{IsPassed, IsStillRanked}
use Rattle.isle_blocks.specs.Inside.Trees.Builder.{best_shown, rules_in, scope_of}
use Rattle.isle_blocks.proofs.rule_set.RuleSet.consider_each.Given as goal

abbrev pub invariant-loop-b : goal.invariant-loop-b
invariant-loop-b l = record {
  kept : IsStillRanked (rules_in l.self) l.left (scope_of l.self l.known) (best_shown l.initial.best) (best_shown l.best);
  passed : (b : BindingId) → Elem b (take l.b-index l.class)
      → IsPassed (rules_in l.self) l.left (scope_of l.self l.known) l.marks (best_shown l.best) (on_equal l.a.0 b.0);
}
