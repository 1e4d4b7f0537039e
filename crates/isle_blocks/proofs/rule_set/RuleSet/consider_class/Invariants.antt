use Rattle.std.proofs.Common.{take}
use Rattle.isle_trees.specs.Rules.{Elem}
use Rattle.isle_blocks.specs.declared.ids.BindingId.{BindingId}
use Rattle.isle_blocks.specs.Inside.Trees.Best.{IsRowPassed, IsStillRanked}
use Rattle.isle_blocks.specs.Inside.Trees.Builder.{best_shown, rules_in, scope_of}
use Rattle.isle_blocks.proofs.rule_set.RuleSet.consider_class.Given as goal

abbrev pub invariant-loop-a : goal.invariant-loop-a
invariant-loop-a l = record {
  kept : IsStillRanked (rules_in l.self) l.left (scope_of l.self l.known) (best_shown l.initial.best) (best_shown l.best);
  passed : (a : BindingId) → Elem a (take l.a-index l.class)
      → IsRowPassed (rules_in l.self) l.left (scope_of l.self l.known) l.marks l.class (best_shown l.best) a;
}
