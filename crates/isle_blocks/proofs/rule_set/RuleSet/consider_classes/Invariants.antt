use Rattle.std.proofs.Common.{List, take}
use Rattle.isle_trees.specs.Rules.{Elem}
use Rattle.isle_blocks.specs.declared.ids.BindingId.{BindingId}
use Rattle.isle_blocks.specs.Inside.Trees.Best.{IsClassPassed, IsStillRanked}
use Rattle.isle_blocks.specs.Inside.Trees.Builder.{best_shown, rules_in, scope_of}
use Rattle.isle_blocks.proofs.rule_set.RuleSet.consider_classes.Given as goal

abbrev pub invariant-loop-class : goal.invariant-loop-class
invariant-loop-class l = record {
  kept : IsStillRanked (rules_in l.self) l.left (scope_of l.self l.known) (best_shown l.initial.best) (best_shown l.best);
  passed : (class : List BindingId) → Elem class (take l.class-index l.classes)
      → IsClassPassed (rules_in l.self) l.left (scope_of l.self l.known) l.marks (best_shown l.best) class;
}
