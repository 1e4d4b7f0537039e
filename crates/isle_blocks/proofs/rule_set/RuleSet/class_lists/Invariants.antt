use Rattle.std.proofs.Common.{◌≡◌, ◌<◌, ℕ, length}
use Rattle.isle_blocks.specs.Inside.Trees.Builder.{AreClasses, AreMembers, items_at}
use Rattle.isle_blocks.proofs.rule_set.RuleSet.class_lists.Given as goal

abbrev pub invariant-loop-rule : goal.invariant-loop-rule
invariant-loop-rule l = record {
  size : length l.lists.items ≡ l.rule-index;
  classes : (i : ℕ) → i < l.rule-index → AreClasses l.self i (items_at l.lists.items i);
  members : (i : ℕ) → i < l.rule-index → AreMembers l.self i (items_at l.lists.items i);
}
