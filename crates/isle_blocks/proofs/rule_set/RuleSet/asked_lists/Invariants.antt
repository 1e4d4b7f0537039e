use Rattle.std.proofs.Common.{◌≡◌, ◌<◌, ℕ, length}
use Rattle.isle_trees.specs.Search.{IsAskedBy, IsClean}
use Rattle.isle_blocks.specs.Rows.{numbers_of}
use Rattle.isle_blocks.specs.Inside.Trees.Builder.{items_at, rules_in}
use Rattle.isle_blocks.proofs.rule_set.RuleSet.asked_lists.Given as goal

abbrev pub invariant-loop-rule : goal.invariant-loop-rule
invariant-loop-rule l = record {
  clean : IsClean (length l.self.sites) l.marks;
  size : length l.lists.items ≡ l.rule;
  each : (j : ℕ) → j < l.rule → IsAskedBy (rules_in l.self) (length l.self.sites) j (numbers_of (items_at l.lists.items j));
}
