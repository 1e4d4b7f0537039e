use Rattle.std.proofs.Common.{◌≡◌, ◌<◌, ℕ, length, true}
use Rattle.isle_trees.specs.Rules.{Elem}
use Rattle.isle_trees.specs.Scopes.{Test, has_test}
use Rattle.isle_trees.specs.Search.{first_of}
use Rattle.isle_blocks.specs.Inside.Trees.Builder.{IsRising, items_at, rules_in}
use Rattle.isle_blocks.proofs.rule_set.RuleSet.user_lists.Given as goal

abbrev pub invariant-loop-rule : goal.invariant-loop-rule
invariant-loop-rule l = record {
  size : length l.lists.items ≡ length l.self.sites;
  users : (j : ℕ) (t : Test) → j < l.rule → has_test (rules_in l.self) j t ≡ true → Elem j (items_at l.lists.items (first_of t));
  rising : (s : ℕ) → IsRising (items_at l.lists.items s);
  low : (s x : ℕ) → Elem x (items_at l.lists.items s) → x < l.rule;
}
