use Rattle.std.proofs.Common.{◌≡◌, ℕ, length}
use Rattle.isle_trees.specs.Search.{AreMadeBelow}
use Rattle.isle_blocks.specs.Rows.{numbers_of}
use Rattle.isle_blocks.specs.Inside.Trees.Builder.{items_at, rules_in}
use Rattle.isle_blocks.proofs.rule_set.RuleSet.made_lists.Given as goal

abbrev pub invariant-loop-site : goal.invariant-loop-site
invariant-loop-site l = record {
  size : length l.lists.items ≡ length l.self.sites;
  made : (s : ℕ) → AreMadeBelow (rules_in l.self) l.site s (numbers_of (items_at l.lists.items s));
}
