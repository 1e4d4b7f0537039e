use Rattle.std.proofs.Common.{◌≡◌, length, take}
use Rattle.isle_blocks.specs.Rows.{numbers_of}
use Rattle.isle_blocks.specs.Inside.Trees.Builder.{items_at, rules_in}
use Rattle.isle_blocks.proofs.Trees.Marking.Dependents.{IsListing}
use Rattle.isle_blocks.proofs.rule_set.RuleSet.dependent_lists.Given as goal

abbrev pub invariant-loop-site : goal.invariant-loop-site
invariant-loop-site l = record {
  size : length l.lists.items ≡ length l.self.sites;
  listing : IsListing (rules_in l.self) (length l.self.sites) (take l.site-index (numbers_of l.site-items))
      (λ p. numbers_of (items_at l.lists.items p));
}
