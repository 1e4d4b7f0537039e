use Rattle.std.proofs.Common.{◌≡◌, length, take}
use Rattle.isle_blocks.specs.Rows.{numbers_of}
use Rattle.isle_blocks.specs.Inside.Trees.Builder.{items_at}
use Rattle.isle_blocks.specs.Inside.Trees.Marking.{ListsAt}
use Rattle.isle_blocks.proofs.rule_set.RuleSet.add_dependent.Given as goal

abbrev pub invariant-loop-part : goal.invariant-loop-part
invariant-loop-part l = record {
  size : length l.lists.items ≡ length l.initial.lists.items;
  lists : ListsAt l.site.0 (take l.part-index (numbers_of l.part-items)) (λ p. numbers_of (items_at l.initial.lists.items p))
      (λ p. numbers_of (items_at l.lists.items p));
}
