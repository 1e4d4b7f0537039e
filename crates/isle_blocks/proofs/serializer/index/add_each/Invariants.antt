use Rattle.std.proofs.Common.{◌≡◌, ℕ, length, take}
use Rattle.isle_trees.specs.Rules.{Elem}
use Rattle.isle_blocks.specs.Rows.{numbers_of}
use Rattle.isle_blocks.specs.Inside.Trees.Builder.{items_at}
use Rattle.isle_blocks.specs.Inside.Trees.Work.{AddsOnly}
use Rattle.isle_blocks.proofs.serializer.index.add_each.Given as goal

abbrev pub invariant-loop-site : goal.invariant-loop-site
invariant-loop-site l = record {
  size : length l.lists.items ≡ length l.initial.lists.items;
  added : (s : ℕ) → AddsOnly l.rule (items_at l.initial.lists.items s) (items_at l.lists.items s);
  here : (s : ℕ) → Elem s (take l.site-index (numbers_of l.sites)) → Elem l.rule (items_at l.lists.items s);
}
