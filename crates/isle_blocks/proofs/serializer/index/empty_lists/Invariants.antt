use Rattle.std.proofs.Common.{◌≡◌, ◌≤◌, ◌-◌, ℕ, length, []}
use Rattle.isle_blocks.specs.Inside.Trees.Builder.{items_at}
use Rattle.isle_blocks.proofs.serializer.index.empty_lists.Given as goal

abbrev pub invariant-lists : goal.invariant-lists
invariant-lists g l = record {
  size : length l.lists.items ≤ l.count;
  empty : (s : ℕ) → items_at l.lists.items s ≡ [];
}

abbrev pub decreases-lists : goal.decreases-lists
decreases-lists g l = l.count - length l.lists.items
