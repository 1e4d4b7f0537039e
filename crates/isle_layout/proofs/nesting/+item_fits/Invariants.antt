use Rattle.std.proofs.Common.{◌↔◌, ◌≤◌, drop}
use Rattle.isle_ast.specs.Trees.ItemShape.{items_of}
use Rattle.isle_layout.specs.Nesting.{item_nestings}
use Rattle.isle_layout.proofs.nesting.+item_fits.Given as goal

abbrev pub invariant-items_fit-loop-item : goal.invariant-items_fit-loop-item
invariant-items_fit-loop-item l =
    (item_nestings (items_of (drop l.item-index l.items)) ≤ l.depth_left) ↔ (item_nestings (items_of l.items) ≤ l.depth_left)
