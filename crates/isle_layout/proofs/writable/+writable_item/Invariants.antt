use Rattle.std.proofs.Common.{◌≡◌, drop}
use Rattle.isle_ast.specs.Trees.ItemShape.{items_of}
use Rattle.isle_layout.specs.Writable.{writable_items}
use Rattle.isle_layout.proofs.writable.+writable_item.Given as goal

abbrev pub invariant-writable_items-loop-item : goal.invariant-writable_items-loop-item
invariant-writable_items-loop-item l =
    writable_items (items_of (drop l.item-index l.items)) ≡ writable_items (items_of l.items)
