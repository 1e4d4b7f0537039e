use Rattle.std.proofs.Common.{◌≡◌, take}
use Rattle.isle_ast.proofs.ast.clone.+clone_item.Given as goal

abbrev pub invariant-clone_items-loop-item : goal.invariant-clone_items-loop-item
invariant-clone_items-loop-item l = l.all.items ≡ take l.item-index l.items
