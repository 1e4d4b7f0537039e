use Rattle.std.proofs.Common.{◌≡◌, map, take}
use Rattle.isle_ast.specs.Trees.ItemShape.{item_of}
use Rattle.isle_ast.proofs.ast.eq.+same_item.Given as goal

abbrev pub invariant-are_same_items-loop-i : goal.invariant-are_same_items-loop-i
invariant-are_same_items-loop-i l = map item_of (take l.i l.a) ≡ map item_of (take l.i l.b)
