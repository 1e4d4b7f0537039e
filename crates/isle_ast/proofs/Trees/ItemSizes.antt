-- A recursion over kept items ends: those of a list are no larger than what holds them.
use Rattle.std.proofs.Common.{◌+◌, ◌*◌, ◌≤◌, List, [], ◌∷◌, arith}
use denote.Param.Weighed.{most}
use Rattle.isle_ast.specs.declared.ast.KeptItem.{KeptItem}
use Rattle.isle_ast.specs.declared.ast.KeptItems.TheDeep.{size-KeptItem}
use Rattle.isle_ast.specs.Trees.ItemTree.{item_heights}
use Rattle.isle_ast.specs.Trees.ItemDecreases.{item_decreases}
use Rattle.isle_ast.specs.Trees.ItemShape.{items_of}

pub most_item_size : (ps : List KeptItem) → most (λ x. size-KeptItem x) ps ≤ 2 * item_heights (items_of ps) + 1
most_item_size [] = omega arith
most_item_size (p ∷ ps) = omega (arith, item_decreases p, most_item_size ps)
