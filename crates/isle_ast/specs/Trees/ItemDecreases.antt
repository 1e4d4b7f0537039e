-- Children are lower than their item.
use Rattle.std.specs.Prelude.{◌≤◌, List, [], ◌∷◌}
use Rattle.std.proofs.Common.{arith}
use denote.Param.Weighed.{most}
use Rattle.isle_ast.specs.declared.ast.KeptItem.{KeptItem}
use Rattle.isle_ast.specs.declared.ast.KeptItem.TheVariants.{Int, Big, Symbol, At, List as Nested}
use Rattle.isle_ast.specs.declared.ast.KeptItems.TheDeep.{deep-KeptItem}
use Rattle.isle_ast.specs.Trees.ItemTree.{item_height, item_heights}
use Rattle.isle_ast.specs.Trees.ItemShape.{item_of, items_of}

pub item_decreases : (p : KeptItem) → deep-KeptItem p ≤ item_height (item_of p)
item_decreases (Int n p) = omega arith
item_decreases (Big n p) = omega arith
item_decreases (Symbol x) = omega arith
item_decreases (At p) = omega arith
item_decreases (Nested ts p) = omega arith

pub items_decrease : (ps : List KeptItem) → most deep-KeptItem ps ≤ item_heights (items_of ps)
items_decrease [] = omega arith
items_decrease (p ∷ ps) = omega (arith, item_decreases p, items_decrease ps)
