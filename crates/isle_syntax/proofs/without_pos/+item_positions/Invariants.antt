use Rattle.std.proofs.Common.{◌≡◌, map}
use Rattle.isle_ast.specs.Trees.ItemShape.{item_of}
use Rattle.isle_ast.specs.Trees.WithoutPos.{item_tree_without_pos}
use Rattle.isle_syntax.proofs.without_pos.+item_positions.Given as goal

abbrev pub invariant-clear_items-loop-item : goal.invariant-clear_items-loop-item
invariant-clear_items-loop-item l = map item_of l.all.items ≡ map (λ x. item_tree_without_pos (item_of x)) l.yielded
