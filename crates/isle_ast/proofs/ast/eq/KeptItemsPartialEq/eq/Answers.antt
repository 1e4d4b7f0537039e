use Rattle.isle_ast.specs.Trees.ItemCode.{item_trees_code}
use Rattle.isle_ast.proofs.Trees.Equality.{answered}
use Rattle.isle_ast.proofs.ast.eq.KeptItemsPartialEq.eq.Goals as goal

pub returns : goal.returns
returns c =
    let same = answered item_trees_code _ _ _ c.are_same_items.ensures in rw (c.as_slice.ensures, c.as_slice-2.ensures) at same
