use Rattle.isle_ast.specs.Trees.ItemCode.{item_tree_code, item_trees_code}
use Rattle.isle_ast.specs.Trees.ItemShape.{item_of}
use Rattle.isle_ast.specs.Trees.Equality.{same_coded-decides}
use Rattle.isle_ast.proofs.Trees.Equality.{same_item-decides}
use Rattle.isle_ast.proofs.laws.equal_items_are_the_same.Goals as goal

pub returns-clause-items : goal.returns-clause-items
returns-clause-items c = same_item-decides

pub returns-clause-trees : goal.returns-clause-trees
returns-clause-trees c = λ i j. same_coded-decides item_tree_code (item_of i) (item_of j)

pub returns-clause-lists : goal.returns-clause-lists
returns-clause-lists c = same_coded-decides item_trees_code
