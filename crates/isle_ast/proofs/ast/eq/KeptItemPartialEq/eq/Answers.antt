use Rattle.isle_ast.specs.Trees.ItemCode.{item_tree_code}
use Rattle.isle_ast.proofs.Trees.Equality.{answered}
use Rattle.isle_ast.proofs.ast.eq.KeptItemPartialEq.eq.Goals as goal

pub returns : goal.returns
returns c = answered item_tree_code _ _ _ c.is_same_item.ensures
