use Rattle.isle_ast.specs.Trees.ExprCode.{expr_tree_code}
use Rattle.isle_ast.proofs.Trees.Equality.{answered}
use Rattle.isle_ast.proofs.ast.eq.ExprPartialEq.eq.Goals as goal

pub returns : goal.returns
returns c = answered expr_tree_code _ _ _ c.is_same_expr.ensures
