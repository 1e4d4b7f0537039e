use Rattle.isle_ast.specs.Trees.ExprCode.{expr_tree_code}
use Rattle.isle_ast.proofs.Trees.Equality.{answered}
use Rattle.isle_ast.proofs.ast.eq.BoxedExprPartialEq.eq.Goals as goal

pub returns : goal.returns
returns c =
    let same = answered expr_tree_code _ _ _ c.is_same_expr.ensures in rw (c.get.ensures, c.get-2.ensures) at same
