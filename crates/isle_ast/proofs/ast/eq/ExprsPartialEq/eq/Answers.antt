use Rattle.isle_ast.specs.Trees.ExprCode.{expr_trees_code}
use Rattle.isle_ast.proofs.Trees.Equality.{answered}
use Rattle.isle_ast.proofs.ast.eq.ExprsPartialEq.eq.Goals as goal

pub returns : goal.returns
returns c =
    let same = answered expr_trees_code _ _ _ c.are_same_exprs.ensures in rw (c.as_slice.ensures, c.as_slice-2.ensures) at same
