-- Children are lower than their expression.
use Rattle.std.specs.Prelude.{◌≤◌, List, [], ◌∷◌}
use Rattle.std.proofs.Common.{arith}
use denote.Param.Weighed.{most}
use Rattle.isle_ast.specs.declared.ast.Expr.{Expr}
use Rattle.isle_ast.specs.declared.ast.Expr.TheVariants.{Term, Var, ConstBool, ConstInt, ConstPrim, Let}
use Rattle.isle_ast.specs.declared.ast.LetDef.{LetDef}
use Rattle.isle_ast.specs.declared.ast.BoxedExpr.TheDeep.{deep-Expr, deep-LetDef}
use Rattle.isle_ast.specs.Trees.ExprTree.{expr_height, expr_heights, let_heights}
use Rattle.isle_ast.specs.Trees.ExprShape.{expr_of, exprs_of, lets_of}

pub expr_decreases : (p : Expr) → deep-Expr p ≤ expr_height (expr_of p)
expr_decreases (Term f ts p) = omega arith
expr_decreases (Var x p) = omega arith
expr_decreases (ConstBool b p) = omega arith
expr_decreases (ConstInt n big p) = omega arith
expr_decreases (ConstPrim x p) = omega arith
expr_decreases (Let ds t p) = omega arith

pub exprs_decrease : (ps : List Expr) → most deep-Expr ps ≤ expr_heights (exprs_of ps)
exprs_decrease [] = omega arith
exprs_decrease (p ∷ ps) = omega (arith, expr_decreases p, exprs_decrease ps)

pub lets_decrease : (ds : List LetDef) → most deep-LetDef ds ≤ let_heights (lets_of ds)
lets_decrease [] = omega arith
lets_decrease (d ∷ ds) = omega (arith, expr_decreases d.val, lets_decrease ds)
