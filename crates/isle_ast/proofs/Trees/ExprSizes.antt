-- A recursion over expressions ends: those of a list are no larger than what holds them.
use Rattle.std.proofs.Common.{◌+◌, ◌*◌, ◌≤◌, List, [], ◌∷◌, arith}
use denote.Param.Weighed.{most}
use Rattle.isle_ast.specs.declared.ast.Expr.{Expr}
use Rattle.isle_ast.specs.declared.ast.LetDef.{LetDef}
use Rattle.isle_ast.specs.declared.ast.BoxedExpr.TheDeep.{size-Expr, size-LetDef}
use Rattle.isle_ast.specs.Trees.ExprTree.{expr_heights, let_heights}
use Rattle.isle_ast.specs.Trees.ExprDecreases.{expr_decreases}
use Rattle.isle_ast.specs.Trees.ExprShape.{exprs_of, lets_of}

pub most_expr_size : (ps : List Expr) → most (λ x. size-Expr x) ps ≤ 3 * expr_heights (exprs_of ps) + 1
most_expr_size [] = omega arith
most_expr_size (p ∷ ps) = omega (arith, expr_decreases p, most_expr_size ps)

pub most_let_size : (ds : List LetDef) → most (λ x. size-LetDef x) ds ≤ 3 * let_heights (lets_of ds) + 2
most_let_size [] = omega arith
most_let_size (d ∷ ds) = omega (arith, expr_decreases d.val, most_let_size ds)

-- what goes down expressions and bindings falls
pub ruleset expr_sizes = (most_expr_size, most_let_size)
