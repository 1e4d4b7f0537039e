use Rattle.std.proofs.Common.{◌≡◌, map, take}
use Rattle.isle_ast.specs.Trees.ExprShape.{expr_of}
use Rattle.isle_ast.specs.Trees.Equality.{let_of}
use Rattle.isle_ast.proofs.ast.eq.+same_expr.Given as goal

abbrev pub invariant-are_same_exprs-loop-i : goal.invariant-are_same_exprs-loop-i
invariant-are_same_exprs-loop-i l = map expr_of (take l.i l.a) ≡ map expr_of (take l.i l.b)

abbrev pub invariant-are_same_lets-loop-i : goal.invariant-are_same_lets-loop-i
invariant-are_same_lets-loop-i l = map let_of (take l.i l.a) ≡ map let_of (take l.i l.b)
