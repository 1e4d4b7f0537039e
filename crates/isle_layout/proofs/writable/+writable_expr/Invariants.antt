use Rattle.std.proofs.Common.{◌≡◌, drop}
use Rattle.isle_ast.specs.Trees.ExprShape.{exprs_of, lets_of}
use Rattle.isle_layout.specs.Writable.{writable_exprs, writable_lets}
use Rattle.isle_layout.proofs.writable.+writable_expr.Given as goal

abbrev pub invariant-writable_exprs-loop-expr : goal.invariant-writable_exprs-loop-expr
invariant-writable_exprs-loop-expr l =
    writable_exprs (exprs_of (drop l.expr-index l.exprs)) ≡ writable_exprs (exprs_of l.exprs)

abbrev pub invariant-writable_lets-loop-def : goal.invariant-writable_lets-loop-def
invariant-writable_lets-loop-def l =
    writable_lets (lets_of (drop l.def-index l.defs)) ≡ writable_lets (lets_of l.defs)
