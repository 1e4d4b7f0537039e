use Rattle.std.proofs.Common.{refl, sym, ◌∙◌}
use Rattle.isle_ast.specs.Trees.ExprShape.{expr_of, exprs_of}
use Rattle.isle_layout.specs.Writable.{writable_expr, writable_exprs}
use Rattle.isle_layout.proofs.Nestings.{rest_pass, first_fails}
use Rattle.isle_layout.proofs.writable.+writable_expr.Goals as goal

pub writable_exprs-loop-expr-preserved : goal.writable_exprs-loop-expr-preserved
writable_exprs-loop-expr-preserved t c =
    rest_pass (λ x. writable_expr (expr_of x)) (λ xs. writable_exprs (exprs_of xs)) (writable_exprs (exprs_of c.args.exprs.now))
    c.args.exprs.now c.loop-expr.expr-index
    c.expr-item.result (λ x xs. refl) c.loop-expr-test.true c.expr-item.is (sym c.writable_expr.ensures ∙ c.if-not-writable_expr.false)
    c.loop-expr.invariant

pub writable_exprs-returns-then-not-writable_expr : goal.writable_exprs-returns-then-not-writable_expr
writable_exprs-returns-then-not-writable_expr t c =
    first_fails (λ x. writable_expr (expr_of x)) (λ xs. writable_exprs (exprs_of xs)) (writable_exprs (exprs_of c.args.exprs.now))
    c.args.exprs.now c.loop-expr.expr-index
    c.expr-item.result (λ x xs. refl) c.loop-expr-test.true c.expr-item.is (sym c.writable_expr.ensures ∙ c.if-not-writable_expr.true)
    c.loop-expr.invariant
