use Rattle.std.proofs.Common.{◌+◌, ◌≤◌, refl, arith}
use Rattle.isle_ast.specs.declared.ast.LetDef.{LetDef}
use Rattle.isle_ast.specs.Trees.ExprShape.{expr_of, exprs_of, lets_of}
use Rattle.isle_layout.specs.Nesting.{expr_nesting, expr_nestings, let_nestings}
use Rattle.isle_layout.proofs.Nestings.{rest_fits, first_fits}
use Rattle.isle_layout.proofs.nesting.+expr_fits.Goals as goal

pub exprs_fit-loop-expr-preserved : goal.exprs_fit-loop-expr-preserved
exprs_fit-loop-expr-preserved t c =
    rest_fits (λ x. expr_nesting (expr_of x)) (λ xs. expr_nestings (exprs_of xs)) c.args.depth_left c.args.exprs.now
    c.loop-expr.expr-index c.expr-item.result
    (λ x xs. refl) c.loop-expr-test.true c.expr-item.is (c.if-not-expr_fits.ensures.0 refl) c.loop-expr.invariant

pub exprs_fit-returns-then-not-expr_fits : goal.exprs_fit-returns-then-not-expr_fits
exprs_fit-returns-then-not-expr_fits t c = (
  λ never. absurd cc,
  λ all. c.if-not-expr_fits.ensures.1
      (first_fits (λ x. expr_nesting (expr_of x)) (λ xs. expr_nestings (exprs_of xs)) c.args.depth_left c.args.exprs.now
      c.loop-expr.expr-index c.expr-item.result
      (λ x xs. refl) c.loop-expr-test.true c.expr-item.is c.loop-expr.invariant all),
)

pub lets_fit-loop-def-preserved : goal.lets_fit-loop-def-preserved
lets_fit-loop-def-preserved t c =
    let below = c.if-not-expr_fits.ensures.0 refl in
    let positive = c.if-depth_left-eq0.false in
    let fits : expr_nesting (expr_of c.def-item.result.val) + 1 ≤ c.args.depth_left = omega arith in
    rest_fits (λ (x : LetDef). expr_nesting (expr_of x.val) + 1) (λ xs. let_nestings (lets_of xs)) c.args.depth_left
    c.args.defs.now c.loop-def.def-index c.def-item.result
    (λ x xs. refl) c.loop-def-test.true c.def-item.is fits c.loop-def.invariant
