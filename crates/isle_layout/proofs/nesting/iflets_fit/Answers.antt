use Rattle.std.proofs.Common.{◌+◌, ◌≤◌, max, refl, arith}
use Rattle.isle_ast.specs.declared.ast.IfLet.{IfLet}
use Rattle.isle_ast.specs.Trees.PatternShape.{pattern_of}
use Rattle.isle_ast.specs.Trees.ExprShape.{expr_of}
use Rattle.isle_layout.specs.Nesting.{pattern_nesting, expr_nesting, iflet_nestings}
use Rattle.isle_layout.proofs.Nestings.{rest_fits}
use Rattle.isle_layout.proofs.nesting.iflets_fit.Goals as goal

pub loop-iflet-preserved : goal.loop-iflet-preserved
loop-iflet-preserved c =
    let iflet = c.iflet-item.result in
    let pattern = c.if-not-pattern_fits.ensures.0 refl in
    let expr = c.if-not-expr_fits.ensures.0 refl in
    let positive = c.if-depth_left-eq0.false in
    let fits : max (pattern_nesting (pattern_of iflet.pattern)) (expr_nesting (expr_of iflet.expr)) + 1 ≤ c.args.depth_left = omega arith in
    rest_fits (λ (x : IfLet). max (pattern_nesting (pattern_of x.pattern)) (expr_nesting (expr_of x.expr)) + 1) iflet_nestings
    c.args.depth_left c.args.iflets.now c.loop-iflet.iflet-index iflet (λ x xs. refl) c.loop-iflet-test.true c.iflet-item.is fits
    c.loop-iflet.invariant
