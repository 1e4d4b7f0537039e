use Rattle.std.proofs.Common.{◌≡◌, ◌<◌, ◌+◌, [], ◌∷◌, ◌++◌, length, drop, drop_of_length-le, get_or, Ok, Err, inl, inr, refl, arith}
use Rattle.std.proofs.lemmas.Result.{err_from_is_err_and}
use Rattle.isle_rules.specs.declared.visit.fault.VisitFault.TheVariants.{Undefined}
use Rattle.isle_rules.specs.Visits.Events.{visits_expr, visits_exprs, visits_bindings}
use Rattle.isle_rules.specs.Visits.VisitScopes.{scope_of, bound_by}
use Rattle.isle_rules.specs.Visits.InternedTrees.{expr_of, exprs_of, bindings_of}
use Rattle.isle_rules.proofs.Visiting.VisitRuns.{went, cut, no_type, cut_type, exprs_wait, bindings_wait}
use Rattle.isle_rules.proofs.Visiting.VisitTrees.{expr-Let}
use Rattle.isle_rules.proofs.+visit_expr.Goals as goal

pub rules::Expr::visit-returns-in_err-inner-in-Let : goal.rules::Expr::visit-returns-in_err-inner-in-Let
rules::Expr::visit-returns-in_err-inner-in-Let g t c =
    let p = err_from_is_err_and c.from_residual.result c.from_residual.ensures.1 in
    rw (p.1, p.2, c.in-Let.is, expr-Let) (inl (rw c.as_slice-in-Let.ensures at c.in_err-inner-in-Let.ensures))

pub rules::Expr::visit-returns-in_ok-inner-in-Let : goal.rules::Expr::visit-returns-in_ok-inner-in-Let
rules::Expr::visit-returns-in_ok-inner-in-Let g t c =
    let step = g.V.ExprVisitor.expr_step in
    let terms = c.args.termenv.now.terms in
    let first = rw c.as_slice-in-Let.ensures at c.in_ok-inner-in-Let.ensures in
    let rest = rw c.get.ensures at c.visit.ensures in
    rw (c.in-Let.is, expr-Let)
    (went (visits_bindings step terms (bindings_of c.in-Let.bindings) (scope_of c.args.vars.now)) (λ inner. visits_expr step terms
    (expr_of c.in-Let.body) inner)
    (scope_of c.in_ok-inner-in-Let.inner) c.args.visitor.now c.visit_bindings.new.visitor c.visit.result c.visit.new.visitor first rest)

pub visit::exprs::visit_bindings-returns-in_err-inner : goal.visit::exprs::visit_bindings-returns-in_err-inner
visit::exprs::visit_bindings-returns-in_err-inner g t c =
    let p = err_from_is_err_and c.from_residual.result c.from_residual.ensures.1 in
    rw (p.1, p.2) (bindings_wait g.V.ExprVisitor.expr_step c.args.termenv.now.terms (bindings_of c.args.bindings.now) (scope_of c.args.vars.now)
    c.args.visitor.now _ c.in_err-inner.ensures.refused)

pub visit::exprs::visit_all-returns-then-i-tys : goal.visit::exprs::visit_all-returns-then-i-tys
visit::exprs::visit_all-returns-then-i-tys g t c =
    let past : drop c.loop-i.i c.args.tys.now ≡ [] = drop_of_length-le c.args.tys.now {i = c.loop-i.i} (omega arith) in
    c.loop-i.invariant (Err Undefined) c.loop-i.visitor
    (rw (cut c.args.exprs.now c.loop-i.i c.index-exprs-i.result c.loop-i-test.true c.index-exprs-i.is, past) (inl refl, refl))

pub visit::exprs::visit_all-returns-in_err-value : goal.visit::exprs::visit_all-returns-in_err-value
visit::exprs::visit_all-returns-in_err-value g t c =
    let p = err_from_is_err_and c.from_residual.result c.from_residual.ensures.1 in
    let n : c.loop-i.i < length c.args.tys.now = omega arith in
    rw (p.1, p.2) (c.loop-i.invariant (Err c.in_err-value.field-0.0) c.visit.new.visitor
    (rw (cut c.args.exprs.now c.loop-i.i c.index-exprs-i.result c.loop-i-test.true c.index-exprs-i.is, cut_type c.args.tys.now c.loop-i.i n)
    (inl c.in_err-value.ensures)))

pub visit::exprs::visit_all-returns-in_err-push : goal.visit::exprs::visit_all-returns-in_err-push
visit::exprs::visit_all-returns-in_err-push g t c =
    let step = g.V.ExprVisitor.expr_step in
    let terms = c.args.termenv.now.terms in
    let scope = scope_of c.args.vars.now in
    let i = c.loop-i.i in
    let value = c.in_ok-value.value in
    let p = err_from_is_err_and c.from_residual-in_err-push.result c.from_residual-in_err-push.ensures.1 in
    let n : c.loop-i.i < length c.args.tys.now = omega arith in
    let before = c.loop-i.inputs.items ++ (value, get_or c.args.tys.now i no_type) ∷ [] in
    rw (p.1) (c.loop-i.invariant (Err p.0) c.visit.new.visitor
    (rw (cut c.args.exprs.now i c.index-exprs-i.result c.loop-i-test.true c.index-exprs-i.is, cut_type c.args.tys.now i n)
    (inr (
      value,
      c.visit.new.visitor,
      c.in_ok-value.ensures,
      exprs_wait step terms (exprs_of (drop (i + 1) c.args.exprs.now)) (drop (i + 1) c.args.tys.now) before scope c.visit.new.visitor p.0 p.2,
    ))))

pub visit::exprs::visit_all-loop-i-preserved : goal.visit::exprs::visit_all-loop-i-preserved
visit::exprs::visit_all-loop-i-preserved g t c = λ o s rest.
    let step = g.V.ExprVisitor.expr_step in
    let terms = c.args.termenv.now.terms in
    let scope = scope_of c.args.vars.now in
    let i = c.loop-i.i in
    let n : c.loop-i.i < length c.args.tys.now = omega arith in
    let exprs = exprs_of (drop (i + 1) c.args.exprs.now) in
    let tys = drop (i + 1) c.args.tys.now in
    let ty = get_or c.args.tys.now i no_type in
    c.loop-i.invariant o s
    (rw (cut c.args.exprs.now i c.index-exprs-i.result c.loop-i-test.true c.index-exprs-i.is, cut_type c.args.tys.now i n)
    (went (visits_expr step terms (expr_of c.index-exprs-i.result) scope)
    (λ value. visits_exprs step terms exprs tys (c.loop-i.inputs.items ++ (value, ty) ∷ []) scope)
    c.in_ok-value.value c.loop-i.visitor c.visit.new.visitor o s c.in_ok-value.ensures (rw c.in_ok-push.ensures.items at rest)))

pub visit::exprs::visit_all-returns : goal.visit::exprs::visit_all-returns
visit::exprs::visit_all-returns g t c =
    let past : drop c.loop-i.i c.args.exprs.now ≡ [] = drop_of_length-le c.args.exprs.now {i = c.loop-i.i} (omega arith) in
    c.loop-i.invariant (Ok c.loop-i.inputs.items) c.loop-i.visitor (rw past (refl, refl))

pub visit::exprs::visit_bindings-returns-in_err-value : goal.visit::exprs::visit_bindings-returns-in_err-value
visit::exprs::visit_bindings-returns-in_err-value g t c =
    let p = err_from_is_err_and c.from_residual-in_err-value.result c.from_residual-in_err-value.ensures.1 in
    rw (p.1, p.2) (c.loop-i.invariant (Err c.in_err-value.field-0.0) c.visit.new.visitor
    (rw (cut c.args.bindings.now c.loop-i.i c.index-bindings-i.result c.loop-i-test.true c.index-bindings-i.is)
    (inl (rw c.get.ensures at c.in_err-value.ensures))))

pub visit::exprs::visit_bindings-returns-in_err-bind : goal.visit::exprs::visit_bindings-returns-in_err-bind
visit::exprs::visit_bindings-returns-in_err-bind g t c =
    let step = g.V.ExprVisitor.expr_step in
    let terms = c.args.termenv.now.terms in
    let value = c.in_ok-value.value in
    let p = err_from_is_err_and c.from_residual-in_err-bind.result c.from_residual-in_err-bind.ensures.1 in
    rw (p.1, p.2) (c.loop-i.invariant (Err c.in_err-bind.field-0.0) c.visit.new.visitor
    (rw (cut c.args.bindings.now c.loop-i.i c.index-bindings-i.result c.loop-i-test.true c.index-bindings-i.is)
    (inr (
      value,
      c.visit.new.visitor,
      rw c.get.ensures at c.in_ok-value.ensures,
      bindings_wait step terms (bindings_of (drop (c.loop-i.i + 1) c.args.bindings.now))
          (bound_by (scope_of c.loop-i.inner) c.index-bindings-i.result.0 value) c.visit.new.visitor _ c.in_err-bind.ensures.refused,
    ))))

pub visit::exprs::visit_bindings-loop-i-preserved : goal.visit::exprs::visit_bindings-loop-i-preserved
visit::exprs::visit_bindings-loop-i-preserved g t c = λ o s rest.
    let step = g.V.ExprVisitor.expr_step in
    let terms = c.args.termenv.now.terms in
    let scope = scope_of c.loop-i.inner in
    let binding = c.index-bindings-i.result in
    let others = bindings_of (drop (c.loop-i.i + 1) c.args.bindings.now) in
    c.loop-i.invariant o s (rw (cut c.args.bindings.now c.loop-i.i binding c.loop-i-test.true c.index-bindings-i.is)
    (went (visits_expr step terms (expr_of binding.2) scope) (λ value. visits_bindings step terms others (bound_by scope binding.0 value))
    c.in_ok-value.value c.loop-i.visitor c.visit.new.visitor o s (rw c.get.ensures at c.in_ok-value.ensures) (rw c.in_ok-bind.ensures.bound at rest)))
