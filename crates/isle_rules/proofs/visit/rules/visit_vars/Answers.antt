use Rattle.std.proofs.Common.{◌+◌, ◌-◌, Err, inl}
use Rattle.std.proofs.lemmas.Result.{err_from_is_err_and}
use Rattle.isle_rules.specs.Visits.RuleEvents.{visits_var, visits_vars}
use Rattle.isle_rules.specs.Visits.VisitScopes.{scope_of}
use Rattle.isle_rules.proofs.Visiting.VisitRuns.{went}
use Rattle.isle_rules.proofs.Visiting.VisitRuleRuns.{left}
use Rattle.isle_rules.proofs.visit.rules.visit_vars.Goals as goal

pub returns-in_err-visit_var : goal.returns-in_err-visit_var
returns-in_err-visit_var g c =
    let p = err_from_is_err_and c.from_residual.result c.from_residual.ensures.1 in
    rw (p.1, p.2) (c.loop-var.invariant (Err c.in_err-visit_var.field-0.0) c.visit_var.new.visitor
    (rw (left c.args.count c.loop-var.var c.loop-var-test.true) (inl c.in_err-visit_var.ensures)))

pub loop-var-preserved : goal.loop-var-preserved
loop-var-preserved g c = λ o s rest.
    let steps = g.V.RuleVisitor.rule_steps in
    let scope = scope_of c.args.vars.now in
    let i = c.loop-var.var in
    c.loop-var.invariant o s (rw (left c.args.count i c.loop-var-test.true)
    (went (visits_var steps scope (record { 0 = i }) (scope_of c.loop-var.values)) (λ after. visits_vars steps scope (i + 1) (c.args.count -
    (i + 1)) after)
    (scope_of c.visit_var.new.values) c.loop-var.visitor c.visit_var.new.visitor o s c.in_ok-visit_var.ensures rest))
