use Rattle.std.proofs.Common.{Err}
use Rattle.std.proofs.lemmas.Result.{err_from_is_err_and}
use Rattle.isle_rules.specs.Visits.VisitScopes.{scope_of}
use Rattle.isle_rules.proofs.Visiting.VisitRuleRuns.{iflets_more, iflets_stop_at_value, iflets_stop_at_input, iflets_stop}
use Rattle.isle_rules.proofs.visit.rules.visit_iflets.Goals as goal

pub returns-in_err-value : goal.returns-in_err-value
returns-in_err-value g c =
    let v = g.V in
    let p = err_from_is_err_and c.from_residual.result c.from_residual.ensures.1 in
    rw (p.1, p.2) (c.loop-i.invariant (Err c.in_err-value.field-0.0) c.visit_in_rule.new.visitor
    (iflets_stop_at_value v.RuleVisitor.rule_steps v.PatternVisitor.PatternVisitor.pattern_step v.ExprVisitor.ExprVisitor.expr_step
    c.args.termenv.now.terms
    c.args.count c.args.iflets.now c.loop-i.i c.index-iflets-i.result (scope_of c.loop-i.vars) c.loop-i.visitor c.loop-i-test.true c.index-iflets-i.is
    c.in_err-value.field-0.0 c.visit_in_rule.new.visitor c.in_err-value.ensures))

pub returns-in_err-input : goal.returns-in_err-input
returns-in_err-input g c =
    let v = g.V in
    let p = err_from_is_err_and c.from_residual-in_err-input.result c.from_residual-in_err-input.ensures.1 in
    rw (p.1, p.2) (c.loop-i.invariant (Err c.in_err-input.field-0.0) c.expr_as_pattern.new.self
    (iflets_stop_at_input v.RuleVisitor.rule_steps v.PatternVisitor.PatternVisitor.pattern_step v.ExprVisitor.ExprVisitor.expr_step
    c.args.termenv.now.terms
    c.args.count c.args.iflets.now c.loop-i.i c.index-iflets-i.result (scope_of c.loop-i.vars) c.loop-i.visitor c.loop-i-test.true c.index-iflets-i.is
    c.in_ok-value.value c.visit_in_rule.new.visitor c.in_err-input.field-0.0 c.expr_as_pattern.new.self c.in_ok-value.ensures c.in_err-input.ensures))

pub returns-in_err-vars : goal.returns-in_err-vars
returns-in_err-vars g c =
    let v = g.V in
    let p = err_from_is_err_and c.from_residual-in_err-vars.result c.from_residual-in_err-vars.ensures.1 in
    rw (p.1, p.2) (c.loop-i.invariant (Err c.in_err-vars.field-0.0) c.visit_pattern.new.visitor
    (iflets_stop v.RuleVisitor.rule_steps v.PatternVisitor.PatternVisitor.pattern_step v.ExprVisitor.ExprVisitor.expr_step
    c.args.termenv.now.terms
    c.args.count c.args.iflets.now c.loop-i.i c.index-iflets-i.result (scope_of c.loop-i.vars) c.loop-i.visitor c.loop-i-test.true c.index-iflets-i.is
    c.in_ok-value.value c.in_ok-input.input c.visit_in_rule.new.visitor c.expr_as_pattern.new.self c.in_err-vars.field-0.0 c.visit_pattern.new.visitor
    c.in_ok-value.ensures c.in_ok-input.ensures c.in_err-vars.ensures))

pub loop-i-preserved : goal.loop-i-preserved
loop-i-preserved g c = λ o s rest.
    let v = g.V in
    c.loop-i.invariant o s
    (iflets_more v.RuleVisitor.rule_steps v.PatternVisitor.PatternVisitor.pattern_step v.ExprVisitor.ExprVisitor.expr_step
    c.args.termenv.now.terms
    c.args.count c.args.iflets.now c.loop-i.i c.index-iflets-i.result (scope_of c.loop-i.vars) c.loop-i.visitor c.loop-i-test.true c.index-iflets-i.is
    c.in_ok-value.value c.in_ok-input.input (scope_of c.in_ok-vars.vars) c.visit_in_rule.new.visitor c.expr_as_pattern.new.self
    c.visit_pattern.new.visitor o s
    c.in_ok-value.ensures c.in_ok-input.ensures c.in_ok-vars.ensures rest)
