use Rattle.std.proofs.Common.{◌≡◌, ◌<◌, length, [], drop, Err, arith, drop_of_length-le}
use Rattle.std.proofs.lemmas.Result.{err_from_is_err_and}
use Rattle.isle_rules.specs.declared.visit.fault.VisitFault.TheVariants.{Undefined}
use Rattle.isle_rules.specs.Visits.VisitScopes.{scope_of}
use Rattle.isle_rules.proofs.Visiting.VisitRuleRuns.{args_short, args_more, args_stop_at_arg, args_stop}
use Rattle.isle_rules.proofs.visit.rules.visit_args.Goals as goal

pub returns-then-i-tys : goal.returns-then-i-tys
returns-then-i-tys g c =
    let past : drop c.loop-i.i c.args.tys.now ≡ [] = drop_of_length-le c.args.tys.now {i = c.loop-i.i} (omega arith) in
    c.loop-i.invariant (Err Undefined) c.loop-i.visitor
    (args_short g.V.RuleVisitor.rule_steps g.V.PatternVisitor.PatternVisitor.pattern_step
    c.args.termenv.now.terms c.args.args.now c.args.tys.now c.loop-i.i
    c.index-args-i.result (scope_of c.loop-i.vars) c.loop-i.visitor c.loop-i-test.true c.index-args-i.is past)

pub returns-in_err-input : goal.returns-in_err-input
returns-in_err-input g c =
    let p = err_from_is_err_and c.from_residual.result c.from_residual.ensures.1 in
    let n : c.loop-i.i < length c.args.tys.now = omega arith in
    rw (p.1, p.2) (c.loop-i.invariant (Err c.in_err-input.field-0.0) c.add_arg.new.self
    (args_stop_at_arg g.V.RuleVisitor.rule_steps g.V.PatternVisitor.PatternVisitor.pattern_step
    c.args.termenv.now.terms c.args.args.now c.args.tys.now c.loop-i.i
    c.index-args-i.result (scope_of c.loop-i.vars) c.loop-i.visitor c.loop-i-test.true c.index-args-i.is n
    c.in_err-input.field-0.0 c.add_arg.new.self c.in_err-input.ensures))

pub returns-in_err-vars : goal.returns-in_err-vars
returns-in_err-vars g c =
    let p = err_from_is_err_and c.from_residual-in_err-vars.result c.from_residual-in_err-vars.ensures.1 in
    let n : c.loop-i.i < length c.args.tys.now = omega arith in
    rw (p.1, p.2) (c.loop-i.invariant (Err c.in_err-vars.field-0.0) c.visit_pattern.new.visitor
    (args_stop g.V.RuleVisitor.rule_steps g.V.PatternVisitor.PatternVisitor.pattern_step
    c.args.termenv.now.terms c.args.args.now c.args.tys.now c.loop-i.i
    c.index-args-i.result (scope_of c.loop-i.vars) c.loop-i.visitor c.loop-i-test.true c.index-args-i.is n
    c.in_ok-input.input c.add_arg.new.self c.in_err-vars.field-0.0 c.visit_pattern.new.visitor c.in_ok-input.ensures c.in_err-vars.ensures))

pub loop-i-preserved : goal.loop-i-preserved
loop-i-preserved g c = λ o s rest.
    let n : c.loop-i.i < length c.args.tys.now = omega arith in
    c.loop-i.invariant o s
    (args_more g.V.RuleVisitor.rule_steps g.V.PatternVisitor.PatternVisitor.pattern_step
    c.args.termenv.now.terms c.args.args.now c.args.tys.now c.loop-i.i
    c.index-args-i.result (scope_of c.loop-i.vars) c.loop-i.visitor c.loop-i-test.true c.index-args-i.is n
    c.in_ok-input.input (scope_of c.in_ok-vars.vars) c.add_arg.new.self c.visit_pattern.new.visitor o s c.in_ok-input.ensures c.in_ok-vars.ensures
    rest)
