use Rattle.std.proofs.Common.{Result, drop}
use Rattle.isle_rules.specs.declared.visit.fault.VisitFault.{VisitFault}
use Rattle.isle_rules.specs.Visits.RuleEvents.{visits_iflets}
use Rattle.isle_rules.specs.Visits.VisitScopes.{VisitScope, scope_of}
use Rattle.isle_rules.proofs.visit.rules.visit_iflets.Given as goal

abbrev pub invariant-loop-i : goal.invariant-loop-i
invariant-loop-i g l =
    let v = g.V in
    let told = visits_iflets v.RuleVisitor.rule_steps v.PatternVisitor.PatternVisitor.pattern_step v.ExprVisitor.ExprVisitor.expr_step
    l.termenv.terms l.count in
    (o : Result (VisitScope _) VisitFault) (s : _) → told (drop l.i l.iflets) (scope_of l.vars) l.visitor o s
    → told l.iflets (scope_of l.fn.vars) l.initial.visitor o s
