use Rattle.std.proofs.Common.{Result, drop}
use Rattle.isle_rules.specs.declared.visit.fault.VisitFault.{VisitFault}
use Rattle.isle_rules.specs.Visits.RuleEvents.{visits_args}
use Rattle.isle_rules.specs.Visits.VisitScopes.{VisitScope, scope_of, no_values}
use Rattle.isle_rules.proofs.visit.rules.visit_args.Given as goal

abbrev pub invariant-loop-i : goal.invariant-loop-i
invariant-loop-i g l =
    let told = visits_args g.V.RuleVisitor.rule_steps g.V.PatternVisitor.PatternVisitor.pattern_step l.termenv.terms in
    (o : Result (VisitScope _) VisitFault) (s : _) → told (drop l.i l.args) (drop l.i l.tys) l.i (scope_of l.vars) l.visitor o s
    → told l.args l.tys 0 no_values l.initial.visitor o s
