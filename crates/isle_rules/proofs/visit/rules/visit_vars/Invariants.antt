use Rattle.std.proofs.Common.{Result, ◌-◌}
use Rattle.isle_rules.specs.declared.visit.fault.VisitFault.{VisitFault}
use Rattle.isle_rules.specs.Visits.RuleEvents.{visits_vars}
use Rattle.isle_rules.specs.Visits.VisitScopes.{VisitScope, scope_of, no_values}
use Rattle.isle_rules.proofs.visit.rules.visit_vars.Given as goal

abbrev pub invariant-loop-var : goal.invariant-loop-var
invariant-loop-var g l = (o : Result (VisitScope _) VisitFault) (s : _)
    → visits_vars g.V.RuleVisitor.rule_steps (scope_of l.vars) l.var (l.count - l.var) (scope_of l.values) l.visitor o s
    → visits_vars g.V.RuleVisitor.rule_steps (scope_of l.vars) 0 l.count no_values l.initial.visitor o s
