use Rattle.std.proofs.Common.{Result, drop}
use Rattle.isle_rules.specs.declared.visit.fault.VisitFault.{VisitFault}
use Rattle.isle_rules.specs.Visits.Events.{visits_all, visits_each}
use Rattle.isle_rules.specs.Visits.VisitScopes.{VisitScope, scope_of}
use Rattle.isle_rules.specs.Visits.InternedTrees.{patterns_of}
use Rattle.isle_rules.proofs.+visit_pattern.Given as goal

abbrev pub invariant-visit::patterns::visit_all-loop-i : goal.invariant-visit::patterns::visit_all-loop-i
invariant-visit::patterns::visit_all-loop-i g l = (o : Result (VisitScope _) VisitFault) (s : _)
    → visits_all g.V.PatternVisitor.pattern_step l.termenv.terms (patterns_of (drop l.i l.patterns)) (drop l.i l.inputs)
    (scope_of l.vars) l.visitor o s
    → visits_all g.V.PatternVisitor.pattern_step l.termenv.terms (patterns_of l.patterns) l.inputs
    (scope_of l.initial.vars) l.initial.visitor o s

abbrev pub invariant-visit::patterns::visit_each-loop-i : goal.invariant-visit::patterns::visit_each-loop-i
invariant-visit::patterns::visit_each-loop-i g l = (o : Result (VisitScope _) VisitFault) (s : _)
    → visits_each g.V.PatternVisitor.pattern_step l.termenv.terms (patterns_of (drop l.i l.patterns)) l.input (scope_of l.vars) l.visitor o s
    → visits_each g.V.PatternVisitor.pattern_step l.termenv.terms (patterns_of l.patterns) l.input
    (scope_of l.initial.vars) l.initial.visitor o s
