use Rattle.std.proofs.Common.{Result, drop, List, []}
use Rattle.isle_types.specs.declared.ids.TypeId.{TypeId}
use Rattle.isle_rules.specs.declared.visit.fault.VisitFault.{VisitFault}
use Rattle.isle_rules.specs.Visits.Events.{visits_exprs, visits_bindings}
use Rattle.isle_rules.specs.Visits.VisitScopes.{VisitScope, scope_of}
use Rattle.isle_rules.specs.Visits.InternedTrees.{exprs_of, bindings_of}
use Rattle.isle_rules.proofs.+visit_expr.Given as goal

abbrev pub invariant-visit::exprs::visit_all-loop-i : goal.invariant-visit::exprs::visit_all-loop-i
invariant-visit::exprs::visit_all-loop-i g l = (o : Result (List (_ × TypeId)) VisitFault) (s : _)
    → visits_exprs g.V.ExprVisitor.expr_step l.termenv.terms (exprs_of (drop l.i l.exprs)) (drop l.i l.tys) l.inputs.items
    (scope_of l.vars) l.visitor o s
    → visits_exprs g.V.ExprVisitor.expr_step l.termenv.terms (exprs_of l.exprs) l.tys [] (scope_of l.vars) l.initial.visitor o s

abbrev pub invariant-visit::exprs::visit_bindings-loop-i : goal.invariant-visit::exprs::visit_bindings-loop-i
invariant-visit::exprs::visit_bindings-loop-i g l = (o : Result (VisitScope _) VisitFault) (s : _)
    → visits_bindings g.V.ExprVisitor.expr_step l.termenv.terms (bindings_of (drop l.i l.bindings)) (scope_of l.inner) l.visitor o s
    → visits_bindings g.V.ExprVisitor.expr_step l.termenv.terms (bindings_of l.bindings) (scope_of l.vars) l.initial.visitor o s
