use Rattle.isle_terms.proofs.Steps.Leaving.{scope_left}
use Rattle.isle_terms.proofs.translate.bindings.Scope.leave.Goals as goal

pub invariant_of-self-in_ok-insert-in-Some-hidden : goal.invariant_of-self-in_ok-insert-in-Some-hidden
invariant_of-self-in_ok-insert-in-Some-hidden c =
    scope_left _ _ c.in-Some.last _ _ _ c.self.invariant c.in-Some.ensures.items c.in-Some-hidden.is c.in_ok-insert-in-Some-hidden.ensures.updates.0

pub invariant_of-self-in-None-last : goal.invariant_of-self-in-None-last
invariant_of-self-in-None-last c =
    scope_left _ _ c.in-Some.last _ _ _ c.self.invariant c.in-Some.ensures.items c.in-None.is c.remove.ensures.updates.0
