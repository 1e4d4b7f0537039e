-- The map has where the site stood before the binding, if that is behind the first few.
use Rattle.std.proofs.Common.{arith}
use Rattle.isle_calls.proofs.TreeRoad.Indexing.{AreIndexed-pop_few, AreIndexed-pop, AreIndexed-pop_put}
use Rattle.isle_calls.proofs.machine.bound.Bound.undo.Goals as goal

pub invariant_of-self-else-len-ge-FEW : goal.invariant_of-self-else-len-ge-FEW
invariant_of-self-else-len-ge-FEW g c =
    AreIndexed-pop_few c.pop.new.self.items c.in-Some.field-0 c.self.inside.places (omega arith)
    (rw c.in-Some.ensures.items at c.self.invariant)

pub invariant_of-self : goal.invariant_of-self
invariant_of-self g c =
    AreIndexed-pop_put c.pop.new.self.items c.in-Some.field-0 c.self.inside.places c.insert.new.self _ c.insert.result (omega arith)
    c.in-Some-before.is c.insert.ensures.updates c.insert.ensures.absent
    (rw c.in-Some.ensures.items at c.self.invariant)

pub invariant_of-self-in-None : goal.invariant_of-self-in-None
invariant_of-self-in-None g c =
    AreIndexed-pop c.pop.new.self.items c.in-Some.field-0 c.self.inside.places c.remove.new.self _ (omega arith)
    c.in-None.is c.remove.ensures.updates
    (rw c.in-Some.ensures.items at c.self.invariant)
