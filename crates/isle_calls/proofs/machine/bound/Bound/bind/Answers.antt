-- The map has where the binding stands, if it is behind the first few.
use Rattle.std.proofs.Common.{◌∙◌, arith}
use Rattle.isle_calls.specs.declared.machine.bound.BoundSite.{BoundSite}
use Rattle.isle_calls.proofs.TreeRoad.Indexing.{AreIndexed-push_few, AreIndexed-push}
use Rattle.isle_calls.proofs.machine.bound.Bound.bind.Goals as goal
use Rattle.isle_calls.proofs.machine.bound.Bound.bind.Goals.{then-place-lt-FEW, else-place-lt-FEW+in_ok-before}

pub invariant_of-self-2 : goal.invariant_of-self-2
invariant_of-self-2 g c =
    let xs = c.self.inside.bindings.items in
    let b : BoundSite _ = record { site = c.args.site; held = c.args.held; before = c.if-place-lt-FEW.before } in
    elim c.if-place-lt-FEW.branch [
      | then-place-lt-FEW w ↦
          rw (c.in_ok-push.ensures.items, w.self-inside-is, c.make_room.ensures.items)
          (AreIndexed-push_few xs b c.self.inside.places (omega arith) c.self.invariant)
      | else-place-lt-FEW+in_ok-before w ↦
          rw (c.in_ok-push.ensures.items, w.self-inside-is, c.make_room.ensures.items)
          (AreIndexed-push xs b c.self.inside.places w.insert.new.self c.len-place.result (omega arith) (omega arith)
          (w.before-is ∙ w.in_ok-before.ensures.old) w.in_ok-before.ensures.updates c.self.invariant)
    ]
