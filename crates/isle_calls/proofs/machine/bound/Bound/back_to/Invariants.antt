-- What would be left stays the same, as one binding after the other goes.
use Rattle.std.proofs.Common.{◌≡◌, ◌-◌, length, drop}
use Rattle.isle_calls.proofs.machine.bound.Bound.back_to.Given as goal

abbrev pub invariant-loop-self : goal.invariant-loop-self
invariant-loop-self g l = drop (length l.self - l.count) l.self ≡ drop (length l.initial.self - l.count) l.initial.self

abbrev pub decreases-loop-self : goal.decreases-loop-self
decreases-loop-self g l = length l.self
