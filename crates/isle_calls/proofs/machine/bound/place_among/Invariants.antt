-- The bindings from the place on are of other sites, so those before it tell.
use Rattle.std.proofs.Common.{◌≡◌, ◌≤◌, length, reverse, take}
use Rattle.isle_calls.specs.Inside.Blocks.Bounds.{place_in}
use Rattle.isle_calls.proofs.machine.bound.place_among.Given as goal

abbrev pub invariant-loop-place : goal.invariant-loop-place
invariant-loop-place g l = (l.place ≤ length l.bindings)
    × (place_in l.site (reverse l.bindings) ≡ place_in l.site (reverse (take l.place l.bindings)))

abbrev pub decreases-loop-place : goal.decreases-loop-place
decreases-loop-place g l = l.place
