-- The frame has gone on so far.
use Rattle.isle_calls.specs.Calls.States.{host, state}
use Rattle.isle_calls.proofs.OpenCalls.Running.{IsGoing}
use Rattle.isle_calls.proofs.frames.advance.Given as goal

abbrev pub invariant-loop : goal.invariant-loop
invariant-loop g l = IsGoing (host g.W.World.step g.W.World.constructs g.W.World.extracts) g.R.Road.way
    (state (g.R.Road.compiled l.fn.road) l.fn.world l.fn.effects.items (g.R.Road.stored l.fn.road)) l.fn.frame
    (state (g.R.Road.compiled l.road) l.world l.effects.items (g.R.Road.stored l.road)) l.frame
