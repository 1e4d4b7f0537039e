-- The call has run so far.
use Rattle.std.proofs.Common.{◌-◌}
use Rattle.isle_calls.specs.Calls.States.{host, state, answers_of}
use Rattle.isle_calls.specs.Calls.Ways.{IsReady}
use Rattle.isle_calls.specs.Stores.Values.{StandEach}
use Rattle.isle_calls.proofs.OpenCalls.Running.{IsRunning}
use Rattle.isle_calls.proofs.frames.answer_call.Given as goal

abbrev pub invariant-loop : goal.invariant-loop
invariant-loop g l =
    let words = host g.W.World.step g.W.World.constructs g.W.World.extracts in
    let first = state (g.R.Road.compiled l.fn.road) l.fn.world l.fn.effects.items (g.R.Road.stored l.fn.road) in
    IsRunning words g.R.Road.way first
    (λ vs. record { program = first.program; answers = answers_of words first; depth = l.fn.depth - 1; term = l.fn.term.0; args = vs })
    (λ vs. StandEach first.stored vs l.fn.args.items × IsReady g.R.Road.way.holds first.program l.fn.term.0 vs)
    (state (g.R.Road.compiled l.road) l.world l.effects.items (g.R.Road.stored l.road)) l.waiting.items l.top
