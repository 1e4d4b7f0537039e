use Rattle.std.proofs.Common.{sym, ◌∙◌}
use Rattle.isle_calls.proofs.OpenCalls.Unmatched.{stuck_told}
use Rattle.isle_calls.proofs.frames.unmatched.Goals as goal

pub returns : goal.returns
returns c = λ k of_program of_term stand typed.
    stuck_told k c.args.program.now of_program c.args.store.now c.args.term c.args.args.now of_term stand typed c.arg_types.result.now
    c.arg_types.ensures c.in_ok-args.args c.in_ok-args.ensures (sym c.is_partial.ensures ∙ c.if-is_partial.false)
