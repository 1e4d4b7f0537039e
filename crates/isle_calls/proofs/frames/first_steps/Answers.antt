use Rattle.std.proofs.Common.{sym, ◌∙◌}
use Rattle.isle_calls.proofs.OpenCalls.Stacked.{first_at}
use Rattle.isle_calls.proofs.frames.first_steps.Goals as goal

pub returns-in-len1-up : goal.returns-in-len1-up
returns-in-len1-up g c = c.steps-in-len1-up.ensures
    ∙ sym (first_at g.R.Road.way c.args.waiting.now c.first-item.result (g.R.Road.way.steps_of c.args.top.now)
    c.in-len1-up.len_at_least c.first-item.is)
