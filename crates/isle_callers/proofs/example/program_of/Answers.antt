use Rattle.std.proofs.lemmas.Result.{IfOk-weaker}
use Rattle.isle_callers.proofs.example.program_of.Goals as goal

pub returns : goal.returns
returns c = IfOk-weaker c.compile.result _ _ (λ program is. record { files = _; is = is }) c.compile.ensures.compiled
