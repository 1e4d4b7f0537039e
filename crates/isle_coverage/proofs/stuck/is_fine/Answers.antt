use Rattle.std.proofs.Common.{inr, subst}
use Rattle.isle_coverage.specs.Verdicts.{IsVerdict}
use Rattle.isle_coverage.proofs.stuck.is_fine.Goals as goal

pub returns : goal.returns
returns c = λ e files compiled marked may. inr (subst (IsVerdict c.args.program.now c.args.term.0) (c.is_covered-covered.ensures e)
    (c.in_ok-verdict.ensures files compiled may))
