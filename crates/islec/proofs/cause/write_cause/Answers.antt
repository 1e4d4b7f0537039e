use Rattle.std.proofs.Common.{codes}
use Rattle.std.proofs.lemmas.Result.{on_ok_weaker, on_err_weaker}
use Rattle.std.proofs.KnownBytes.{Appends-trans}
use Rattle.islec.specs.Causes.{line_of_two}
use Rattle.islec.proofs.WritingLemmas.{begins_longer, begins_behind, on_any}
use Rattle.islec.proofs.cause.write_cause.Goals as goal

pub returns-in_err-write_line-clause-err : goal.returns-in_err-write_line-clause-err
returns-in_err-write_line-clause-err g c =
    on_any c.from_residual.result
    (begins_longer _ _ (line_of_two c.args.first.now c.args.name.now) (line_of_two (codes "  ") c.args.cause.now)
    c.in_err-write_line.ensures.err)

pub returns-clause-ok : goal.returns-clause-ok
returns-clause-ok g c =
    on_ok_weaker c.write_line-2.result
    (λ last. Appends-trans _ _ _ (line_of_two c.args.first.now c.args.name.now) (line_of_two (codes "  ") c.args.cause.now)
    c.in_ok-write_line.ensures.ok last) c.write_line-2.ensures.ok

pub returns-clause-err : goal.returns-clause-err
returns-clause-err g c =
    on_err_weaker c.write_line-2.result
    (λ last. begins_behind _ _ _ (line_of_two c.args.first.now c.args.name.now) (line_of_two (codes "  ") c.args.cause.now)
    c.in_ok-write_line.ensures.ok last) c.write_line-2.ensures.err
