use Rattle.std.proofs.Common.{codes, ◌++◌}
use Rattle.std.proofs.lemmas.Result.{on_ok_weaker, on_err_weaker}
use Rattle.std.proofs.KnownBytes.{Appends-trans}
use Rattle.islec.proofs.WritingLemmas.{begins_longer, begins_behind, on_any}
use Rattle.islec.proofs.cause.write_line.Goals as goal

pub returns-in_err-write_text-clause-err : goal.returns-in_err-write_text-clause-err
returns-in_err-write_text-clause-err g c =
    on_any c.from_residual.result
    (begins_longer _ _ c.args.first.now (c.args.second.now ++ codes "\n") c.in_err-write_text.ensures.err)

pub returns-in_err-write_text-2-clause-err : goal.returns-in_err-write_text-2-clause-err
returns-in_err-write_text-2-clause-err g c =
    on_any c.from_residual-in_err-write_text-2.result
    (begins_behind _ _ _ c.args.first.now (c.args.second.now ++ codes "\n") c.in_ok-write_text.ensures.ok
    (begins_longer _ _ c.args.second.now (codes "\n") c.in_err-write_text-2.ensures.err))

pub returns-clause-ok : goal.returns-clause-ok
returns-clause-ok g c =
    on_ok_weaker c.write_text-3.result
    (λ last. Appends-trans _ _ _ c.args.first.now (c.args.second.now ++ codes "\n") c.in_ok-write_text.ensures.ok
    (Appends-trans _ _ _ c.args.second.now (codes "\n") c.in_ok-write_text-2.ensures.ok last)) c.write_text-3.ensures.ok

pub returns-clause-err : goal.returns-clause-err
returns-clause-err g c =
    on_err_weaker c.write_text-3.result
    (λ last. begins_behind _ _ _ c.args.first.now (c.args.second.now ++ codes "\n") c.in_ok-write_text.ensures.ok
    (begins_behind _ _ _ c.args.second.now (codes "\n") c.in_ok-write_text-2.ensures.ok last)) c.write_text-3.ensures.err
