use Rattle.std.proofs.lemmas.Result.{err_from_is_err_and}
use Rattle.islec.proofs.EndingLemmas.{unread_world}
use Rattle.islec.proofs.program.read_world.Goals as goal

pub returns-in_err-read_text-in-Some-clause-refused : goal.returns-in_err-read_text-in-Some-clause-refused
returns-in_err-read_text-in-Some-clause-refused g c =
    let e = err_from_is_err_and c.from_residual.result c.from_residual.ensures.1 in
    rw (e.1, e.2) (unread_world (g.S.Sources.gives c.args.sources.now) c.args.name c.in-Some.name c.in_err-read_text-in-Some.field-0.0 c.in-Some.is
    c.in_err-read_text-in-Some.ensures.refused)
