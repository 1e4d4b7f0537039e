use Rattle.std.proofs.Common.{refl}
use Rattle.std.proofs.lemmas.Result.{err_from_is_err_and}
use Rattle.islec.proofs.EndingLemmas.{files_hold_back, world_holds_back}
use Rattle.islec.proofs.program.begin.Goals as goal

pub returns-in_err-texts-clause-refused : goal.returns-in_err-texts-clause-refused
returns-in_err-texts-clause-refused g c =
    let e = err_from_is_err_and c.from_residual-in_err-texts.result c.from_residual-in_err-texts.ensures.1 in
    let gives = g.S.Sources.gives c.args.sources.now in
    let unread = rw c.reads_input.ensures at c.in_err-texts.ensures.refused in
    rw (e.1, e.2) (files_hold_back gives _ _ c.in_ok-job.field-0 c.in_ok-job.ensures.reads c.in_err-texts.field-0.0 unread)

pub returns-in_err-world-clause-refused : goal.returns-in_err-world-clause-refused
returns-in_err-world-clause-refused g c =
    let e = err_from_is_err_and c.from_residual-in_err-world.result c.from_residual-in_err-world.ensures.1 in
    let gives = g.S.Sources.gives c.args.sources.now in
    rw (e.1, e.2) (world_holds_back gives _ _ c.in_ok-job.field-0 c.in_ok-job.ensures.reads c.in_err-world.field-0.0 c.in_err-world.ensures.refused)

pub returns-clause-begun : goal.returns-clause-begun
returns-clause-begun g c = record {
  line = c.in_ok-job.field-0;
  reads = c.in_ok-job.ensures.reads;
  job = refl;
  texts = c.in_ok-texts.ensures.named;
  world = c.in_ok-world.ensures.world;
  inputs = rw c.reads_input.ensures at c.in_ok-texts.ensures.inputs;
}
