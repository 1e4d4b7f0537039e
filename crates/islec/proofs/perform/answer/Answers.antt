use Rattle.islec.proofs.ServingLemmas.{cuts_at}
use Rattle.islec.proofs.perform.answer.Goals as goal

pub returns-in-Err-clause-cut : goal.returns-in-Err-clause-cut
returns-in-Err-clause-cut g c = λ _.
    cuts_at _ c.args.world.now c.serve.new.world (g.R.Read.remaining c.args.reader.now) (g.R.Read.remaining c.serve.new.reader)
    (g.W.Write.contents c.args.writer.now) (g.W.Write.contents c.serve.new.writer)
    c.in-Err.fault c.in-Err.ensures.stopped c.in-Err.ensures.cut
