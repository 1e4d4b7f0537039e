use Rattle.islec.proofs.WritingLemmas.{begins_text}
use Rattle.islec.proofs.status.out_of_memory.Goals as goal

pub returns-clause-written : goal.returns-clause-written
returns-clause-written g c = begins_text _ _ _ _ c.write_text.result c.write_text.ensures.ok c.write_text.ensures.err
