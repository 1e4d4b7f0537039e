use Rattle.islec.proofs.WritingLemmas.{begins_text}
use Rattle.islec.proofs.program.cannot_read.Goals as goal

pub returns-clause-written : goal.returns-clause-written
returns-clause-written g c = begins_text _ _ _ _ c.write_unread.result c.write_unread.ensures.ok c.write_unread.ensures.err
