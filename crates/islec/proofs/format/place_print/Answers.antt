use Rattle.islec.proofs.WritingLemmas.{whole_begins}
use Rattle.islec.proofs.format.place_print.Goals as goal

pub returns-in_ok-write_unwritten-in-Err-Fails-clause-cut : goal.returns-in_ok-write_unwritten-in-Err-Fails-clause-cut
returns-in_ok-write_unwritten-in-Err-Fails-clause-cut g c = λ other.
    (c.in-Err-Fails.kind, whole_begins _ _ _ c.in_ok-write_unwritten-in-Err-Fails.ensures.ok)
