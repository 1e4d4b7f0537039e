use Rattle.isle_meaning.proofs.Matching.Visited as its
use Rattle.isle_meaning.proofs.laws.matching.visit_is_written.Goals as goal

pub returns : goal.returns
returns c = its.visit_is_written
