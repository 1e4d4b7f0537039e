use Rattle.isle_meaning.proofs.Matching.Leaving as its
use Rattle.isle_meaning.proofs.laws.matching.both_match_overlap.Goals as goal

pub returns : goal.returns
returns c = its.both_match_overlap
