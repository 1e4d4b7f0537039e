use Rattle.isle_meaning.proofs.Matching.Whole as its
use Rattle.isle_meaning.proofs.laws.matching.never_both.Goals as goal

pub returns : goal.returns
returns c = its.never_match_both
