use Rattle.isle_meaning.proofs.Matching.Whole as its
use Rattle.isle_meaning.proofs.laws.matching.wider_matches.Goals as goal

pub returns : goal.returns
returns c = its.wider_matches
