use Rattle.isle_meaning.proofs.Matching.Whole as its
use Rattle.isle_meaning.proofs.laws.matching.matches_by_proper.Goals as goal

pub returns : goal.returns
returns c = its.matches_by_proper
