use Rattle.isle_meaning.proofs.Matching.Sorting as its
use Rattle.isle_meaning.proofs.laws.matching.demands_suit.Goals as goal

pub returns : goal.returns
returns c = its.demands_suit
