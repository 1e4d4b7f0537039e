use Rattle.isle_meaning.proofs.Matching.Testing as its
use Rattle.isle_meaning.proofs.laws.matching.demands_are_tested.Goals as goal

pub returns : goal.returns
returns c = its.demands_are_tested
