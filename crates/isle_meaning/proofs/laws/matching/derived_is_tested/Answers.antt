use Rattle.isle_meaning.proofs.Matching.Testing as its
use Rattle.isle_meaning.proofs.laws.matching.derived_is_tested.Goals as goal

pub returns : goal.returns
returns c = its.derived_is_tested
