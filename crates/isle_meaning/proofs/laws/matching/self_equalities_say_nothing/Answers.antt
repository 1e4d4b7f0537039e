use Rattle.isle_meaning.proofs.Matching.Leaving as its
use Rattle.isle_meaning.proofs.laws.matching.self_equalities_say_nothing.Goals as goal

pub returns : goal.returns
returns c = its.self_equalities_say_nothing
