use Rattle.isle_meaning.proofs.Matching.Leaving as its
use Rattle.isle_meaning.proofs.laws.matching.shadowed_is_never_chosen.Goals as goal

pub returns : goal.returns
returns c = its.shadowed_is_never_chosen
