use Rattle.isle_meaning.proofs.Matching.OneAnswer as its
use Rattle.isle_meaning.proofs.laws.elaborated.none_is_multi_and_partial.Goals as goal

pub returns : goal.returns
returns c = its.none_is_multi_and_partial
