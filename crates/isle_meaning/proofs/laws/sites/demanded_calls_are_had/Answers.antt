use Rattle.isle_meaning.proofs.Sites.Had as its
use Rattle.isle_meaning.proofs.laws.sites.demanded_calls_are_had.Goals as goal

pub returns : goal.returns
returns c = its.demanded_calls_are_had
