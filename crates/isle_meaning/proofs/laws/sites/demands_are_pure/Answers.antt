use Rattle.isle_meaning.proofs.Sites.Pure as its
use Rattle.isle_meaning.proofs.laws.sites.demands_are_pure.Goals as goal

pub returns : goal.returns
returns c = its.demands_are_pure
