use Rattle.isle_meaning.proofs.Sites.Covered as its
use Rattle.isle_meaning.proofs.laws.sites.demands_are_answered.Goals as goal

pub returns : goal.returns
returns c = its.demands_are_answered
