use Rattle.isle_meaning.proofs.Sites.DerivedKinds as its
use Rattle.isle_meaning.proofs.laws.sites.rules_are_kinded.Goals as goal

pub returns : goal.returns
returns c = its.rules_are_kinded
