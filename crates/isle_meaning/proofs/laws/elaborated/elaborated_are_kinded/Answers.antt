use Rattle.isle_meaning.proofs.Sites.DerivedKinds.{elaborated_are_kinded}
use Rattle.isle_meaning.proofs.laws.elaborated.elaborated_are_kinded.Goals as goal

pub returns : goal.returns
returns c = elaborated_are_kinded
