use Rattle.isle_trees.proofs.Whole.{whole_ascends}
use Rattle.isle_trees.proofs.arms_ascend.Goals as goal

pub returns : goal.returns
returns g c = λ R left T w b. whole_ascends R left T w.exact.same_self b
