use Rattle.isle_trees.proofs.Whole.{whole_steps, weighed_well}
use Rattle.isle_trees.proofs.walks_are_short.Goals as goal

pub returns : goal.returns
returns g c = λ R left T v w b. whole_steps R left T v (weighed_well R w) b
