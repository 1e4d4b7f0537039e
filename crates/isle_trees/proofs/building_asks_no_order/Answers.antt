use Rattle.isle_trees.proofs.Building.Reorder.{same_builds}
use Rattle.isle_trees.proofs.building_asks_no_order.Goals as goal

pub returns : goal.returns
returns g c = λ R left again sc T same b. same_builds R T left again sc same b
