use Rattle.isle_trees.proofs.Whole.{whole_run}
use Rattle.isle_trees.proofs.machines_walk.Goals as goal

pub returns : goal.returns
returns g c = whole_run
