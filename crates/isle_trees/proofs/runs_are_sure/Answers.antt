use Rattle.isle_trees.proofs.Whole.{whole_sure}
use Rattle.isle_trees.proofs.runs_are_sure.Goals as goal

pub returns : goal.returns
returns g c = whole_sure
