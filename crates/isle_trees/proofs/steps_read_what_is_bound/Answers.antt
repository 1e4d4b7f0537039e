use Rattle.isle_trees.proofs.Whole.{whole_closed}
use Rattle.isle_trees.proofs.steps_read_what_is_bound.Goals as goal

pub returns : goal.returns
returns g c = whole_closed
