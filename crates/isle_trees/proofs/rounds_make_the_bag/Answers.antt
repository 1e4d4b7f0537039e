use Rattle.isle_trees.proofs.Whole.{whole_bag}
use Rattle.isle_trees.proofs.rounds_make_the_bag.Goals as goal

pub returns : goal.returns
returns g c = whole_bag
