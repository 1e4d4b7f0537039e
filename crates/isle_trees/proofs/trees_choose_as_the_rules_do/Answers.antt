use Rattle.isle_trees.proofs.Whole.{whole_right}
use Rattle.isle_trees.proofs.trees_choose_as_the_rules_do.Goals as goal

pub returns : goal.returns
returns g c = whole_right
