use Rattle.isle_trees.proofs.Whole.{whole_fails}
use Rattle.isle_trees.proofs.right_sides_fail_at_contents.Goals as goal

pub returns : goal.returns
returns g c = whole_fails
