use Rattle.isle_trees.proofs.Whole.{whole_order}
use Rattle.isle_trees.proofs.returns_bind_in_order.Goals as goal

pub returns : goal.returns
returns g c = whole_order
