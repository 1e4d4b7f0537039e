use Rattle.isle_trees.proofs.Whole.{whole_fields}
use Rattle.isle_trees.proofs.tests_bind_their_fields.Goals as goal

pub returns : goal.returns
returns g c = whole_fields
