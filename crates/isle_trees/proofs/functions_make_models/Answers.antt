use Rattle.isle_trees.proofs.Whole.{whole_calls}
use Rattle.isle_trees.proofs.functions_make_models.Goals as goal

pub returns : goal.returns
returns g c = whole_calls
