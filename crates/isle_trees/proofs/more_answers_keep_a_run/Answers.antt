use Rattle.isle_trees.proofs.Whole.{whole_kept}
use Rattle.isle_trees.proofs.more_answers_keep_a_run.Goals as goal

pub returns : goal.returns
returns g c = whole_kept
