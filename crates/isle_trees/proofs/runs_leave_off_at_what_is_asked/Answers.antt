use Rattle.isle_trees.proofs.Whole.{whole_off}
use Rattle.isle_trees.proofs.runs_leave_off_at_what_is_asked.Goals as goal

pub returns : goal.returns
returns g c = whole_off
