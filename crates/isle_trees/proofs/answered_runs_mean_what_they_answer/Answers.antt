use Rattle.isle_trees.proofs.Nesting.{answered_means}
use Rattle.isle_trees.proofs.answered_runs_mean_what_they_answer.Goals as goal

pub returns : goal.returns
returns g c = λ P n t args is k. answered_means n P t args is k
