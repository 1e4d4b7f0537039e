use Rattle.isle_trees.proofs.Nesting.{open_chain}
use Rattle.isle_trees.proofs.unanswered_runs_have_a_chain.Goals as goal

pub returns : goal.returns
returns g c = λ P n t args is k. open_chain n P t args is k
