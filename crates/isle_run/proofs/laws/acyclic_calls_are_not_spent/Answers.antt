use Rattle.isle_run.proofs.Blocks.Agreeing as its
use Rattle.isle_run.proofs.laws.acyclic_calls_are_not_spent.Goals as goal

pub returns : goal.returns
returns c = its.acyclic_calls_are_not_spent
