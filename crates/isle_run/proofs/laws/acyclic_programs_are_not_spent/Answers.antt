use Rattle.isle_run.proofs.Chains.Acyclic as its
use Rattle.isle_run.proofs.laws.acyclic_programs_are_not_spent.Goals as goal

pub returns : goal.returns
returns c = its.acyclic_programs_are_not_spent
