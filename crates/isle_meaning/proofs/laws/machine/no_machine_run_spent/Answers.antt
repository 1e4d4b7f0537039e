use Rattle.isle_meaning.proofs.Machine.Spending as its
use Rattle.isle_meaning.proofs.laws.machine.no_machine_run_spent.Goals as goal

pub returns : goal.returns
returns g c = its.no_machine_run_spent
