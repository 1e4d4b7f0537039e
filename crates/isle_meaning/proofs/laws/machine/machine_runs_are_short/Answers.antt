use Rattle.isle_meaning.proofs.Machine.Short as its
use Rattle.isle_meaning.proofs.laws.machine.machine_runs_are_short.Goals as goal

pub returns : goal.returns
returns g c = its.machine_runs_are_short
