use Rattle.isle_meaning.proofs.Machine.Staying as its
use Rattle.isle_meaning.proofs.laws.machine.machine_runs_stay.Goals as goal

pub returns : goal.returns
returns g c = its.machine_runs_stay
