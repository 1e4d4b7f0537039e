use Rattle.isle_meaning.proofs.Machine.Ends as its
use Rattle.isle_meaning.proofs.laws.machine.machine_ends_are_asked.Goals as goal

pub returns : goal.returns
returns g c = its.machine_ends_are_asked
