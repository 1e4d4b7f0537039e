use Rattle.isle_meaning.proofs.Machine.Agreeing as its
use Rattle.isle_meaning.proofs.laws.machine.roads_agree.Goals as goal

pub returns : goal.returns
returns g c = its.roads_agree
