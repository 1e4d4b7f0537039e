use Rattle.isle_calls.proofs.TreeRoad.Waiting.{tree_is_way}
use Rattle.isle_calls.proofs.machine.road.MachineRoad.laws.Goals as goal

pub returns : goal.returns
returns c = tree_is_way
