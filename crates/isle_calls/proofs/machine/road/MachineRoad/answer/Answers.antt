use Rattle.isle_calls.proofs.TreeRoad.Waiting.{replied_value}
use Rattle.isle_calls.proofs.machine.road.MachineRoad.answer.Goals as goal

pub returns : goal.returns
returns c = λ k stored since trace term args v waits below stands.
    replied_value k stored c.args.frame.now since term args waits trace v c.args.number below stands
