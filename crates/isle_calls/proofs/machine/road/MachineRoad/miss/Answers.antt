use Rattle.std.proofs.Common.{refl}
use Rattle.isle_meaning.specs.Outcomes.{missing}
use Rattle.isle_calls.specs.declared.machine.frame.Reply.TheVariants.{Missing}
use Rattle.isle_calls.proofs.TreeRoad.Waiting.{replied_frame}
use Rattle.isle_calls.proofs.machine.road.MachineRoad.miss.Goals as goal

pub returns : goal.returns
returns c = λ k stored since trace term args waits below.
    replied_frame k stored c.args.frame.now since term args waits trace missing below Missing refl
