use Rattle.std.proofs.Common.{refl, sym, subst}
use Rattle.isle_calls.specs.Inside.Blocks.Frames.{IsAtEnd}
use Rattle.isle_calls.specs.declared.machine.frame.At.TheVariants.{Steps as AtSteps}
use Rattle.isle_calls.proofs.TreeRoad.Going.{frame_unreplied}
use Rattle.isle_calls.proofs.TreeRoad.Steps.{step_taken}
use Rattle.isle_calls.proofs.machine.frame.Frame.take_step.Goals as goal

pub returns-in-Some-checked_add : goal.returns-in-Some-checked_add
returns-in-Some-checked_add c = λ k stored since at f.
    let frame = c.args.self.now in
    step_taken k stored frame since c.args.steps c.in-Some.behind c.in-Some.step c.in-Some-checked_add.count
    (frame_unreplied k stored frame since (AtSteps c.args.steps) f at refl) c.in-Some.ensures.step c.in-Some.ensures.rest c.in-Some.ensures.parts
    c.in-Some.ensures.returned c.in-Some-checked_add.ensures.1

pub returns-in-None : goal.returns-in-None
returns-in-None c = λ k stored since at f. c.leave.ensures k stored since (subst IsAtEnd (sym at) c.in-None.ensures.end) f
