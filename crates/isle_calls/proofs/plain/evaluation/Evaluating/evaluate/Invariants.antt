use Rattle.isle_calls.specs.Calls.Answers.{answers_in}
use Rattle.isle_calls.specs.Inside.Plain.Underway.{work_left}
use Rattle.isle_calls.proofs.PlainRoad.Evaluations.Loop.{IsStillUnderway}
use Rattle.isle_calls.proofs.plain.evaluation.Evaluating.evaluate.Given as goal

-- what was underway still is
abbrev pub invariant-loop-top : goal.invariant-loop-top
invariant-loop-top g l = IsStillUnderway l.self.program.now (answers_in l.self.program.now (g.W.World.constructs l.self.world.now)
    (g.W.World.extracts l.self.world.now)) l.parts l.variables l.fn.store l.fn.evaluation l.store l.evaluation

-- each turn comes nearer to the end
abbrev pub decreases-loop-top : goal.decreases-loop-top
decreases-loop-top g l = work_left l.evaluation
