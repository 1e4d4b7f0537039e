use Rattle.isle_calls.proofs.PlainRoad.Evaluations.Turns.{IsPopped}
use Rattle.std.proofs.Common.{length}
use Rattle.isle_calls.proofs.plain.evaluation.Evaluation.settle.Given as goal

abbrev pub invariant-loop-part : goal.invariant-loop-part
invariant-loop-part l = IsPopped l.initial.self l.self

abbrev pub decreases-loop-part : goal.decreases-loop-part
decreases-loop-part l = length l.self.todo.items
