use Rattle.std.proofs.Common.{◌-◌, length}
use Rattle.isle_calls.proofs.PlainRoad.Evaluations.Turns.{AreUnknown}
use Rattle.isle_calls.proofs.plain.evaluation.Evaluation.new.Given as goal

-- nothing is known of the parts so far
abbrev pub invariant-loop-known : goal.invariant-loop-known
invariant-loop-known l = AreUnknown l.parts l.known.items

abbrev pub decreases-loop-known : goal.decreases-loop-known
decreases-loop-known l = l.parts - length l.known.items
