use Rattle.std.proofs.Common.{◌≡◌, drop}
use Rattle.isle_calls.specs.Inside.Plain.Underway.{first_unknown}
use Rattle.isle_calls.proofs.plain.evaluation.Evaluation.first_open.Given as goal

-- what is found among the parts is found among those that weren't looked at
abbrev pub invariant-loop-i : goal.invariant-loop-i
invariant-loop-i l = first_unknown l.self l.parts ≡ first_unknown l.self (drop l.i l.parts)
