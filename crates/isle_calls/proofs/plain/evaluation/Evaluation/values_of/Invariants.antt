use Rattle.std.proofs.Common.{◌≡◌, ◌++◌, drop}
use Rattle.isle_calls.specs.Inside.Plain.Underway.{known_numbers}
use Rattle.isle_calls.proofs.plain.evaluation.Evaluation.values_of.Given as goal

-- the numbers so far, and those of the parts that weren't looked at, are all
abbrev pub invariant-loop-i : goal.invariant-loop-i
invariant-loop-i l = l.numbers.items ++ known_numbers l.self (drop l.i l.parts) ≡ known_numbers l.self l.parts
