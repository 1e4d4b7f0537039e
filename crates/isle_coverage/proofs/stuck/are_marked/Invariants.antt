use Rattle.std.proofs.Common.{All, take}
use Rattle.isle_coverage.specs.Inside.Reached.{IsMarked}
use Rattle.isle_coverage.proofs.stuck.are_marked.Given as goal

-- the numbers so far are marked
abbrev pub invariant-loop-number : goal.invariant-loop-number
invariant-loop-number l = All (IsMarked l.marks) (take l.number-index l.numbers)
