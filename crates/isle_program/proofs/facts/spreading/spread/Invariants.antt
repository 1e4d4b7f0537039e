use Rattle.std.proofs.Common.{◌+◌, length}
use Rattle.isle_program.specs.Inside.Facts.Spreading.{unmarked}
use Rattle.isle_program.proofs.ProgramFacts.Spreading.{IsSpreading}
use Rattle.isle_program.proofs.facts.spreading.spread.Given as goal

abbrev pub invariant-loop-number : goal.invariant-loop-number
invariant-loop-number l = IsSpreading l.lists l.initial.marks.items l.marks.items l.left.items

-- each turn takes a number away, and one that comes is marked
abbrev pub decreases-loop-number : goal.decreases-loop-number
decreases-loop-number l = unmarked l.marks.items + length l.left.items
