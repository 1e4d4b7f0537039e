use Rattle.std.proofs.Common.{◌≡◌, length}
use Rattle.isle_program.specs.Inside.Facts.Spreading.{unmarked}
use Rattle.isle_program.specs.Facts.Inhabited.{AreSound}
use Rattle.isle_program.proofs.facts.inhabited.are_inhabited.Given as goal

abbrev pub invariant-rounds : goal.invariant-rounds
invariant-rounds l = (length l.marks.items ≡ length l.types) × AreSound l.types l.marks.items

-- each round marks a type
abbrev pub decreases-rounds : goal.decreases-rounds
decreases-rounds l = unmarked l.marks.items
