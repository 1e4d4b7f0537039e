use Rattle.isle_program.specs.Facts.Inhabited.{MarksBelow}
use Rattle.isle_program.proofs.facts.inhabited.mark_types.Given as goal

abbrev pub invariant-loop-place : goal.invariant-loop-place
invariant-loop-place l = MarksBelow l.place l.types l.initial.marks.items l.marks.items l.changed
