use Rattle.std.proofs.Common.{List, Bool, ℕ, drop}
use Rattle.isle_program.specs.Inside.Facts.Spreading.{MarksAndLists}
use Rattle.isle_program.proofs.facts.spreading.mark_each.Given as goal

-- what the numbers that are left mark makes the marks of all
abbrev pub invariant-loop-i : goal.invariant-loop-i
invariant-loop-i l = (new : List Bool) (listed : List ℕ) → MarksAndLists (drop l.i l.numbers) l.marks.items new l.left.items listed
    → MarksAndLists l.numbers l.initial.marks.items new l.initial.left.items listed
