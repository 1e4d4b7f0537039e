use Rattle.std.proofs.Common.{List, Vec, ℕ, drop}
use Rattle.std.specs.Global.{Global}
use Rattle.isle_program.specs.Inside.Facts.Callers.{ListsMore}
use Rattle.isle_program.proofs.facts.callers.list_at_each.Given as goal

abbrev pub invariant-loop-i : goal.invariant-loop-i
invariant-loop-i l = (new : List (Vec ℕ Global)) → ListsMore (drop l.i l.places) l.number l.lists.items new
    → ListsMore l.places l.number l.initial.lists.items new
