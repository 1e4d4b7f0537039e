use Rattle.std.proofs.Common.{List, Bool, drop}
use Rattle.isle_blocks.specs.Inside.Building.Contents.{MarksMore}
use Rattle.isle_blocks.proofs.builder.contents.mark.Given as goal

abbrev pub invariant-loop-i : goal.invariant-loop-i
invariant-loop-i l = (new : List Bool) → MarksMore (drop l.i l.parts) l.marks.items new → MarksMore l.parts l.initial.marks.items new
