use Rattle.isle_blocks.proofs.Closure.Marking.{Marking, work_left}
use Rattle.isle_blocks.proofs.close.depth.is_finite.Given as goal

abbrev pub invariant-loop-r : goal.invariant-loop-r
invariant-loop-r l = Marking l.sites l.own l.class l.marks.items l.waiting l.pending.items

abbrev pub decreases-loop-r : goal.decreases-loop-r
decreases-loop-r l = work_left l.waiting l.pending.items
