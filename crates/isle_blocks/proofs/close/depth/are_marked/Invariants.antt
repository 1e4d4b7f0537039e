use Rattle.std.proofs.Common.{◌≡◌, ◌<◌, ℕ, true}
use Rattle.isle_blocks.specs.Inside.ClosureStates.{is_marked}
use Rattle.isle_blocks.proofs.close.depth.are_marked.Given as goal

abbrev pub invariant-loop-mark : goal.invariant-loop-mark
invariant-loop-mark l = (k : ℕ) → k < l.mark-index → is_marked l.marks k ≡ true
