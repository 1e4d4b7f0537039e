use Rattle.std.proofs.Common.{◌≡◌, take}
use Rattle.isle_blocks.specs.Rows.{pairs_of}
use Rattle.isle_blocks.proofs.close.classes.number_pairs.Given as goal

-- the pairs so far
abbrev pub invariant-loop-a : goal.invariant-loop-a
invariant-loop-a l = l.pairs.items ≡ pairs_of (take l.a-index l.same)
