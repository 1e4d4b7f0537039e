use Rattle.std.proofs.Common.{length}
use Rattle.isle_layout.proofs.Keeping.Measuring.{Measured}
use Rattle.isle_layout.proofs.rows.lists_that_fit.Given as goal

abbrev pub invariant-pieces : goal.invariant-pieces
invariant-pieces l = Measured l.width l.pieces l.left l.found

abbrev pub decreases-pieces : goal.decreases-pieces
decreases-pieces l = length l.left
