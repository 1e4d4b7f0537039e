use Rattle.std.proofs.Common.{◌≡◌, length}
use Rattle.isle_layout.specs.Keeping.Pieces.{trimmed}
use Rattle.isle_layout.proofs.pieces.trimmed_bytes.Given as goal

abbrev pub invariant-bytes : goal.invariant-bytes
invariant-bytes l = trimmed l.left ≡ trimmed l.bytes

abbrev pub decreases-bytes : goal.decreases-bytes
decreases-bytes l = length l.left
