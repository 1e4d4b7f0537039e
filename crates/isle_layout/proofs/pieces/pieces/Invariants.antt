use Rattle.std.proofs.Common.{◌≡◌, ◌++◌, length, map}
use denote.Text.{Utf8}
use denote.Shadow.{shadow}
use Rattle.isle_layout.specs.Keeping.Pieces.{pieces_of, pieces_in, piece_of}
use Rattle.isle_layout.proofs.pieces.pieces.Given as goal

abbrev pub invariant-rest : goal.invariant-rest
invariant-rest l = shadow (Utf8 l.rest) × (map piece_of l.found.items ++ pieces_in l.before l.rest ≡ pieces_of l.text)

abbrev pub decreases-rest : goal.decreases-rest
decreases-rest l = length l.rest
