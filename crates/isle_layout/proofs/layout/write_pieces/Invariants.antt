use Rattle.std.proofs.Common.{◌≡◌, ◌≤◌, ◌+◌, ◌++◌, ℕ, map, drop, string_bytes}
use Rattle.isle_layout.specs.Keeping.Pieces.{piece_of}
use Rattle.isle_layout.specs.Keeping.Rows.{rows_of}
use Rattle.isle_layout.specs.Keeping.LaidOut.{written, start}
use Rattle.isle_layout.proofs.layout.write_pieces.Given as goal

abbrev pub invariant-loop-piece : goal.invariant-loop-piece
invariant-loop-piece l = record {
  few : l.spot.broken + l.spot.flat ≤ l.piece-index;
  so_far : (width : ℕ) → l.fn.fits.items ≡ (rows_of width (map piece_of l.pieces)).fits
      → (l.fits.items ≡ (rows_of width (map piece_of (drop l.piece-index l.pieces))).fits)
      × (string_bytes l.out ++ written width l.spot (map piece_of (drop l.piece-index l.pieces)) ≡ written width start (map piece_of l.pieces));
}
