use Rattle.std.proofs.Common.{◌+◌, ◌∙◌, ap, drop, map, arith}
use Rattle.isle_layout.specs.Keeping.Pieces.{piece_of}
use Rattle.isle_layout.specs.Keeping.Rows.{rows_of}
use Rattle.isle_layout.proofs.Keeping.Writing.{left_pieces, piece_written}
use Rattle.isle_layout.proofs.layout.write_pieces.Goals as goal

pub loop-piece-preserved : goal.loop-piece-preserved
loop-piece-preserved c = record {
  few = omega (arith, c.move_on-spot.ensures.within);
  so_far = λ width h.
      let pieces = c.args.pieces.now in
      let i = c.loop-piece.piece-index in
      let so_far = c.loop-piece.invariant.so_far width h in
      let left = left_pieces pieces i _ c.loop-piece-test.true in
      let others = map piece_of (drop (i + 1) pieces) in
      let moved = c.move_on-spot.ensures.spot width others (so_far.0 ∙ ap (λ ps. (rows_of width ps).fits) left) in
      (moved.1, piece_written width _ _ others c.loop-piece.spot c.move_on-spot.result _ _ _ left moved.0 c.in_ok-write_piece.ensures so_far.1);
}
