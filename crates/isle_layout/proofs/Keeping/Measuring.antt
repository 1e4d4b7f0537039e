-- A step of the loop that finds which lists stay on one line.
use Rattle.std.proofs.Common.{◌≡◌, ℕ, ◌<◌, List, [], ◌∷◌, ◌++◌, length, map, ap, sym, ◌∙◌, append_assoc, arith}
use Rattle.std.proofs.lemmas.List.{map-append, append-nil}
use Rattle.isle_layout.specs.declared.pieces.Piece.{Piece}
use Rattle.isle_layout.specs.declared.rows.Found.{Found}
use Rattle.isle_layout.specs.Keeping.Pieces.{Fragment, piece_of}
use Rattle.isle_layout.specs.Keeping.Rows.{Rows, rows_of, rows_with}
use Rattle.isle_layout.specs.Inside.RowsSeen.{rows_seen}

-- what is found of the pieces behind those that are left
pub record Measured (width : ℕ) (pieces left : List Piece) (found : Found) : Type 0 where
  pub done : List Fragment
  pub whole : map piece_of pieces ≡ map piece_of left ++ done
  pub seen : rows_seen found ≡ rows_of width done

pub measured_first : (width : ℕ) (pieces : List Piece) (found : Found) → rows_seen found ≡ rows_of width [] → Measured width pieces pieces found
measured_first width pieces found e = record { done = []; whole = sym (append-nil (map piece_of pieces)); seen = e }

pub measured_more : (width : ℕ) (pieces left front : List Piece) (piece : Piece) (old new : Found) → Measured width pieces left old
    → left ≡ front ++ piece ∷ [] → rows_seen new ≡ rows_with width piece.kind (piece_of piece).text (rows_seen old) → Measured width pieces front new
measured_more width pieces left front piece old new m e f = record {
  done = piece_of piece ∷ m.done;
  whole = m.whole ∙ ap (λ ps. ps ++ m.done) (ap (map piece_of) e ∙ map-append piece_of front (piece ∷ []))
      ∙ append_assoc (map piece_of front) (piece_of piece ∷ []) m.done;
  seen = f ∙ ap (rows_with width piece.kind (piece_of piece).text) m.seen;
}

pub measured_all : (width : ℕ) (pieces left : List Piece) (found : Found) → Measured width pieces left found → length left < 1
    → (rows_seen found).fits ≡ (rows_of width (map piece_of pieces)).fits
measured_all width pieces [] found m h = ap (λ (r : Rows). r.fits) m.seen ∙ ap (λ ps. (rows_of width ps).fits) (sym m.whole)
measured_all width pieces (p ∷ ps) found m h = absurd (omega arith)
