-- A step of the loop that writes pieces.
use Rattle.std.proofs.Common.{◌≡◌, ℕ, ◌+◌, ◌<◌, List, ◌∷◌, [], ◌++◌, length, drop, get_or, map, ap, sym, ◌∙◌, append_assoc, add-one, drop-cons}
use Rattle.isle_layout.specs.declared.pieces.Piece.{Piece}
use Rattle.isle_layout.specs.declared.layout.Spot.{Spot}
use Rattle.isle_layout.specs.Keeping.Pieces.{Fragment, piece_of, trimmed, trimmed_lines}
use Rattle.isle_layout.specs.Keeping.LaidOut.{text_before, next_spot, written}
use Rattle.isle_layout.proofs.Keeping.BlockLines.{IsUnbroken, line_same, line_trimmed}

-- what is left of the pieces: the piece at the index, and those behind it
pub left_pieces : (pieces : List Piece) (i : ℕ) (none : Piece) → i < length pieces
    → map piece_of (drop i pieces) ≡ piece_of (get_or pieces i none) ∷ map piece_of (drop (i + 1) pieces)
left_pieces pieces i none h =
    ap (map piece_of) (drop-cons pieces i none h) ∙ ap (λ n. piece_of (get_or pieces i none) ∷ map piece_of (drop n pieces)) (sym (add-one i))

pub piece_written : (width : ℕ) (piece : Fragment) (here others : List Fragment) (spot next : Spot) (old new all : List ℕ) → here ≡ piece ∷ others
    → next ≡ next_spot width spot piece others → new ≡ old ++ (text_before spot piece.kind piece.before ++ piece.text)
    → old ++ written width spot here ≡ all → new ++ written width next others ≡ all
piece_written width piece here others spot next old new all e n w h =
    let text = text_before spot piece.kind piece.before ++ piece.text in
    (λ i. w i ++ written width (n i) others) ∙ append_assoc old text (written width (next_spot width spot piece others) others)
    ∙ ap (λ ps. old ++ written width spot ps) (sym e) ∙ h

-- a line that a newline ends is written
pub line_written : (line others left old new all : List ℕ) → IsUnbroken line → left ≡ line ++ 10 ∷ others
    → new ≡ (old ++ trimmed line) ++ 10 ∷ [] → old ++ trimmed_lines left ≡ all → new ++ trimmed_lines others ≡ all
line_written line others left old new all unbroken cut w h =
    ap (λ t. t ++ trimmed_lines others) w ∙ append_assoc (old ++ trimmed line) (10 ∷ []) (trimmed_lines others)
    ∙ append_assoc old (trimmed line) (10 ∷ trimmed_lines others)
    ∙ ap (λ t. old ++ t) (sym (ap trimmed_lines cut ∙ line_trimmed line others unbroken)) ∙ h

-- and the last one
pub lines_written : (left old new all : List ℕ) → IsUnbroken left → new ≡ old ++ left → old ++ trimmed_lines left ≡ all → new ≡ all
lines_written left old new all unbroken w h = w ∙ ap (λ t. old ++ t) (sym (line_same left unbroken)) ∙ h
