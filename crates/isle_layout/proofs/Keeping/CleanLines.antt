-- What is laid out has no white space at the ends of lines, no two blank lines in a row but in comments that have them, and ends in one newline.
use Rattle.std.proofs.Common.{◌≡◌, ℕ, zero, suc, List, [], ◌∷◌, ◌++◌, length, Option, Some, None, Bool, true, false, refl, sym, ap, ◌∙◌, append_assoc}
use Rattle.isle_layout.specs.declared.pieces.Kind.{Kind}
use Rattle.isle_layout.specs.declared.pieces.Break.{Break}
use Rattle.isle_layout.specs.declared.layout.Gap.{Gap}
use Rattle.isle_layout.specs.declared.layout.Spot.{Spot}
use Rattle.isle_layout.specs.Keeping.Pieces.{Fragment, pieces_of}
use Rattle.isle_layout.specs.Keeping.LaidOut.{margin, gap_text, gap_at, levels_at, text_before, next_spot, written, start, laid_out, ending}
use Rattle.isle_layout.specs.Keeping.LineEnds.{is_block, ends_clean, is_spaced, HaveSpacedBlocks, IsEnded}
use Rattle.isle_layout.proofs.Keeping.Wholes.{IsWhole}
use Rattle.isle_layout.specs.Keeping.Rows.{rows_of, stays}
use Rattle.isle_layout.proofs.Keeping.Settling.{AreWhole, are_whole, prev_known}
use Rattle.isle_layout.proofs.Keeping.Endings.{last_newline, last_behind, not_in_newline}
use Rattle.std.proofs.lemmas.List.{append-nil}
use Rattle.isle_layout.proofs.Keeping.Spacing.{other_behind, spaced_behind, solid_other}
use Rattle.isle_layout.proofs.Keeping.Cleaning.{solid_behind, clean_behind, not_newline}

-- what begins with no white space is as clean behind some as behind none
abbrev IsSolid : List ℕ → Type 0
IsSolid text = (spaced : Bool) → ends_clean spaced text ≡ ends_clean false text

whole_solid : {kind : Kind} {text : List ℕ} (rest : List ℕ) → IsWhole kind text → IsSolid (text ++ rest)
whole_solid rest w spaced =
    ap (λ t. ends_clean spaced (t ++ rest)) w.is ∙ solid_behind spaced w.first (w.others ++ rest) w.solid
    ∙ sym (solid_behind false w.first (w.others ++ rest) w.solid) ∙ ap (λ t. ends_clean false (t ++ rest)) (sym w.is)

margin_clean : (levels : ℕ) (spaced : Bool) (text : List ℕ) → IsSolid text → ends_clean spaced (margin levels ++ text) ≡ ends_clean false text
margin_clean zero spaced text f = f spaced
margin_clean (suc n) spaced text f = not_newline spaced false (ends_clean true (margin n ++ text)) refl ∙ margin_clean n true text f

gap_clean : (gap : Gap) (levels : ℕ) (text : List ℕ) → IsSolid text → ends_clean false (gap_text gap levels ++ text) ≡ ends_clean false text
gap_clean Gap.Nothing levels text f = refl
gap_clean Gap.Space levels text f = f true
gap_clean Gap.Line levels text f = margin_clean levels false text f
gap_clean Gap.Blank levels text f = margin_clean levels false text f

ending_clean : (prev : Option Kind) → ends_clean false (ending prev) ≡ true
ending_clean None = refl
ending_clean (Some k) = refl

written_clean : (width : ℕ) (spot : Spot) (ps : List Fragment) → AreWhole ps → ends_clean false (written width spot ps) ≡ true
written_clean width spot [] w = ending_clean spot.prev
written_clean width spot (p ∷ ps) w =
    let next = next_spot width spot p ps in
    let rest = written width next ps in
    let gap = gap_at spot p.kind p.before in
    ap (ends_clean false) (append_assoc (gap_text gap (levels_at spot p.kind)) p.text rest)
    ∙ gap_clean gap (levels_at spot p.kind) (p.text ++ rest) (whole_solid rest w.0)
    ∙ clean_behind false p.text rest w.0.clean ∙ written_clean width next ps w.1

pub laid_out_clean : (width : ℕ) (text : List ℕ) → ends_clean false (laid_out width text) ≡ true
laid_out_clean width text = written_clean width start (pieces_of text) (are_whole (length text) Break.Same text)

-- ---- newlines in a row

-- what begins with no newline is as well spaced behind some as behind none
abbrev IsOther : List ℕ → Type 0
IsOther text = (newlines : ℕ) → is_spaced newlines text ≡ is_spaced 0 text

whole_other : {kind : Kind} {text : List ℕ} (rest : List ℕ) → IsWhole kind text → IsOther (text ++ rest)
whole_other rest w newlines =
    let other = solid_other w.first w.solid in
    ap (λ t. is_spaced newlines (t ++ rest)) w.is ∙ other_behind newlines w.first (w.others ++ rest) other
    ∙ sym (other_behind 0 w.first (w.others ++ rest) other) ∙ ap (λ t. is_spaced 0 (t ++ rest)) (sym w.is)

margin_spaced : (levels newlines : ℕ) (text : List ℕ) → IsOther text → is_spaced newlines (margin levels ++ text) ≡ is_spaced 0 text
margin_spaced zero newlines text f = f newlines
margin_spaced (suc n) newlines text f = margin_spaced n 0 text f

gap_spaced : (gap : Gap) (levels : ℕ) (text : List ℕ) → IsOther text → is_spaced 0 (gap_text gap levels ++ text) ≡ is_spaced 0 text
gap_spaced Gap.Nothing levels text f = refl
gap_spaced Gap.Space levels text f = refl
gap_spaced Gap.Line levels text f = margin_spaced levels 1 text f
gap_spaced Gap.Blank levels text f = margin_spaced levels 2 text f

piece_spaced : {kind : Kind} {text : List ℕ} (t : Bool) → is_block kind ≡ t → IsWhole kind text
    → (is_block kind ≡ true → is_spaced 0 (text ++ 10 ∷ []) ≡ true) → is_spaced 0 (text ++ 10 ∷ []) ≡ true
piece_spaced true e w h = h e
piece_spaced false e w h = w.spaced e

ending_spaced : (prev : Option Kind) → is_spaced 0 (ending prev) ≡ true
ending_spaced None = refl
ending_spaced (Some k) = refl

written_spaced : (width : ℕ) (spot : Spot) (ps : List Fragment) → AreWhole ps → HaveSpacedBlocks ps → is_spaced 0 (written width spot ps) ≡ true
written_spaced width spot [] w h = ending_spaced spot.prev
written_spaced width spot (p ∷ ps) w h =
    let next = next_spot width spot p ps in
    let rest = written width next ps in
    let gap = gap_at spot p.kind p.before in
    ap (is_spaced 0) (append_assoc (gap_text gap (levels_at spot p.kind)) p.text rest)
    ∙ gap_spaced gap (levels_at spot p.kind) (p.text ++ rest) (whole_other rest w.0)
    ∙ spaced_behind 0 p.text rest (piece_spaced (is_block p.kind) refl w.0 h.0) ∙ written_spaced width next ps w.1 h.1

pub laid_out_spaced : (width : ℕ) (text : List ℕ) → HaveSpacedBlocks (pieces_of text) → is_spaced 0 (laid_out width text) ≡ true
laid_out_spaced width text h = written_spaced width start (pieces_of text) (are_whole (length text) Break.Same text) h

-- ---- the end

-- pieces as they are laid out from a spot on, but for the newline at the end
abbrev front_written : ℕ → Spot → List Fragment → List ℕ
front_written width spot [] = []
front_written width spot (p ∷ ps) = (text_before spot p.kind p.before ++ p.text) ++ front_written width (next_spot width spot p ps) ps

front_ended : (width : ℕ) (spot : Spot) (p : Fragment) (ps : List Fragment)
    → written width spot (p ∷ ps) ≡ front_written width spot (p ∷ ps) ++ 10 ∷ []
front_ended width spot p [] =
    let here = text_before spot p.kind p.before ++ p.text in
    ap (λ prev. here ++ ending prev) (prev_known spot p.kind (stays width (rows_of width []).here))
    ∙ ap (λ t. t ++ 10 ∷ []) (sym (append-nil here))
front_ended width spot p (q ∷ qs) =
    let here = text_before spot p.kind p.before ++ p.text in
    let next = next_spot width spot p (q ∷ qs) in
    ap (λ t. here ++ t) (front_ended width next q qs) ∙ sym (append_assoc here (front_written width next (q ∷ qs)) (10 ∷ []))

whole_last : {kind : Kind} {text : List ℕ} → IsWhole kind text → (newline : Bool) → last_newline newline text ≡ false
whole_last w newline = ap (last_newline newline) w.is ∙ ap (last_newline false) (sym w.is) ∙ w.last

front_last : (width : ℕ) (spot : Spot) (p : Fragment) (ps : List Fragment) → AreWhole (p ∷ ps) → (newline : Bool)
    → last_newline newline (front_written width spot (p ∷ ps)) ≡ false
front_last width spot p [] w newline =
    let gap = text_before spot p.kind p.before in
    ap (last_newline newline) (append-nil (gap ++ p.text)) ∙ last_behind newline gap p.text ∙ whole_last w.0 (last_newline newline gap)
front_last width spot p (q ∷ qs) w newline =
    let here = text_before spot p.kind p.before ++ p.text in
    let next = next_spot width spot p (q ∷ qs) in
    last_behind newline here (front_written width next (q ∷ qs)) ∙ front_last width next q qs w.1 (last_newline newline here)

written_ended : (width : ℕ) (ps : List Fragment) → AreWhole ps → IsEnded ps (written width start ps)
written_ended width [] w = refl
written_ended width (p ∷ ps) w = (
  front_written width start (p ∷ ps),
  front_ended width start p ps,
  not_in_newline (front_written width start (p ∷ ps)) (front_last width start p ps w false),
)

pub laid_out_ended : (width : ℕ) (text : List ℕ) → IsEnded (pieces_of text) (laid_out width text)
laid_out_ended width text = written_ended width (pieces_of text) (are_whole (length text) Break.Same text)
