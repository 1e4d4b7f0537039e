-- The lines of a text, taken off one by one.
use Rattle.std.proofs.Common.{◌≡◌, ℕ, suc, ◌<◌, List, [], ◌∷◌, ◌++◌, length, take, drop, get_or, Bool, true, false, cond, refl, ap, sym, ◌∙◌, arith}
use Rattle.std.proofs.Common.{append_assoc, add-one, subst, eqb-true}
use Rattle.std.specs.Prelude.{◌==◌}
use Rattle.std.specs.List.{concat, onto_first}
use Rattle.std.specs.Str.{IsUtf8, IsCharBoundary}
use Rattle.std.proofs.lemmas.Str.{IsCharBoundary-after_ascii, IsCharBoundary-end}
use Rattle.std.proofs.Common.{map}
use Rattle.std.proofs.lemmas.List.{map-append}
use Rattle.isle_layout.specs.declared.changes.lines.Line.{Line}
use Rattle.isle_layout.specs.Changes.Lines.{lines_of}
use Rattle.isle_layout.specs.Inside.Changes.{line_length, text_of}

-- a first line has a byte
pub line_length-cons : (b : ℕ) (bs : List ℕ) → 0 < line_length (b ∷ bs)
line_length-cons b bs = elim (b == 10) as (λ v. 0 < cond v 1 (suc (line_length bs))) [ true ↦ omega arith | false ↦ omega arith ]

-- so has the first line of a text that has one
pub line_length-some : (bs : List ℕ) → 0 < length bs → 0 < line_length bs
line_length-some [] some = some
line_length-some (b ∷ bs) some = line_length-cons b bs

-- where a first line ends: at the text's end, or behind a newline
pub data IsLineEnd (bs : List ℕ) : ℕ → Type 0 where
  at_end : IsLineEnd bs (length bs)
  behind_newline : (i : ℕ) → i < length bs → get_or bs i 0 ≡ 10 → IsLineEnd bs (suc i)

line_end_behind : (b : ℕ) (bs : List ℕ) (n : ℕ) → IsLineEnd bs n → IsLineEnd (b ∷ bs) (suc n)
line_end_behind b bs n at_end = at_end
line_end_behind b bs n (behind_newline i within is) = behind_newline (suc i) (omega arith) is

line_end_by : (b : ℕ) (bs : List ℕ) (v : Bool) → (b == 10) ≡ v → IsLineEnd bs (line_length bs) → IsLineEnd (b ∷ bs) (cond v 1 (suc (line_length bs)))
line_end_by b bs true e end = behind_newline 0 (omega arith) (eqb-true b 10 e)
line_end_by b bs false e end = line_end_behind b bs (line_length bs) end

-- a first line ends where a line does
pub line_end : (bs : List ℕ) → IsLineEnd bs (line_length bs)
line_end [] = at_end
line_end (b ∷ bs) = line_end_by b bs (b == 10) refl (line_end bs)

boundary_at : (bs : List ℕ) (n : ℕ) → IsUtf8 bs → IsLineEnd bs n → IsCharBoundary bs n
boundary_at bs n text at_end = IsCharBoundary-end bs
boundary_at bs n text (behind_newline i within is) =
    subst (IsCharBoundary bs) (add-one i) (IsCharBoundary-after_ascii bs i text within (omega arith))

-- a text may be cut behind its first line
pub line_boundary : (bs : List ℕ) → IsUtf8 bs → IsCharBoundary bs (line_length bs)
line_boundary bs text = boundary_at bs (line_length bs) text (line_end bs)

first_line_by : (b c : ℕ) (bs : List ℕ) (v : Bool)
    → lines_of (c ∷ bs) ≡ take (line_length (c ∷ bs)) (c ∷ bs) ∷ lines_of (drop (line_length (c ∷ bs)) (c ∷ bs))
    → cond v ((b ∷ []) ∷ lines_of (c ∷ bs)) (onto_first b (lines_of (c ∷ bs)))
    ≡ take (cond v 1 (suc (line_length (c ∷ bs)))) (b ∷ c ∷ bs) ∷ lines_of (drop (cond v 1 (suc (line_length (c ∷ bs)))) (b ∷ c ∷ bs))
first_line_by b c bs true e = refl
first_line_by b c bs false e = ap (onto_first b) e

-- a text's lines are its first one and those of what follows it
pub lines_of-cons : (b : ℕ) (bs : List ℕ)
    → lines_of (b ∷ bs) ≡ take (line_length (b ∷ bs)) (b ∷ bs) ∷ lines_of (drop (line_length (b ∷ bs)) (b ∷ bs))
lines_of-cons b [] =
    elim (b == 10) as (λ v. cond v ((b ∷ []) ∷ []) ((b ∷ []) ∷ []) ≡ take (cond v 1 (suc 0)) (b ∷ []) ∷ lines_of (drop (cond v 1 (suc 0)) (b ∷ [])))
    [ true ↦ refl | false ↦ refl ]
lines_of-cons b (c ∷ bs) = first_line_by b c bs (b == 10) (lines_of-cons c bs)

-- one line more is taken off a rest of a text
pub one_line_more : (taken : List (List ℕ)) (all rest : List ℕ) → 0 < length rest → taken ++ lines_of rest ≡ lines_of all
    → (taken ++ take (line_length rest) rest ∷ []) ++ lines_of (drop (line_length rest) rest) ≡ lines_of all
one_line_more taken all [] some e = absurd (omega arith)
one_line_more taken all (b ∷ bs) some e =
    append_assoc taken (take (line_length (b ∷ bs)) (b ∷ bs) ∷ []) (lines_of (drop (line_length (b ∷ bs)) (b ∷ bs)))
    ∙ ap (λ ls. taken ++ ls) (sym (lines_of-cons b bs)) ∙ e

-- one line more is pushed
pub one_line_pushed : (lines more : List Line) (line : Line) (all rest left : List ℕ) → more ≡ lines ++ line ∷ []
    → text_of line ≡ take (line_length rest) rest → left ≡ drop (line_length rest) rest → 0 < length rest
    → map text_of lines ++ lines_of rest ≡ lines_of all → map text_of more ++ lines_of left ≡ lines_of all
one_line_pushed lines more line all rest left pushed is left_is some so_far =
    ap (λ ls. map text_of ls ++ lines_of left) pushed ∙ ap (λ ls. ls ++ lines_of left) (map-append text_of lines (line ∷ []))
    ∙ ap (λ (text : List ℕ). (map text_of lines ++ text ∷ []) ++ lines_of left) is
    ∙ ap (λ text. (map text_of lines ++ take (line_length rest) rest ∷ []) ++ lines_of text) left_is
    ∙ one_line_more (map text_of lines) all rest some so_far

joined_onto : (b : ℕ) (ls : List (List ℕ)) → concat (onto_first b ls) ≡ b ∷ concat ls
joined_onto b [] = refl
joined_onto b (l ∷ ls) = refl

joined_by : (b : ℕ) (bs : List ℕ) (v : Bool) → concat (lines_of bs) ≡ bs
    → concat (cond v ((b ∷ []) ∷ lines_of bs) (onto_first b (lines_of bs))) ≡ b ∷ bs
joined_by b bs true e = ap (λ (l : List ℕ). b ∷ l) e
joined_by b bs false e = joined_onto b (lines_of bs) ∙ ap (λ (l : List ℕ). b ∷ l) e

-- a text is its lines one after another
pub concat-lines_of : (bs : List ℕ) → concat (lines_of bs) ≡ bs
concat-lines_of [] = refl
concat-lines_of (b ∷ bs) = joined_by b bs (b == 10) (concat-lines_of bs)
