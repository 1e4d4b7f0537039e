-- What follows a piece is shorter than the text, and an end of it, where it may be cut.
use Rattle.std.proofs.Common.{◌≡◌, ℕ, zero, suc, ◌<◌, ◌≤◌, List, [], ◌∷◌, ◌++◌, length, Option, Some, None, Bool, true, false, cond, refl, sym, ap, subst, ◌∙◌, append_assoc, arith}
use Rattle.std.specs.Prelude.{◌==◌}
use Rattle.std.proofs.lemmas.Bool.Decides.{nat_tests}
use Rattle.std.specs.Str.{IsUtf8}
use Rattle.std.proofs.lemmas.Str.{IsUtf8-nil}
use Rattle.std.proofs.lemmas.List.{append-nil}
use Rattle.isle_syntax.specs.declared.gap.Lead.{Lead}
use Rattle.isle_layout.specs.declared.pieces.Break.{Break}
use Rattle.isle_syntax.specs.Tokens.Names.{is_space}
use Rattle.isle_syntax.specs.Tokens.Gaps.{lead_of, after_first, after_run, in_line}
use Rattle.isle_syntax.specs.Tokens.Integers.{radix_of, behind_prefix, continues_digits}
use Rattle.isle_syntax.specs.Tokens.TokensOf.{continues_symbol}
use Rattle.isle_syntax.specs.Tokens.Finding.{after_comment}
use Rattle.isle_layout.specs.Keeping.Pieces.{Fragment, after_by, after_piece, behind_comment, break_with, cut_of, piece_cut, pieces_from, pieces_in}
use Rattle.isle_syntax.proofs.Tokens.Runs.{after_run-le, after_run-step}
use Rattle.isle_syntax.proofs.Tokens.Comments.{after_comment-le, inside_found}
use Rattle.isle_syntax.proofs.Tokens.GapCuts.{Cut, cut_self, cut_first, cut_stopped, cut_ends, inside_ends, lead_ascii, comment_ascii, in_line_ascii}
use Rattle.isle_syntax.proofs.Tokens.IntegerCuts.{cut_integer}

-- ---- where it may be cut

stop_ascii : (b : ℕ) → continues_symbol b ≡ false → b < 128
stop_ascii b e = grind (arith, nat_tests)

cut_nothing : {text : List ℕ} (ts : List ℕ) → Cut text ts → Cut text []
cut_nothing {text} ts c = record { ending = record { front = text; whole = sym (append-nil text) }; utf8 = IsUtf8-nil }

cut_comment : {text : List ℕ} (ts : List ℕ) (o : Option (List ℕ)) → lead_of ts ≡ Lead.Comment → after_comment 0 (after_first (after_first ts)) ≡ o
    → Cut text ts → Cut text (behind_comment ts o)
cut_comment ts None e f c = cut_first ts c (lead_ascii ts Lead.Comment e (λ k. cc k))
cut_comment ts (Some rest) e f c =
    cut_ends (cut_first (after_first ts) (cut_first ts c (lead_ascii ts Lead.Comment e (λ k. cc k))) (comment_ascii ts e))
    (inside_ends (inside_found (after_first (after_first ts)) rest f))

cut_by : {text : List ℕ} (ts : List ℕ) (k : Lead) → lead_of ts ≡ k → Cut text ts → Cut text (after_by k ts)
cut_by ts Lead.Opening e c = cut_first ts c (lead_ascii ts Lead.Opening e (λ k. cc k))
cut_by ts Lead.Closing e c = cut_first ts c (lead_ascii ts Lead.Closing e (λ k. cc k))
cut_by ts Lead.AtSign e c = cut_first ts c (lead_ascii ts Lead.AtSign e (λ k. cc k))
cut_by ts Lead.Number e c = cut_integer ts c
cut_by ts Lead.Word e c = cut_stopped continues_symbol ts stop_ascii c
cut_by ts Lead.Line e c = cut_stopped in_line ts in_line_ascii c
cut_by ts Lead.Comment e c = cut_comment ts (after_comment 0 (after_first (after_first ts))) e refl c
cut_by ts Lead.Space e c = cut_nothing ts c
cut_by ts Lead.End e c = cut_nothing ts c

pub cut_piece : {text : List ℕ} (ts : List ℕ) → Cut text ts → Cut text (after_piece ts)
cut_piece ts c = cut_by ts (lead_of ts) refl c

-- ---- it is shorter

word_continues : (b : ℕ) (bs : List ℕ) → lead_of (b ∷ bs) ≡ Lead.Word → continues_symbol b ≡ true
word_continues b bs e = grind (arith, nat_tests)

line_continues : (b : ℕ) (bs : List ℕ) → lead_of (b ∷ bs) ≡ Lead.Line → in_line b ≡ true
line_continues b bs e = grind (arith, nat_tests)

digit_continues : (radix b : ℕ) (bs : List ℕ) → radix == 10 ≡ true → lead_of (b ∷ bs) ≡ Lead.Number → b == 45 ≡ false
    → continues_digits radix b ≡ true
digit_continues radix b bs e f g = grind (arith, nat_tests)

run_shorter : (p : ℕ → Bool) (b : ℕ) (bs : List ℕ) → p b ≡ true → length (after_run p (b ∷ bs)) ≤ length bs
run_shorter p b bs e = let step = after_run-step p b bs e in omega (arith, ap length step, after_run-le p bs)

after_first-le : (ts : List ℕ) → length (after_first ts) ≤ length ts
after_first-le [] = omega arith
after_first-le (b ∷ bs) = omega arith

prefix-le : (text : List ℕ) (t : Bool) → length (cond t text (after_first (after_first text))) ≤ length text
prefix-le text true = omega arith
prefix-le text false = omega (arith, after_first-le text, after_first-le (after_first text))

digits_shorter : (b : ℕ) (bs : List ℕ) (radix : ℕ) (t : Bool) → radix == 10 ≡ t → lead_of (b ∷ bs) ≡ Lead.Number → b == 45 ≡ false
    → length (after_run (continues_digits radix) (cond t (b ∷ bs) (after_first bs))) ≤ length bs
digits_shorter b bs radix true e f g = run_shorter (continues_digits radix) b bs (digit_continues radix b bs e f g)
digits_shorter b bs radix false e f g = omega (arith, after_run-le (continues_digits radix) (after_first bs), after_first-le bs)

behind_sign : (b : ℕ) (bs : List ℕ) (t : Bool) → b == 45 ≡ t → lead_of (b ∷ bs) ≡ Lead.Number
    → length (let u = cond t bs (b ∷ bs) in after_run (continues_digits (radix_of u)) (behind_prefix u)) ≤ length bs
behind_sign b bs true e f =
    omega (arith, after_run-le (continues_digits (radix_of bs)) (behind_prefix bs), prefix-le bs (radix_of bs == 10))
behind_sign b bs false e f = digits_shorter b bs (radix_of (b ∷ bs)) (radix_of (b ∷ bs) == 10) refl f e

comment_shorter : (b : ℕ) (bs : List ℕ) (o : Option (List ℕ)) → after_comment 0 (after_first bs) ≡ o → length (behind_comment (b ∷ bs) o) ≤ length bs
comment_shorter b bs None e = omega arith
comment_shorter b bs (Some rest) e = omega (arith, after_comment-le 0 (after_first bs) rest (sym e), after_first-le bs)

shorter_by : (b : ℕ) (bs : List ℕ) (k : Lead) → lead_of (b ∷ bs) ≡ k → length (after_by k (b ∷ bs)) ≤ length bs
shorter_by b bs Lead.Opening e = omega arith
shorter_by b bs Lead.Closing e = omega arith
shorter_by b bs Lead.AtSign e = omega arith
shorter_by b bs Lead.Number e = behind_sign b bs (b == 45) refl e
shorter_by b bs Lead.Word e = run_shorter continues_symbol b bs (word_continues b bs e)
shorter_by b bs Lead.Line e = run_shorter in_line b bs (line_continues b bs e)
shorter_by b bs Lead.Comment e = comment_shorter b bs (after_comment 0 (after_first bs)) refl
shorter_by b bs Lead.Space e = omega arith
shorter_by b bs Lead.End e = omega arith

pub piece_shorter : (b : ℕ) (bs : List ℕ) → length (after_piece (b ∷ bs)) ≤ length bs
piece_shorter b bs = shorter_by b bs (lead_of (b ∷ bs)) refl

-- ---- so the turns are enough

enough : (n m : ℕ) (before : Break) (text : List ℕ) → length text ≤ n → length text ≤ m → pieces_from n before text ≡ pieces_from m before text
unfolding pieces_from
enough zero zero before text h k = refl
enough zero (suc m) before [] h k = refl
enough zero (suc m) before (b ∷ bs) h k = absurd (omega arith)
enough (suc n) zero before [] h k = refl
enough (suc n) zero before (b ∷ bs) h k = absurd (omega arith)
enough (suc n) (suc m) before [] h k = refl
enough (suc n) (suc m) before (b ∷ bs) h k =
    let one = enough n m (break_with before b) bs (omega arith) (omega arith) in
    let other = enough n m Break.Same (after_piece (b ∷ bs)) (omega (arith, piece_shorter b bs)) (omega (arith, piece_shorter b bs)) in
    (λ i. cond (is_space b) (one i) (piece_cut before (cut_of (b ∷ bs)) ∷ other i))

pub pieces_none : (before : Break) → pieces_in before [] ≡ []
unfolding pieces_from
pieces_none before = refl

space_step : (s : Bool) (P Q : List Fragment) → s ≡ true → cond s P Q ≡ P
space_step s P Q e = ap (λ t. cond t P Q) e

solid_step : (s : Bool) (P Q : List Fragment) → s ≡ false → cond s P Q ≡ Q
solid_step s P Q e = ap (λ t. cond t P Q) e

-- white space tells of newlines
pub pieces_space : (before : Break) (b : ℕ) (bs : List ℕ) → is_space b ≡ true → pieces_in before (b ∷ bs) ≡ pieces_in (break_with before b) bs
unfolding pieces_from
pieces_space before b bs e = space_step (is_space b) _ _ e

-- and anything else begins a piece
pub pieces_solid : (before : Break) (b : ℕ) (bs : List ℕ) → is_space b ≡ false
    → pieces_in before (b ∷ bs) ≡ piece_cut before (cut_of (b ∷ bs)) ∷ pieces_in Break.Same (after_piece (b ∷ bs))
unfolding pieces_from
pieces_solid before b bs e =
    solid_step (is_space b) _ _ e
    ∙ ap (λ ps. piece_cut before (cut_of (b ∷ bs)) ∷ ps)
    (enough (length bs) (length (after_piece (b ∷ bs))) Break.Same (after_piece (b ∷ bs)) (piece_shorter b bs) (omega arith))

-- ---- a step of the program's loop

pub space_kept : (done all : List Fragment) (before now : Break) (first : ℕ) (tail rest more : List ℕ) → rest ≡ first ∷ tail → is_space first ≡ true
    → more ≡ after_first rest → now ≡ break_with before first → done ++ pieces_in before rest ≡ all → done ++ pieces_in now more ≡ all
space_kept done all before now first tail rest more e s f w h =
    let m : more ≡ tail = f ∙ ap after_first e in
    (λ i. done ++ pieces_in (w i) (m i)) ∙ ap (λ ps. done ++ ps) (sym (ap (pieces_in before) e ∙ pieces_space before first tail s)) ∙ h

pub piece_kept : (done after all : List Fragment) (piece : Fragment) (first : ℕ) (tail rest more : List ℕ) → rest ≡ first ∷ tail
    → is_space first ≡ false → after ≡ done ++ piece ∷ [] → piece ≡ piece_cut piece.before (cut_of rest) → more ≡ after_piece rest
    → done ++ pieces_in piece.before rest ≡ all → after ++ pieces_in Break.Same more ≡ all
piece_kept done after all piece first tail rest more e s f p m h =
    let others = pieces_in Break.Same (after_piece rest) in
    let here : pieces_in piece.before rest ≡ piece_cut piece.before (cut_of rest) ∷ others =
    ap (pieces_in piece.before) e ∙ pieces_solid piece.before first tail s
    ∙ ap (λ r. piece_cut piece.before (cut_of r) ∷ pieces_in Break.Same (after_piece r)) (sym e) in
    (λ i. f i ++ pieces_in Break.Same (m i)) ∙ append_assoc done (piece ∷ []) others ∙ ap (λ q. done ++ q ∷ others) p
    ∙ ap (λ ps. done ++ ps) (sym here) ∙ h

pub rest_shorter : (first : ℕ) (tail rest more : List ℕ) → rest ≡ first ∷ tail → more ≡ after_piece rest → length more < length rest
rest_shorter first tail rest more e m = omega (arith, piece_shorter first tail, ap length (m ∙ ap after_piece e), ap length e)

pub all_found : (done all : List Fragment) (before : Break) (rest : List ℕ) → rest ≡ [] → done ++ pieces_in before rest ≡ all → done ≡ all
all_found done all before rest e h =
    sym (append-nil done) ∙ ap (λ ps. done ++ ps) (sym (ap (pieces_in before) e ∙ pieces_none before)) ∙ h

pub cut_utf8 : (text rest : List ℕ) → IsUtf8 text → rest ≡ after_piece text → Cut text rest
cut_utf8 text rest u e = subst (Cut text) (sym e) (cut_piece text (cut_self text u))
