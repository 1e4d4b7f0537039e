-- White space at the ends of lines, step by step.
use Rattle.std.proofs.Common.{◌≡◌, ℕ, List, [], ◌∷◌, ◌++◌, Bool, true, false, cond, not, refl, ◌∙◌, arith}
use Rattle.std.specs.Prelude.{◌==◌, ◌&&◌}
use Rattle.std.proofs.lemmas.Bool.Decides.{nat_tests}
use Rattle.isle_syntax.specs.Tokens.Names.{is_space}
use Rattle.isle_syntax.specs.Tokens.Gaps.{run_of, in_line}
use Rattle.isle_layout.specs.Keeping.Pieces.{trimmed, is_nothing}
use Rattle.isle_layout.specs.Keeping.LineEnds.{ends_clean}

space_off : (t n : Bool) (bs : List ℕ) → t ≡ false → ends_clean (t && n) bs ≡ ends_clean false bs
space_off true n bs e = absurd (cc)
space_off false n bs e = refl

newline_solid : (b : ℕ) → is_space b ≡ false → b == 10 ≡ false
newline_solid b e = grind (arith, nat_tests)

pub not_newline : (s t : Bool) (x : Bool) → t ≡ false → not (s && t) && x ≡ x
not_newline true true x e = absurd (cc)
not_newline true false x e = refl
not_newline false t x e = refl

-- behind a byte that is no white space, whatever stood before
pub solid_behind : (s : Bool) (b : ℕ) (bs : List ℕ) → is_space b ≡ false → ends_clean s (b ∷ bs) ≡ ends_clean false bs
solid_behind s b bs e =
    not_newline s (b == 10) (ends_clean (is_space b && not (b == 10)) bs) (newline_solid b e) ∙ space_off (is_space b) (not (b == 10)) bs e

pub clean_step : (b : ℕ) (bs : List ℕ) → is_space b ≡ false → ends_clean false bs ≡ true → ends_clean false (b ∷ bs) ≡ true
clean_step b bs e h = solid_behind false b bs e ∙ h

both_true : (a b : Bool) → a && b ≡ true → (a ≡ true) × (b ≡ true)
both_true true b e = (refl, e)
both_true false b e = absurd (cc)

off_case : (s : Bool) (rest : List ℕ) → not s ≡ true → ends_clean s rest ≡ ends_clean false rest
off_case true rest e = absurd (cc)
off_case false rest e = refl

true_first : (a b : Bool) → a ≡ true → a && b ≡ b
true_first true b e = refl
true_first false b e = absurd (cc)

-- behind a clean text
pub clean_behind : (s : Bool) (bs rest : List ℕ) → ends_clean s bs ≡ true → ends_clean s (bs ++ rest) ≡ ends_clean false rest
clean_behind s [] rest e = off_case s rest e
clean_behind s (b ∷ bs) rest e =
    let both = both_true (not (s && b == 10)) (ends_clean (is_space b && not (b == 10)) bs) e in
    true_first (not (s && b == 10)) (ends_clean (is_space b && not (b == 10)) (bs ++ rest)) both.0
    ∙ clean_behind (is_space b && not (b == 10)) bs rest both.1

run_clean_case : (p : ℕ → Bool) (b : ℕ) (bs : List ℕ) (t : Bool) → p b ≡ t → ((c : ℕ) → p c ≡ true → is_space c ≡ false)
    → ends_clean false (run_of p bs) ≡ true → ends_clean false (cond t (b ∷ run_of p bs) []) ≡ true
run_clean_case p b bs true e solid h = clean_step b (run_of p bs) (solid b e) h
run_clean_case p b bs false e solid h = refl

-- a run of bytes that are no white space
pub run_clean : (p : ℕ → Bool) (bs : List ℕ) → ((c : ℕ) → p c ≡ true → is_space c ≡ false) → ends_clean false (run_of p bs) ≡ true
unfolding run_of
run_clean p [] solid = refl
run_clean p (b ∷ bs) solid = run_clean_case p b bs (p b) refl solid (run_clean p bs solid)

-- no newline begins it
abbrev starts_in_line : List ℕ → Bool
starts_in_line [] = true
starts_in_line (b ∷ bs) = in_line b

in_line_known : (t : Bool) → not t ≡ true → t ≡ false
in_line_known true e = absurd (cc)
in_line_known false e = refl

-- white space before it says nothing then, unless it is empty
spaced_start : (t : List ℕ) → is_nothing t ≡ false → starts_in_line t ≡ true → ends_clean true t ≡ ends_clean false t
spaced_start [] e h = absurd (cc)
spaced_start (b ∷ bs) e h = not_newline true (b == 10) (ends_clean (is_space b && not (b == 10)) bs) (in_line_known (b == 10) h)

spaced_case : (t : List ℕ) (s n : Bool) → is_nothing t ≡ false → starts_in_line t ≡ true → ends_clean false t ≡ true → ends_clean (s && n) t ≡ true
spaced_case t true true e h k = spaced_start t e h ∙ k
spaced_case t true false e h k = k
spaced_case t false n e h k = k

-- what is known of a trimmed line
abbrev IsCleanLine : List ℕ → Type 0
IsCleanLine t = (ends_clean false t ≡ true) × (starts_in_line t ≡ true)

trim_step : (b : ℕ) (t : List ℕ) (s : Bool) → is_space b ≡ s → in_line b ≡ true → IsCleanLine t → IsCleanLine (cond (s && is_nothing t) [] (b ∷ t))
trim_step b t false e l h = (space_off (is_space b) (not (b == 10)) t e ∙ h.0, l)
trim_step b [] true e l h = (refl, refl)
trim_step b (c ∷ t) true e l h = (spaced_case (c ∷ t) (is_space b) (not (b == 10)) refl h.1 h.0, l)

trim_clean_case : (b : ℕ) (bs : List ℕ) (t : Bool) → in_line b ≡ t → IsCleanLine (trimmed (run_of in_line bs))
    → IsCleanLine (trimmed (cond t (b ∷ run_of in_line bs) []))
unfolding trimmed
trim_clean_case b bs true e h = trim_step b (trimmed (run_of in_line bs)) (is_space b) refl e h
trim_clean_case b bs false e h = (refl, refl)

-- a line without the white space at its end
pub trimmed_clean : (bs : List ℕ) → IsCleanLine (trimmed (run_of in_line bs))
unfolding run_of trimmed
trimmed_clean [] = (refl, refl)
trimmed_clean (b ∷ bs) = trim_clean_case b bs (in_line b) refl (trimmed_clean bs)
