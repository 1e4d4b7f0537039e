-- Newlines in a row, step by step.
use Rattle.std.proofs.Common.{◌≡◌, ℕ, ◌+◌, List, [], ◌∷◌, ◌++◌, Bool, true, false, cond, refl, ap, ◌∙◌, nat_lt, arith}
use Rattle.std.specs.Prelude.{◌==◌, ◌&&◌}
use Rattle.std.proofs.lemmas.Bool.Decides.{nat_tests}
use Rattle.isle_syntax.specs.Tokens.Names.{is_space}
use Rattle.isle_syntax.specs.Tokens.Gaps.{run_of, in_line}
use Rattle.isle_layout.specs.Keeping.Pieces.{trimmed, is_nothing}
use Rattle.isle_layout.specs.Keeping.LineEnds.{is_spaced}

newline_off : (t : Bool) (x y : Bool) → t ≡ false → cond t x y ≡ y
newline_off true x y e = absurd (cc)
newline_off false x y e = refl

-- behind a byte that is no newline, whatever stood before
pub other_behind : (n b : ℕ) (bs : List ℕ) → b == 10 ≡ false → is_spaced n (b ∷ bs) ≡ is_spaced 0 bs
other_behind n b bs e = newline_off (b == 10) (nat_lt n 2 && is_spaced (n + 1) bs) (is_spaced 0 bs) e

pub spaced_step : (b : ℕ) (bs : List ℕ) → b == 10 ≡ false → is_spaced 0 (bs ++ 10 ∷ []) ≡ true → is_spaced 0 (b ∷ (bs ++ 10 ∷ [])) ≡ true
spaced_step b bs e h = other_behind 0 b (bs ++ 10 ∷ []) e ∙ h

both_true : (a b : Bool) → a && b ≡ true → (a ≡ true) × (b ≡ true)
both_true true b e = (refl, e)
both_true false b e = absurd (cc)

true_first : (a b : Bool) → a ≡ true → a && b ≡ b
true_first true b e = refl
true_first false b e = absurd (cc)

none_before : (n : ℕ) → nat_lt n 2 && nat_lt (n + 1) 2 ≡ true → n ≡ 0
none_before n e = grind (arith, nat_tests)

behind_case : (n b : ℕ) (bs rest : List ℕ) (t : Bool) → cond t (nat_lt n 2 && is_spaced (n + 1) (bs ++ 10 ∷ [])) (is_spaced 0 (bs ++ 10 ∷ [])) ≡ true
    → ((m : ℕ) → is_spaced m (bs ++ 10 ∷ []) ≡ true → is_spaced m (bs ++ rest) ≡ is_spaced 0 rest)
    → cond t (nat_lt n 2 && is_spaced (n + 1) (bs ++ rest)) (is_spaced 0 (bs ++ rest)) ≡ is_spaced 0 rest
behind_case n b bs rest true e h =
    let both = both_true (nat_lt n 2) (is_spaced (n + 1) (bs ++ 10 ∷ [])) e in
    true_first (nat_lt n 2) (is_spaced (n + 1) (bs ++ rest)) both.0 ∙ h (n + 1) both.1
behind_case n b bs rest false e h = h 0 e

-- behind a text with no two blank lines in a row, and no newline at its end
pub spaced_behind : (n : ℕ) (bs rest : List ℕ) → is_spaced n (bs ++ 10 ∷ []) ≡ true → is_spaced n (bs ++ rest) ≡ is_spaced 0 rest
spaced_behind n [] rest e = ap (λ m. is_spaced m rest) (none_before n e)
spaced_behind n (b ∷ bs) rest e = behind_case n b bs rest (b == 10) e (λ m. spaced_behind m bs rest)

run_case : (p : ℕ → Bool) (b : ℕ) (bs : List ℕ) (t : Bool) → p b ≡ t → ((c : ℕ) → p c ≡ true → c == 10 ≡ false)
    → is_spaced 0 (run_of p bs ++ 10 ∷ []) ≡ true → is_spaced 0 (cond t (b ∷ run_of p bs) [] ++ 10 ∷ []) ≡ true
run_case p b bs true e other h = spaced_step b (run_of p bs) (other b e) h
run_case p b bs false e other h = refl

-- a run of bytes that are no newlines
pub run_spaced : (p : ℕ → Bool) (bs : List ℕ) → ((c : ℕ) → p c ≡ true → c == 10 ≡ false) → is_spaced 0 (run_of p bs ++ 10 ∷ []) ≡ true
unfolding run_of
run_spaced p [] other = refl
run_spaced p (b ∷ bs) other = run_case p b bs (p b) refl other (run_spaced p bs other)

in_line_known : (b : ℕ) → in_line b ≡ true → b == 10 ≡ false
in_line_known b e = grind (arith, nat_tests)

trim_step : (b : ℕ) (t : List ℕ) (cut : Bool) → in_line b ≡ true → is_spaced 0 (t ++ 10 ∷ []) ≡ true
    → is_spaced 0 (cond cut [] (b ∷ t) ++ 10 ∷ []) ≡ true
trim_step b t true l h = refl
trim_step b t false l h = spaced_step b t (in_line_known b l) h

trim_case : (b : ℕ) (bs : List ℕ) (t : Bool) → in_line b ≡ t → is_spaced 0 (trimmed (run_of in_line bs) ++ 10 ∷ []) ≡ true
    → is_spaced 0 (trimmed (cond t (b ∷ run_of in_line bs) []) ++ 10 ∷ []) ≡ true
unfolding trimmed
trim_case b bs true e h = trim_step b (trimmed (run_of in_line bs)) (is_space b && is_nothing (trimmed (run_of in_line bs))) e h
trim_case b bs false e h = refl

-- a line without the white space at its end
pub trimmed_spaced : (bs : List ℕ) → is_spaced 0 (trimmed (run_of in_line bs) ++ 10 ∷ []) ≡ true
unfolding run_of trimmed
trimmed_spaced [] = refl
trimmed_spaced (b ∷ bs) = trim_case b bs (in_line b) refl (trimmed_spaced bs)

pub solid_other : (b : ℕ) → is_space b ≡ false → b == 10 ≡ false
solid_other b e = grind (arith, nat_tests)
