-- Whether a newline is the last of some bytes.
use Rattle.std.proofs.Common.{◌≡◌, ℕ, ◌+◌, List, [], ◌∷◌, ◌++◌, Bool, true, false, cond, refl, sym, ap, ◌∙◌, arith}
use Rattle.std.specs.Prelude.{◌==◌, ◌&&◌, nat_lt}
use Rattle.std.proofs.lemmas.Bool.Decides.{nat_tests}
use Rattle.isle_layout.specs.Keeping.LineEnds.{is_spaced, EndsInNewline}

-- whether the last byte is a newline; of no bytes the first says it
abbrev pub last_newline : Bool → List ℕ → Bool
last_newline newline [] = newline
last_newline newline (b ∷ bs) = last_newline (b == 10) bs

pub last_behind : (newline : Bool) (bs rest : List ℕ) → last_newline newline (bs ++ rest) ≡ last_newline (last_newline newline bs) rest
last_behind newline [] rest = refl
last_behind newline (b ∷ bs) rest = last_behind (b == 10) bs rest

-- then it ends in none
pub not_in_newline : (bs : List ℕ) → last_newline false bs ≡ false → ¬ (EndsInNewline bs)
not_in_newline bs e ends =
    let known : true ≡ false = sym (last_behind false ends.0 (10 ∷ [])) ∙ ap (last_newline false) (sym ends.1) ∙ e in
    absurd (cc)

spaced_step : (newlines : ℕ) (t : Bool) (b : ℕ) (bs : List ℕ) → b == 10 ≡ t
    → ((n : ℕ) → is_spaced n (bs ++ 10 ∷ []) ≡ true → last_newline (nat_lt 0 n) bs ≡ false)
    → cond t (nat_lt newlines 2 && is_spaced (newlines + 1) (bs ++ 10 ∷ [])) (is_spaced 0 (bs ++ 10 ∷ [])) ≡ true
    → last_newline t bs ≡ false
spaced_step newlines true b bs e more h = ap (λ v. last_newline v bs) (positive newlines) ∙ more (newlines + 1) (second (nat_lt newlines 2) _ h)
  where
    positive : (n : ℕ) → true ≡ nat_lt 0 (n + 1)
    positive n = grind (arith, nat_tests)

    second : (x y : Bool) → x && y ≡ true → y ≡ true
    second true y e = e
    second false y e = absurd (cc)
spaced_step newlines false b bs e more h = more 0 h

spaced_end : (newlines : ℕ) → is_spaced newlines (10 ∷ []) ≡ true → nat_lt 0 newlines ≡ false
spaced_end newlines h = grind (arith, nat_tests)

last_spaced_from : (newlines : ℕ) (bs : List ℕ) → is_spaced newlines (bs ++ 10 ∷ []) ≡ true → last_newline (nat_lt 0 newlines) bs ≡ false
last_spaced_from newlines [] h = spaced_end newlines h
last_spaced_from newlines (b ∷ bs) h = spaced_step newlines (b == 10) b bs refl (λ n. last_spaced_from n bs) h

-- where a newline may follow with no blank line before it, none is last
pub last_spaced : (bs : List ℕ) → is_spaced 0 (bs ++ 10 ∷ []) ≡ true → last_newline false bs ≡ false
last_spaced bs h = last_spaced_from 0 bs h
