-- What follows an integer is an end of the text, where the text may be cut.
use Rattle.std.proofs.Common.{◌≡◌, ℕ, ◌<◌, ◌≤◌, List, [], ◌∷◌, get_or, Bool, true, false, cond, refl, inl, inr, arith}
use Rattle.std.specs.Prelude.{◌==◌}
use Rattle.std.proofs.lemmas.Bool.{cases_lt}
use Rattle.std.proofs.lemmas.Bool.Decides.{nat_tests}
use Rattle.isle_syntax.specs.Tokens.Gaps.{after_first}
use Rattle.isle_syntax.specs.Tokens.Integers.{is_negative, unsigned_of, radix_named, radix_of, behind_prefix, continues_digits, after_integer}
use Rattle.isle_syntax.proofs.Tokens.GapCuts.{Cut, cut_first, cut_run}

minus_ascii : (ts : List ℕ) → is_negative ts ≡ true → get_or ts 0 0 < 128
minus_ascii [] e = omega arith
minus_ascii (b ∷ bs) e = grind (arith, nat_tests)

named_ascii : (c : ℕ) → radix_named c == 10 ≡ false → c < 128
named_ascii c e = grind (arith, nat_tests)

first_ascii : (b c : ℕ) (bs : List ℕ) → radix_of (b ∷ c ∷ bs) == 10 ≡ false → b < 128
first_ascii b c bs e = grind (arith, nat_tests)

second_ascii : (b c : ℕ) (bs : List ℕ) → radix_of (b ∷ c ∷ bs) == 10 ≡ false → c < 128
second_ascii b c bs e = grind (arith, nat_tests, named_ascii)

few_radix : (ts : List ℕ) → radix_of ts ≤ 36
few_radix [] = omega arith
few_radix (b ∷ []) = omega arith
few_radix (b ∷ c ∷ bs) = grind (arith, nat_tests)

past_digits : (radix b : ℕ) → radix ≤ 36 → 128 ≤ b → ¬ (continues_digits radix b ≡ true)
past_digits radix b few h e = grind (arith, nat_tests)

digit_ascii : (radix b : ℕ) → radix ≤ 36 → continues_digits radix b ≡ true → b < 128
digit_ascii radix b few e = elim (cases_lt b 128) [ inl l ↦ l | inr l ↦ absurd (past_digits radix b few l e) ]

cut_unsigned : {text : List ℕ} (ts : List ℕ) (t : Bool) → is_negative ts ≡ t → Cut text ts → Cut text (cond t (after_first ts) ts)
cut_unsigned ts true e c = cut_first ts c (minus_ascii ts e)
cut_unsigned ts false e c = c

cut_prefix : {text : List ℕ} (ts : List ℕ) (t : Bool) → radix_of ts == 10 ≡ t → Cut text ts → Cut text (cond t ts (after_first (after_first ts)))
cut_prefix ts true e c = c
cut_prefix [] false e c = c
cut_prefix (b ∷ []) false e c = absurd (cc)
cut_prefix (b ∷ d ∷ bs) false e c = cut_first (d ∷ bs) (cut_first (b ∷ d ∷ bs) c (first_ascii b d bs e)) (second_ascii b d bs e)

pub cut_integer : {text : List ℕ} (ts : List ℕ) → Cut text ts → Cut text (after_integer ts)
cut_integer ts c =
    let u = unsigned_of ts in
    cut_run (continues_digits (radix_of u)) (behind_prefix u) (λ b e. digit_ascii (radix_of u) b (few_radix u) e)
    (cut_prefix u (radix_of u == 10) refl (cut_unsigned ts (is_negative ts) refl c))
