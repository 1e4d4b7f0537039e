-- Lists related in pairs, and items that count up.
use Rattle.std.proofs.Common.{◌≡◌, ℕ, zero, suc, ◌+◌, List}
use Rattle.std.proofs.Common.{[], ◌∷◌, ◌++◌, length, Some, arith, refl, ap, sym, subst, ◌∙◌}
use Rattle.std.proofs.Common.{slice_get, add-zero}
use Rattle.std.specs.List.{AllZip}
use Rattle.std.proofs.lemmas.Option.{none-some, same_Some}
use Rattle.isle_types.specs.TypeEnvs.{CountUp}

-- what an item at a place of the second list is related to
pub zipped_back : {A B : Type 0} (R : A → B → Type 0) (xs : List A) (ys : List B) → AllZip R xs ys → (i : ℕ) (y : B) → slice_get ys i ≡ Some y
    → (x : A) × (slice_get xs i ≡ Some x) × R x y
zipped_back R [] [] each i y is = absurd (none-some y is)
zipped_back R (x ∷ xs) [] each i y is = absurd each
zipped_back R [] (first ∷ ys) each i y is = absurd each
zipped_back R (x ∷ xs) (first ∷ ys) each zero y is = (x, refl, subst (λ z. R x z) (same_Some first y is) each.0)
zipped_back R (x ∷ xs) (first ∷ ys) each (suc i) y is = zipped_back R xs ys each.1 i y is

-- two lists related in pairs are as long
pub zipped_length : {A B : Type 0} (R : A → B → Type 0) (xs : List A) (ys : List B) → AllZip R xs ys → length xs ≡ length ys
zipped_length R [] [] each = refl
zipped_length R (x ∷ xs) [] each = absurd each
zipped_length R [] (y ∷ ys) each = absurd each
zipped_length R (x ∷ xs) (y ∷ ys) each = ap suc (zipped_length R xs ys each.1)

-- lists related in pairs, and more behind them
pub zipped_append : {A B : Type 0} (R : A → B → Type 0) (xs : List A) (ys : List B) (more : List A) (others : List B) → AllZip R xs ys
    → AllZip R more others → AllZip R (xs ++ more) (ys ++ others)
zipped_append R [] [] more others each then = then
zipped_append R (x ∷ xs) [] more others each then = absurd each
zipped_append R [] (y ∷ ys) more others each then = absurd each
zipped_append R (x ∷ xs) (y ∷ ys) more others each then = (each.0, zipped_append R xs ys more others each.1 then)

-- the number of an item that counts up
pub count_at : {X : Type 0} (number : X → ℕ) (n : ℕ) (xs : List X) → CountUp number n xs → (i : ℕ) (x : X) → slice_get xs i ≡ Some x
    → number x ≡ n + i
count_at number n [] counted i x is = absurd (none-some x is)
count_at number n (first ∷ xs) counted zero x is = ap number (sym (same_Some first x is)) ∙ counted.0 ∙ sym (add-zero n)
count_at number n (first ∷ xs) counted (suc i) x is =
    let later : suc n + i ≡ n + suc i = omega arith in count_at number (suc n) xs counted.1 i x is ∙ later

-- items that count up, and more behind them
pub count_append : {X : Type 0} (number : X → ℕ) (n : ℕ) (xs ys : List X) → CountUp number n xs → CountUp number (n + length xs) ys
    → CountUp number n (xs ++ ys)
count_append number n [] ys counted then = subst (λ k. CountUp number k ys) (add-zero n) then
count_append number n (x ∷ xs) ys counted then =
    let later : n + suc (length xs) ≡ suc n + length xs = omega arith in
    (counted.0, count_append number (suc n) xs ys counted.1 (subst (λ k. CountUp number k ys) later then))
