-- The number of binary digits: what it bounds, and how it falls when a number is halved.
use Rattle.std.proofs.Common.{◌≡◌, ℕ, ◌+◌, ◌-◌, ◌/◌, ◌^◌, ◌<◌, ◌≤◌, inl, inr, subst, arith}
use Rattle.std.specs.Int.Digits.{digits_of}
use Rattle.std.proofs.lemmas.Bool.{cases_lt}
use Rattle.std.proofs.lemmas.Int.Digits.{number_lt, number_digits_of, all_below_base_digits_of, length-digits_of-le, length-digits_of_step}
use Rattle.isle_containers.specs.SortedMaps.{binary_digits}

-- a number is below the power of two that has as many digits
pub lt-pow-binary_digits : (n : ℕ) → n < 2 ^ binary_digits n
lt-pow-binary_digits n =
    subst (λ m. m < 2 ^ binary_digits n) (number_digits_of 2 n (omega arith))
    (number_lt 2 (digits_of 2 n) (all_below_base_digits_of 2 n (omega arith)))

-- no number with fewer digits would do
pub binary_digits-least : (n k : ℕ) → n < 2 ^ k → binary_digits n ≤ k
binary_digits-least n k below = length-digits_of-le 2 k n (omega arith) below

-- a number that is not 0 halved has one digit less
pub binary_digits-halved : (n : ℕ) → 0 < n → binary_digits n ≡ binary_digits (n / 2) + 1
binary_digits-halved n positive = length-digits_of_step 2 n (omega arith) positive

-- a number that isn't greater has no more digits
pub binary_digits-mono : (m n : ℕ) → m ≤ n → binary_digits m ≤ binary_digits n
binary_digits-mono m n le = binary_digits-least m (binary_digits n) (omega (arith, lt-pow-binary_digits n))

-- a search that keeps at most half of n candidates by one comparison
pub binary_digits-step : (n left : ℕ) → 0 < n → left ≤ n / 2 → binary_digits left + 1 ≤ binary_digits n
binary_digits-step n left positive half = omega (arith, binary_digits-halved n positive, binary_digits-mono left (n / 2) half)
