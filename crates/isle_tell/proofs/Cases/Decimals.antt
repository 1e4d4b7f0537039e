-- Worked cases: what numbers are written as.
use Rattle.std.proofs.Common.{◌≡◌, ◌≤◌, ◌<◌, ◌+◌, ◌/◌, ◌%◌, ◌∷◌, [], ℕ, arith, codes}
use Rattle.std.specs.Fmt.{decimal}
use Rattle.std.proofs.lemmas.Fmt.{decimal_digit, decimal_step}

-- a number of two digits
pub two_digits : (n : ℕ) → 10 ≤ n → n < 100 → decimal n ≡ (48 + n / 10) ∷ (48 + n % 10) ∷ []
two_digits n large small = rw (decimal_step n large (omega arith), decimal_digit (n / 10) (omega arith))

pub zero_text : decimal 0 ≡ codes "0"
zero_text = decimal_digit 0 (omega arith)

pub one_text : decimal 1 ≡ codes "1"
one_text = decimal_digit 1 (omega arith)

pub two_text : decimal 2 ≡ codes "2"
two_text = decimal_digit 2 (omega arith)

pub three_text : decimal 3 ≡ codes "3"
three_text = decimal_digit 3 (omega arith)

pub five_text : decimal 5 ≡ codes "5"
five_text = decimal_digit 5 (omega arith)

pub seven_text : decimal 7 ≡ codes "7"
seven_text = decimal_digit 7 (omega arith)

pub ten_text : decimal 10 ≡ codes "10"
ten_text = two_digits 10 (omega arith) (omega arith)

-- the greatest number of a site
pub last_site_text : decimal 65535 ≡ codes "65535"
last_site_text = rw (
  decimal_step 65535 (omega arith) (omega arith),
  decimal_step 6553 (omega arith) (omega arith),
  decimal_step 655 (omega arith) (omega arith),
  two_digits 65 (omega arith) (omega arith),
)
