-- The number that digits spell.
use Rattle.std.proofs.Common.{◌≡◌, ℕ, ◌+◌, ◌*◌, ◌≤◌, ◌<◌, List, [], ◌∷◌, Bool, true, false, cond, refl, arith}
use Rattle.std.proofs.Math.Nat.{le-mul_of_pos_right}
use Rattle.std.specs.Prelude.{◌==◌}
use Rattle.std.specs.Char.{digit_value}
use Rattle.isle_syntax.specs.Tokens.Integers.{spelt_after, spelt_with}

pub spelt_none : (radix value : ℕ) → spelt_after radix value [] ≡ value
unfolding spelt_after
spelt_none radix value = refl

pub spelt_one : (radix value b : ℕ) (bs : List ℕ) → spelt_after radix value (b ∷ bs) ≡ spelt_after radix (spelt_with radix value b) bs
unfolding spelt_after
spelt_one radix value b bs = refl

with_case : (radix value d : ℕ) (t : Bool) → 0 < radix → value ≤ cond t value (value * radix + d)
with_case radix value d true h = omega arith
with_case radix value d false h = omega (arith, le-mul_of_pos_right value h)

-- each digit leaves it as great as it was, or makes it greater
pub spelt_more : (radix value : ℕ) (bs : List ℕ) → 0 < radix → value ≤ spelt_after radix value bs
unfolding spelt_after
spelt_more radix value [] h = omega arith
spelt_more radix value (b ∷ bs) h =
    omega (arith, with_case radix value (digit_value b) (b == 95) h, spelt_more radix (spelt_with radix value b) bs h)
