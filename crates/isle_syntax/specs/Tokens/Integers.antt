-- Integers as they are spelt.
use Rattle.std.specs.Prelude.{ℕ, ◌+◌, ◌*◌, ◌^◌, pos, neg_ℤ, List, [], ◌∷◌, Bool, true, false, cond, ◌||◌, ◌==◌, not, nat_lt, nat_le, Option, Some}
use Rattle.std.specs.Prelude.{None}
use Rattle.std.specs.List.{list_any}
use Rattle.std.specs.Char.{digit_value}
use Rattle.isle_syntax.specs.Tokens.Gaps.{after_first, after_run, run_of}
use Rattle.isle_syntax.specs.declared.lexer.Token.{Token}
use Rattle.isle_syntax.specs.declared.lexer.Token.TheVariants.{Int, Big}

-- whether a text begins with `-`
abbrev pub is_negative : List ℕ → Bool
is_negative [] = false
is_negative (b ∷ bs) = b == 45

-- an integer's text without its `-`
abbrev pub unsigned_of : List ℕ → List ℕ
unsigned_of text = cond (is_negative text) (after_first text) text

-- the radix that `0` and this letter name, in either case: `x` 16, `o` 8, `b` 2; with any other byte it is 10
abbrev pub radix_named : ℕ → ℕ
radix_named b = cond (b == 120 || b == 88) 16 (cond (b == 111 || b == 79) 8 (cond (b == 98 || b == 66) 2 10))

-- the radix of an integer without its `-`
abbrev pub radix_of : List ℕ → ℕ
radix_of [] = 10
radix_of (b ∷ []) = 10
radix_of (b ∷ c ∷ bs) = cond (b == 48) (radix_named c) 10

-- the text without the prefix of its radix
abbrev pub behind_prefix : List ℕ → List ℕ
behind_prefix text = cond (radix_of text == 10) text (after_first (after_first text))

-- a byte that goes on with the digits of a radix: one of them, or `_`
abbrev pub continues_digits : ℕ → ℕ → Bool
continues_digits radix b = b == 95 || nat_lt (digit_value b) radix

-- the longest run of digits and `_`
abbrev pub digits_of : List ℕ → List ℕ
digits_of text = let unsigned = unsigned_of text in run_of (continues_digits (radix_of unsigned)) (behind_prefix unsigned)

-- what follows them, which ends the integer
abbrev pub after_integer : List ℕ → List ℕ
after_integer text = let unsigned = unsigned_of text in after_run (continues_digits (radix_of unsigned)) (behind_prefix unsigned)

-- one of the bytes is a digit, not `_`
abbrev pub has_digit : List ℕ → Bool
has_digit bs = list_any (λ b. not (b == 95)) bs

-- the number that one more digit spells behind those that spell this one; `_` says nothing
abbrev pub spelt_with : ℕ → ℕ → ℕ → ℕ
spelt_with radix value b = cond (b == 95) value (value * radix + digit_value b)

-- the number that digits go on to spell
unfoldable pub spelt_after : ℕ → ℕ → List ℕ → ℕ
spelt_after radix value [] = value
spelt_after radix value (b ∷ bs) = spelt_after radix (spelt_with radix value b) bs

-- the number that digits spell
abbrev pub spelt : ℕ → List ℕ → ℕ
spelt radix digits = spelt_after radix 0 digits

-- the token of a sign and a magnitude: from -2^127 to 2^127 - 1, or without a sign to 2^128 - 1
abbrev pub integer_token : Bool → ℕ → Option Token
integer_token true n = cond (nat_le n (2 ^ 127)) (Some (Int (neg_ℤ (pos n)))) None
integer_token false n = cond (nat_lt n (2 ^ 127)) (Some (Int (pos n))) (cond (nat_lt n (2 ^ 128)) (Some (Big n)) None)

-- the token of a sign and digits of a radix, if one is among them
abbrev pub digits_token : Bool → ℕ → List ℕ → Option Token
digits_token negative radix digits = cond (has_digit digits) (integer_token negative (spelt radix digits)) None

-- the integer at the front of a text, if one is spelt there
abbrev pub integer_of : List ℕ → Option Token
integer_of text = digits_token (is_negative text) (radix_of (unsigned_of text)) (digits_of text)
