-- Integers in decimal are one token before what ends it.
use Rattle.std.proofs.Common.{◌≡◌, ℕ, suc, ◌+◌, ◌*◌, ◌^◌, ◌<◌, ◌≤◌, List, [], ◌∷◌, ◌++◌, Bool, true, false, cond, Some, None, inl, inr, refl, ap, subst, ◌∙◌}
use Rattle.std.proofs.Common.{arith}
use Rattle.std.specs.Prelude.{ℤ, pos, negsuc, ◌||◌, ◌==◌, not, nat_lt, FitsSigned}
use Rattle.std.specs.List.{list_all}
use Rattle.std.specs.Int.{w128}
use Rattle.std.specs.Char.{digit_value}
use Rattle.std.specs.Fmt.{decimal, signed_decimal}
use Rattle.std.specs.Str.Parse.{AllDigits, IsNumeral, digits_value_after, digits_value}
use Rattle.std.proofs.lemmas.Bool.{and_from, lt-ltb}
use Rattle.std.proofs.lemmas.Bool.Decides.{nat_tests}
use Rattle.std.proofs.lemmas.Fmt.{decimal_is_IsNumeral_wide}
use Rattle.std.proofs.lemmas.Str.Parse.{digit_from_value}
use Rattle.isle_syntax.specs.declared.gap.Lead.{Lead}
use Rattle.isle_syntax.specs.declared.lexer.Token.{Token}
use Rattle.isle_syntax.specs.declared.lexer.Token.TheVariants.{Int, Big}
use Rattle.isle_syntax.specs.Tokens.Gaps.{lead_of, after_first, after_run, run_of}
use Rattle.isle_syntax.specs.Tokens.Integers.{is_negative, unsigned_of, radix_named, radix_of, continues_digits, digits_of, after_integer, has_digit}
use Rattle.isle_syntax.specs.Tokens.Integers.{spelt_after, spelt, integer_token, integer_of}
use Rattle.isle_syntax.specs.Tokens.Names.{is_symbol}
use Rattle.isle_syntax.specs.Tokens.TokensOf.{continues_symbol, IsToken, integer}
use Rattle.isle_values.proofs.GroundValues.Printed.Ends.{Ends, stops, run_front, after_front}

-- ---- digits

no_underscore : (c : ℕ) → digit_value c < 10 → c == 95 ≡ false
no_underscore c d = let range = digit_from_value c d in grind (arith, nat_tests)

names_no_radix : (c : ℕ) → digit_value c < 10 → radix_named c ≡ 10
names_no_radix c d = let range = digit_from_value c d in grind (arith, nat_tests)

begins_number : (c : ℕ) (cs : List ℕ) → digit_value c < 10 → lead_of (c ∷ cs) ≡ Lead.Number
begins_number c cs d = let range = digit_from_value c d in grind (arith, nat_tests)

no_minus : (c : ℕ) → digit_value c < 10 → c == 45 ≡ false
no_minus c d = let range = digit_from_value c d in grind (arith, nat_tests)

continues_by : (t : Bool) (v : ℕ) → v < 10 → (t || nat_lt v 10) ≡ true
continues_by true v h = refl
continues_by false v h = lt-ltb v 10 h

digits_continue : (ds : List ℕ) → AllDigits 10 ds → list_all (continues_digits 10) ds ≡ true
digits_continue [] d = refl
digits_continue (c ∷ cs) d = and_from (continues_digits 10 c) (list_all (continues_digits 10) cs) (continues_by (c == 95) (digit_value c) d.0)
    (digits_continue cs d.1)

digits_spelt : (value : ℕ) (ds : List ℕ) → AllDigits 10 ds → spelt_after 10 value ds ≡ digits_value_after 10 value ds
unfolding spelt_after
digits_spelt value [] d = refl
digits_spelt value (c ∷ cs) d =
    ap (λ t. spelt_after 10 (cond t value (value * 10 + digit_value c)) cs) (no_underscore c d.0) ∙ digits_spelt (value * 10 + digit_value c) cs d.1

some_digit : (ds : List ℕ) → IsNumeral 10 ds → has_digit ds ≡ true
some_digit [] n = absurd (omega (arith, n.0))
some_digit (c ∷ cs) n = ap (λ t. not t || has_digit cs) (no_underscore c n.1.0)

same_cases : (n : ℕ) (t : Bool) → cond t n n ≡ n
same_cases n true = refl
same_cases n false = refl

-- no prefix of another radix begins them
digits_radix : (ds rest : List ℕ) → IsNumeral 10 ds → Ends rest → radix_of (ds ++ rest) ≡ 10
digits_radix [] rest n ends = absurd (omega (arith, n.0))
digits_radix (b ∷ []) [] n ends = refl
digits_radix (b ∷ []) (r ∷ rest) n (inl e) = ap (λ c. cond (b == 48) (radix_named c) 10) e ∙ same_cases 10 (b == 48)
digits_radix (b ∷ []) (r ∷ rest) n (inr e) = ap (λ c. cond (b == 48) (radix_named c) 10) e ∙ same_cases 10 (b == 48)
digits_radix (b ∷ c ∷ cs) rest n ends = ap (λ r. cond (b == 48) r 10) (names_no_radix c n.1.1.0) ∙ same_cases 10 (b == 48)

-- ---- texts

abbrev digits_from : ℕ → List ℕ → List ℕ
digits_from radix text = cond (radix == 10) text (after_first (after_first text))

-- a sign and digits
numeral_before : (text ds rest : List ℕ) (negative : Bool) (t : Token) → lead_of text ≡ Lead.Number → is_negative text ≡ negative
    → unsigned_of text ≡ ds ++ rest → IsNumeral 10 ds → Ends rest → integer_token negative (digits_value 10 ds) ≡ Some t → IsToken text t rest
numeral_before text ds rest negative t lead minus behind n ends is =
    let all = digits_continue ds n.1 in
    let stop = stops (continues_digits 10) rest refl refl ends in
    let ten = digits_radix ds rest n ends in
    let radix : radix_of (unsigned_of text) ≡ 10 = ap radix_of behind ∙ ten in
    let digits : digits_of text ≡ ds = ap (λ u. run_of (continues_digits (radix_of u)) (digits_from (radix_of u) u)) behind
    ∙ ap (λ r. run_of (continues_digits r) (digits_from r (ds ++ rest))) ten ∙ run_front (continues_digits 10) ds rest all stop in
    let after : after_integer text ≡ rest = ap (λ u. after_run (continues_digits (radix_of u)) (digits_from (radix_of u) u)) behind
    ∙ ap (λ r. after_run (continues_digits r) (digits_from r (ds ++ rest))) ten ∙ after_front (continues_digits 10) ds rest all stop in
    let value : spelt 10 ds ≡ digits_value 10 ds = digits_spelt 0 ds n.1 in
    let read : integer_of text ≡ Some t = (λ i. cond (has_digit (digits i)) (integer_token (minus i) (spelt (radix i) (digits i))) None)
    ∙ ap (λ some. cond some (integer_token negative (spelt 10 ds)) None) (some_digit ds n) ∙ ap (integer_token negative) value ∙ is in
    subst (IsToken text t) after (integer lead read)

unsigned_before : (ds rest : List ℕ) (t : Token) → IsNumeral 10 ds → Ends rest → integer_token false (digits_value 10 ds) ≡ Some t
    → IsToken (ds ++ rest) t rest
unsigned_before [] rest t n ends is = absurd (omega (arith, n.0))
unsigned_before (c ∷ cs) rest t n ends is =
    let plus = no_minus c n.1.0 in
    numeral_before (c ∷ (cs ++ rest)) (c ∷ cs) rest false t (begins_number c (cs ++ rest) n.1.0) plus
    (ap (λ b. cond b (cs ++ rest) (c ∷ (cs ++ rest))) plus) n ends is

token_below : (n : ℕ) → n < 2 ^ 127 → integer_token false n ≡ Some (Int (pos n))
token_below n h = rw (lt-ltb n (2 ^ 127) h) refl

token_from : (n : ℕ) → 2 ^ 127 ≤ n → n < 2 ^ 128 → integer_token false n ≡ Some (Big n)
token_from n l h = grind (arith, nat_tests)

token_negative : (n : ℕ) → n < 2 ^ 127 → integer_token true (suc n) ≡ Some (Int (negsuc n))
token_negative n h = grind (arith, nat_tests)

-- a number from 2^127 to 2^128 - 1
pub large_before : (n : ℕ) (rest : List ℕ) → 2 ^ 127 ≤ n → n < 2 ^ 128 → Ends rest → IsToken (decimal n ++ rest) (Big n) rest
large_before n rest l h ends =
    let d = decimal_is_IsNumeral_wide n (omega arith) in
    unsigned_before (decimal n) rest (Big n) d.0 ends (ap (integer_token false) d.1 ∙ token_from n l h)

-- an integer of i128, with its minus
pub signed_before : (z : ℤ) (rest : List ℕ) → FitsSigned w128 z → Ends rest → IsToken (signed_decimal z ++ rest) (Int z) rest
signed_before (pos n) rest f ends =
    let d = decimal_is_IsNumeral_wide n (omega (arith, f.sfits)) in
    unsigned_before (decimal n) rest (Int (pos n)) d.0 ends (ap (integer_token false) d.1 ∙ token_below n f.sfits)
signed_before (negsuc n) rest f ends =
    let d = decimal_is_IsNumeral_wide (suc n) (omega (arith, f.sfits)) in
    numeral_before (45 ∷ (decimal (suc n) ++ rest)) (decimal (suc n)) rest true (Int (negsuc n)) refl refl refl d.0 ends
    (ap (integer_token true) d.1 ∙ token_negative n f.sfits)

-- ---- opaque values

digit_continues : (c : ℕ) → digit_value c < 10 → continues_symbol c ≡ true
digit_continues c d = let range = digit_from_value c d in grind (arith, nat_tests)

digits_within : (ds : List ℕ) → AllDigits 10 ds → list_all continues_symbol ds ≡ true
digits_within [] d = refl
digits_within (c ∷ cs) d = and_from (continues_symbol c) (list_all continues_symbol cs) (digit_continues c d.0) (digits_within cs d.1)

-- `v` and a number
pub opaque_is_symbol : (n : ℕ) → n < 2 ^ 64 → is_symbol (118 ∷ decimal n) ≡ true
opaque_is_symbol n h = let d = decimal_is_IsNumeral_wide n (omega (arith, h)) in digits_within (decimal n) d.0.1
