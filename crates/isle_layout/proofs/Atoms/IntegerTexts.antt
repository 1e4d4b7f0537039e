-- Integers in decimal are one token.
use Rattle.std.proofs.Common.{◌≡◌, ℕ, suc, ◌+◌, ◌*◌, ◌^◌, ◌<◌, ◌≤◌, List, [], ◌∷◌, Bool, true, false, cond, Some, None, refl, sym, ap, subst, ◌∙◌}
use Rattle.std.proofs.Common.{arith}
use Rattle.std.specs.Prelude.{ℤ, pos, negsuc, ◌||◌, ◌==◌, not, nat_lt, int_lt, FitsSigned}
use Rattle.std.specs.List.{list_all}
use Rattle.std.specs.Int.{w128, cast_unsigned}
use Rattle.std.specs.Char.{digit_value}
use Rattle.std.specs.Fmt.{decimal, signed_decimal}
use Rattle.std.specs.Str.Parse.{AllDigits, IsNumeral, digits_value_after, digits_value}
use Rattle.std.proofs.lemmas.Bool.{and_from, lt-ltb}
use Rattle.std.proofs.lemmas.Bool.Decides.{nat_tests}
use Rattle.std.proofs.lemmas.Fmt.{decimal_is_IsNumeral_wide}
use Rattle.std.proofs.lemmas.Int.{to_z-of_z}
use Rattle.std.proofs.lemmas.Str.Parse.{digit_from_value}
use Rattle.isle_syntax.specs.declared.gap.Lead.{Lead}
use Rattle.isle_syntax.specs.declared.lexer.Token.{Token}
use Rattle.isle_syntax.specs.declared.lexer.Token.TheVariants.{Int, Big}
use Rattle.isle_syntax.specs.Tokens.Gaps.{lead_of, after_first, after_run, run_of}
use Rattle.isle_syntax.specs.Tokens.Integers.{is_negative, unsigned_of, radix_named, radix_of, continues_digits, digits_of, after_integer, has_digit}
use Rattle.isle_syntax.specs.Tokens.Integers.{spelt_after, spelt, integer_token, integer_of}
use Rattle.isle_syntax.specs.Tokens.TokensOf.{IsToken, integer}
use Rattle.isle_syntax.specs.Tokens.PlacedTokens.{Literal, small, large}
use Rattle.isle_syntax.specs.Grammar.TreeGrammar.{bits_of, is_large}
use Rattle.isle_layout.specs.Spellings.{integer_text}
use Rattle.isle_layout.proofs.Atoms.AtomTexts.{run_all, after_all}

-- ---- digits

no_underscore : (c : ℕ) → digit_value c < 10 → c == 95 ≡ false
no_underscore c d = let range = digit_from_value c d in grind (arith, nat_tests)

names_no_radix : (c : ℕ) → digit_value c < 10 → radix_named c ≡ 10
names_no_radix c d = let range = digit_from_value c d in grind (arith, nat_tests)

begins_number : (c : ℕ) (cs : List ℕ) → digit_value c < 10 → lead_of (c ∷ cs) ≡ Lead.Number
begins_number c cs d = let range = digit_from_value c d in grind (arith, nat_tests)

no_minus : (c : ℕ) → digit_value c < 10 → c == 45 ≡ false
no_minus c d = let range = digit_from_value c d in grind (arith, nat_tests)

continues_by : (t : Bool) (v : ℕ) → v < 10 → (t || nat_lt v 10) ≡ true
continues_by true v h = refl
continues_by false v h = lt-ltb v 10 h

digits_continue : (ds : List ℕ) → AllDigits 10 ds → list_all (continues_digits 10) ds ≡ true
digits_continue [] d = refl
digits_continue (c ∷ cs) d = and_from (continues_digits 10 c) (list_all (continues_digits 10) cs) (continues_by (c == 95) (digit_value c) d.0)
    (digits_continue cs d.1)

digits_spelt : (value : ℕ) (ds : List ℕ) → AllDigits 10 ds → spelt_after 10 value ds ≡ digits_value_after 10 value ds
unfolding spelt_after
digits_spelt value [] d = refl
digits_spelt value (c ∷ cs) d =
    ap (λ t. spelt_after 10 (cond t value (value * 10 + digit_value c)) cs) (no_underscore c d.0) ∙ digits_spelt (value * 10 + digit_value c) cs d.1

some_digit : (ds : List ℕ) → IsNumeral 10 ds → has_digit ds ≡ true
some_digit [] n = absurd (omega (arith, n.0))
some_digit (c ∷ cs) n = ap (λ t. not t || has_digit cs) (no_underscore c n.1.0)

same_cases : (n : ℕ) (t : Bool) → cond t n n ≡ n
same_cases n true = refl
same_cases n false = refl

-- no prefix of another radix begins them
digits_radix : (ds : List ℕ) → AllDigits 10 ds → radix_of ds ≡ 10
digits_radix [] d = refl
digits_radix (b ∷ []) d = refl
digits_radix (b ∷ c ∷ cs) d = ap (λ r. cond (b == 48) r 10) (names_no_radix c d.1.0) ∙ same_cases 10 (b == 48)

-- ---- texts

abbrev digits_from : ℕ → List ℕ → List ℕ
digits_from radix text = cond (radix == 10) text (after_first (after_first text))

-- a sign and digits
numeral_token : (text ds : List ℕ) (negative : Bool) (t : Token) → lead_of text ≡ Lead.Number → is_negative text ≡ negative → unsigned_of text ≡ ds
    → IsNumeral 10 ds
    → integer_token negative (digits_value 10 ds) ≡ Some t → IsToken text t []
numeral_token text ds negative t lead minus behind n is =
    let all = digits_continue ds n.1 in
    let radix : radix_of (unsigned_of text) ≡ 10 = ap radix_of behind ∙ digits_radix ds n.1 in
    let digits : digits_of text ≡ ds = ap (λ u. run_of (continues_digits (radix_of u)) (digits_from (radix_of u) u)) behind
    ∙ ap (λ r. run_of (continues_digits r) (digits_from r ds)) (digits_radix ds n.1) ∙ run_all (continues_digits 10) ds all in
    let rest : after_integer text ≡ [] = ap (λ u. after_run (continues_digits (radix_of u)) (digits_from (radix_of u) u)) behind
    ∙ ap (λ r. after_run (continues_digits r) (digits_from r ds)) (digits_radix ds n.1) ∙ after_all (continues_digits 10) ds all in
    let value : spelt 10 ds ≡ digits_value 10 ds = digits_spelt 0 ds n.1 in
    let read : integer_of text ≡ Some t = (λ i. cond (has_digit (digits i)) (integer_token (minus i) (spelt (radix i) (digits i))) None)
    ∙ ap (λ some. cond some (integer_token negative (spelt 10 ds)) None) (some_digit ds n) ∙ ap (integer_token negative) value ∙ is in
    subst (IsToken text t) rest (integer lead read)

unsigned_token : (ds : List ℕ) (t : Token) → IsNumeral 10 ds → integer_token false (digits_value 10 ds) ≡ Some t → IsToken ds t []
unsigned_token [] t n is = absurd (omega (arith, n.0))
unsigned_token (c ∷ cs) t n is =
    let plus = no_minus c n.1.0 in
    numeral_token (c ∷ cs) (c ∷ cs) false t (begins_number c cs n.1.0) plus (ap (λ b. cond b cs (c ∷ cs)) plus) n is

token_below : (n : ℕ) → n < 2 ^ 127 → integer_token false n ≡ Some (Int (pos n))
token_below n h = rw (lt-ltb n (2 ^ 127) h) refl

-- a number below 2^127
pub natural_token : (n : ℕ) → n < 2 ^ 127 → IsToken (decimal n) (Int (pos n)) []
natural_token n h =
    let d = decimal_is_IsNumeral_wide n (omega arith) in
    unsigned_token (decimal n) (Int (pos n)) d.0 (ap (integer_token false) d.1 ∙ token_below n h)

token_from : (n : ℕ) → 2 ^ 127 ≤ n → n < 2 ^ 128 → integer_token false n ≡ Some (Big n)
token_from n l h = grind (arith, nat_tests)

-- one from there to 2^128 - 1
pub large_token : (n : ℕ) → 2 ^ 127 ≤ n → n < 2 ^ 128 → IsToken (decimal n) (Big n) []
large_token n l h =
    let d = decimal_is_IsNumeral_wide n (omega arith) in
    unsigned_token (decimal n) (Big n) d.0 (ap (integer_token false) d.1 ∙ token_from n l h)

token_negative : (n : ℕ) → n < 2 ^ 127 → integer_token true (suc n) ≡ Some (Int (negsuc n))
token_negative n h = grind (arith, nat_tests)

-- an integer of i128, with its minus
pub signed_token : (z : ℤ) → FitsSigned w128 z → IsToken (signed_decimal z) (Int z) []
signed_token (pos n) f = natural_token n f.sfits
signed_token (negsuc n) f =
    let d = decimal_is_IsNumeral_wide (suc n) (omega (arith, f.sfits)) in
    numeral_token (45 ∷ decimal (suc n)) (decimal (suc n)) true (Int (negsuc n)) refl refl refl d.0 (ap (integer_token true) d.1
    ∙ token_negative n f.sfits)

-- ---- integers of trees

-- the literal of 128 bits
abbrev pub literal_of : ℤ → Bool → Literal
literal_of val true = large (cast_unsigned w128 val)
literal_of val false = small val

abbrev pub literal_token : Literal → Token
literal_token (small z) = Int z
literal_token (large n) = Big n

-- a `big` integer is negative as 128 bits
pub integer_text_token : (val : ℤ) (big : Bool) → FitsSigned w128 val → (not big || int_lt val (pos 0)) ≡ true
    → IsToken (integer_text val big) (literal_token (literal_of val big)) []
integer_text_token val false f e = signed_token val f
integer_text_token (pos n) true f e = absurd (grind (arith, nat_tests))
integer_text_token (negsuc n) true f e = large_token (cast_unsigned w128 (negsuc n)) (omega (arith, f.sfits)) (omega (arith, f.sfits))

pub literal_bits : (val : ℤ) (big : Bool) → FitsSigned w128 val → val ≡ bits_of (literal_of val big)
literal_bits val true f = sym (to_z-of_z w128 val f)
literal_bits val false f = refl

pub literal_large : (val : ℤ) (big : Bool) → big ≡ is_large (literal_of val big)
literal_large val true = refl
literal_large val false = refl
