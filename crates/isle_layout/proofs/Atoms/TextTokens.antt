-- The tokens of a text stand in it as tokens do.
use Rattle.std.proofs.Common.{◌≡◌, ℕ, zero, suc, ◌-◌, ◌^◌, ◌≤◌, le-leb, List, [], ◌∷◌, Bool, true, false, cond, Some, None, refl, ap, subst, ◌∙◌}
use Rattle.std.proofs.Common.{arith}
use Rattle.std.specs.Prelude.{nat_le, nat_lt, pos, neg_ℤ}
use Rattle.std.specs.List.{list_all}
use Rattle.std.proofs.lemmas.Bool.{and_from, leb-true, ltb-true, ltb-false}
use Rattle.std.proofs.lemmas.Bool.Decides.{nat_tests}
use Rattle.isle_syntax.specs.declared.gap.Lead.{Lead}
use Rattle.isle_ast.specs.declared.pos.Pos.{Pos}
use Rattle.isle_syntax.specs.declared.lexer.Token.{Token}
use Rattle.isle_syntax.specs.declared.lexer.Token.TheVariants.{Int, Big}
use Rattle.isle_syntax.specs.Tokens.Names.{begins_symbol, is_symbol}
use Rattle.isle_syntax.specs.Tokens.PlacedTokens.{Placed, placed_at}
use Rattle.isle_syntax.specs.Tokens.RemainingTokens.{Source}
use Rattle.isle_syntax.specs.Tokens.Gaps.{lead_of, run_of}
use Rattle.isle_syntax.specs.Tokens.Integers.{is_negative, unsigned_of, radix_of, digits_of, has_digit, spelt, integer_token}
use Rattle.isle_syntax.specs.Tokens.TokensOf.{continues_symbol, IsToken, opening, closing, at_sign, integer, word, TokensOf, ended, stopped, token}
use Rattle.isle_layout.specs.Inside.TextTokens.{IsTextToken, AreTextTokens}
use Rattle.isle_layout.specs.Writable.{fits_i128}

-- ---- symbols

run_case : (b : ℕ) (bs : List ℕ) (t : Bool) → continues_symbol b ≡ t → list_all continues_symbol (run_of continues_symbol bs) ≡ true
    → list_all continues_symbol (cond t (b ∷ run_of continues_symbol bs) []) ≡ true
run_case b bs true e h = and_from (continues_symbol b) (list_all continues_symbol (run_of continues_symbol bs)) e h
run_case b bs false e h = refl

run_continues : (bs : List ℕ) → list_all continues_symbol (run_of continues_symbol bs) ≡ true
unfolding run_of
run_continues [] = refl
run_continues (b ∷ bs) = run_case b bs (continues_symbol b) refl (run_continues bs)

word_begins : (b : ℕ) (bs : List ℕ) → lead_of (b ∷ bs) ≡ Lead.Word → begins_symbol b ≡ true
word_begins b bs e = grind (arith, nat_tests)

word_continues : (b : ℕ) (bs : List ℕ) → lead_of (b ∷ bs) ≡ Lead.Word → continues_symbol b ≡ true
word_continues b bs e = grind (arith, nat_tests)

run_begins : (b : ℕ) (bs : List ℕ) → continues_symbol b ≡ true → run_of continues_symbol (b ∷ bs) ≡ b ∷ run_of continues_symbol bs
unfolding run_of
run_begins b bs e = ap (λ t. cond t (b ∷ run_of continues_symbol bs) []) e

word_is_symbol : (text : List ℕ) → lead_of text ≡ Lead.Word → is_symbol (run_of continues_symbol text) ≡ true
word_is_symbol [] e = absurd (cc)
word_is_symbol (b ∷ bs) e =
    ap is_symbol (run_begins b bs (word_continues b bs e))
    ∙ and_from (begins_symbol b) (list_all continues_symbol (run_of continues_symbol bs)) (word_begins b bs e) (run_continues bs)

-- ---- integers

-- tokens stand in a text as this one does
abbrev IsText : Token → Type 0
IsText t = (p : Pos) → IsTextToken (placed_at p t)

none_is_some : {P : Type 0} (t : Token) → None ≡ Some t → P
none_is_some t e = absurd (cc)

same_is_text : (t u : Token) → Some t ≡ Some u → IsText t → IsText u
same_is_text t u e h = let same : t ≡ u = cc in subst IsText same h

from_large : (n : ℕ) (b : Bool) (t : Token) → 2 ^ 127 ≤ n → nat_lt n (2 ^ 128) ≡ b → cond b (Some (Big n)) None ≡ Some t → IsText t
from_large n true t h eb e = same_is_text (Big n) t e (λ p. (h, ltb-true n (2 ^ 128) eb))
from_large n false t h eb e = none_is_some t e

from_small : (n : ℕ) (a : Bool) (t : Token) → nat_lt n (2 ^ 127) ≡ a
    → cond a (Some (Int (pos n))) (cond (nat_lt n (2 ^ 128)) (Some (Big n)) None) ≡ Some t → IsText t
from_small n true t ea e = same_is_text (Int (pos n)) t e (λ p. ea)
from_small n false t ea e = from_large n (nat_lt n (2 ^ 128)) t (ltb-false n (2 ^ 127) ea) refl e

negative_fits : (n : ℕ) → n ≤ 2 ^ 127 → fits_i128 (neg_ℤ (pos n)) ≡ true
negative_fits zero h = refl
negative_fits (suc n) h = rw (le-leb n (2 ^ 127 - 1) (omega (arith, h))) refl

from_negative : (n : ℕ) (a : Bool) (t : Token) → nat_le n (2 ^ 127) ≡ a → cond a (Some (Int (neg_ℤ (pos n)))) None ≡ Some t → IsText t
from_negative n true t ea e = same_is_text (Int (neg_ℤ (pos n))) t e (λ p. negative_fits n (leb-true n (2 ^ 127) ea))
from_negative n false t ea e = none_is_some t e

integer_is_text : (negative : Bool) (n : ℕ) (t : Token) → integer_token negative n ≡ Some t → IsText t
integer_is_text true n t e = from_negative n (nat_le n (2 ^ 127)) t refl e
integer_is_text false n t e = from_small n (nat_lt n (2 ^ 127)) t refl e

digits_are_text : (negative : Bool) (radix : ℕ) (digits : List ℕ) (some : Bool) (t : Token)
    → cond some (integer_token negative (spelt radix digits)) None ≡ Some t → IsText t
digits_are_text negative radix digits true t e = integer_is_text negative (spelt radix digits) t e
digits_are_text negative radix digits false t e = none_is_some t e

token_is_text : {text : List ℕ} {t : Token} {more : List ℕ} → IsToken text t more → IsText t
token_is_text (opening e) = λ p. tt
token_is_text (closing e) = λ p. tt
token_is_text (at_sign e) = λ p. tt
token_is_text (integer {text = text} {token = t} e f) =
    digits_are_text (is_negative text) (radix_of (unsigned_of text)) (digits_of text) (has_digit (digits_of text)) t f
token_is_text (word {text = text} e) = λ p. word_is_symbol text e

pub tokens_are_text : {source : Source} {text : List ℕ} {left : List Placed} {end : ℕ} {clean : Bool} → TokensOf source text left end clean
    → AreTextTokens left
tokens_are_text (ended gap) = tt
tokens_are_text (stopped gap some none) = tt
tokens_are_text (token gap is more) = (token_is_text is _, tokens_are_text more)
