-- The symbols of a text in UTF-8 are in UTF-8.
use Rattle.std.proofs.Common.{◌≡◌, ℕ, ◌-◌, ◌<◌, List, [], ◌∷◌, length, Bool, true, false, cond, Option, Some, None, sym, subst, arith}
use Rattle.std.proofs.Common.{drop}
use Rattle.std.specs.Prelude.{◌^◌, nat_le, nat_lt}
use Rattle.std.specs.Str.{IsUtf8}
use Rattle.std.proofs.lemmas.Bool.Decides.{nat_tests}
use Rattle.std.proofs.lemmas.Str.{IsUtf8-take, IsCharBoundary-from_drop}
use Rattle.isle_ast.specs.declared.pos.Pos.{Pos}
use Rattle.isle_syntax.specs.declared.gap.Lead.{Lead}
use Rattle.isle_syntax.specs.declared.lexer.Token.{Token}
use Rattle.isle_syntax.specs.declared.lexer.Token.TheVariants.{LParen, RParen, Symbol, Int, Big, At}
use Rattle.isle_syntax.specs.Tokens.Gaps.{after_run, run_of}
use Rattle.isle_syntax.specs.Tokens.Integers.{integer_token, digits_token, integer_of, has_digit, spelt, is_negative, radix_of, unsigned_of, digits_of}
use Rattle.isle_syntax.specs.Tokens.PlacedTokens.{Placed, opening, closing, at_sign, symbol, int, placed_at, IsInt}
use Rattle.isle_syntax.specs.Tokens.RemainingTokens.{Source}
use Rattle.isle_syntax.specs.Tokens.TokensOf as tokens
use Rattle.isle_syntax.specs.Tokens.TokensOf.{continues_symbol, IsToken, TokensOf}
use Rattle.isle_syntax.proofs.Tokens.Cuts.{after_first-utf8, stopped-utf8}
use Rattle.isle_syntax.proofs.Tokens.GapCuts.{cut_self, cut_gap, lead_ascii}
use Rattle.isle_syntax.proofs.Tokens.IntegerCuts.{cut_integer}
use Rattle.isle_syntax.proofs.Tokens.Runs.{run_taken, run_dropped}

-- a token that is a symbol is in UTF-8
abbrev pub IsUtf8Token : Placed → Type 0
IsUtf8Token (opening p) = Unit {0}
IsUtf8Token (closing p) = Unit {0}
IsUtf8Token (at_sign p) = Unit {0}
IsUtf8Token (symbol p s) = IsUtf8 s
IsUtf8Token (int p n) = Unit {0}

-- so is each of these tokens
abbrev pub AreUtf8Tokens : List Placed → Type 0
AreUtf8Tokens [] = Unit {0}
AreUtf8Tokens (t ∷ ts) = IsUtf8Token t × AreUtf8Tokens ts

-- ---- integers are no symbols

-- a token that is there is an integer
abbrev IsIntIfThere : Option Token → Type 0
IsIntIfThere None = Unit {0}
IsIntIfThere (Some t) = IsInt t

-- what is true of both is true of the one that is chosen
of_either : (b : Bool) (one other : Option Token) → IsIntIfThere one → IsIntIfThere other → IsIntIfThere (cond b one other)
of_either true one other p q = p
of_either false one other p q = q

signed_is_int : (negative : Bool) (n : ℕ) → IsIntIfThere (integer_token negative n)
signed_is_int true n = of_either (nat_le n (2 ^ 127)) _ None tt tt
signed_is_int false n =
    of_either (nat_lt n (2 ^ 127)) _ (cond (nat_lt n (2 ^ 128)) (Some (Big n)) None) tt (of_either (nat_lt n (2 ^ 128)) _ None tt tt)

digits_are_int : (negative : Bool) (radix : ℕ) (digits : List ℕ) → IsIntIfThere (digits_token negative radix digits)
digits_are_int negative radix digits = of_either (has_digit digits) _ None (signed_is_int negative (spelt radix digits)) tt

integer_is_int : (text : List ℕ) (t : Token) → integer_of text ≡ Some t → IsInt t
integer_is_int text t e = subst IsIntIfThere e (digits_are_int (is_negative text) (radix_of (unsigned_of text)) (digits_of text))

int_is_utf8 : (p : Pos) (t : Token) → IsInt t → IsUtf8Token (placed_at p t)
int_is_utf8 p LParen h = tt
int_is_utf8 p RParen h = tt
int_is_utf8 p (Symbol s) h = absurd h
int_is_utf8 p (Int n) h = tt
int_is_utf8 p (Big n) h = tt
int_is_utf8 p At h = tt

-- ---- words

stop_ascii : (b : ℕ) → continues_symbol b ≡ false → b < 128
stop_ascii b e = grind (arith, nat_tests)

word_is_utf8 : (text : List ℕ) → IsUtf8 text → IsUtf8 (run_of continues_symbol text)
word_is_utf8 text u =
    let n = length text - length (after_run continues_symbol text) in
    let behind : IsUtf8 (drop n text) = subst IsUtf8 (sym (run_dropped continues_symbol text)) (stopped-utf8 continues_symbol text stop_ascii u) in
    subst IsUtf8 (run_taken continues_symbol text) (IsUtf8-take text n u (IsCharBoundary-from_drop text n (omega arith) behind))

-- ---- tokens

-- a token at the front of a text in UTF-8, and what follows it
token_is_utf8 : {text : List ℕ} {t : Token} {more : List ℕ} → IsToken text t more → IsUtf8 text → (p : Pos)
    → IsUtf8Token (placed_at p t) × IsUtf8 more
token_is_utf8 (tokens.opening {text = text} e) u p = (tt, after_first-utf8 text u (lead_ascii text Lead.Opening e (λ k. cc k)))
token_is_utf8 (tokens.closing {text = text} e) u p = (tt, after_first-utf8 text u (lead_ascii text Lead.Closing e (λ k. cc k)))
token_is_utf8 (tokens.at_sign {text = text} e) u p = (tt, after_first-utf8 text u (lead_ascii text Lead.AtSign e (λ k. cc k)))
token_is_utf8 (tokens.integer {text = text} {token = t} e f) u p =
    (int_is_utf8 p t (integer_is_int text t f), (cut_integer text (cut_self text u)).utf8)
token_is_utf8 (tokens.word {text = text} e) u p = (word_is_utf8 text u, stopped-utf8 continues_symbol text stop_ascii u)

-- the tokens of a text in UTF-8
pub tokens_are_utf8 : {source : Source} {text : List ℕ} {left : List Placed} {end : ℕ} {clean : Bool} → TokensOf source text left end clean
    → IsUtf8 text → AreUtf8Tokens left
tokens_are_utf8 (tokens.ended gap) u = tt
tokens_are_utf8 (tokens.stopped gap some none) u = tt
tokens_are_utf8 {text = text} (tokens.token gap is more) u =
    let both = token_is_utf8 is (cut_gap gap (cut_self text u)).utf8 _ in (both.0, tokens_are_utf8 more both.1)
