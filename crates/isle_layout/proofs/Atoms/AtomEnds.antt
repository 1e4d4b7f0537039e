-- The token of an atom stays the longest one where what follows it ends it.
use Rattle.std.proofs.Common.{◌≡◌, ℕ, ◌≤◌, List, [], ◌∷◌, ◌++◌, Bool, true, false, cond, refl, sym, ap, subst, ◌∙◌, arith, eqb-true}
use Rattle.std.proofs.lemmas.Bool.{false≢true}
use Rattle.std.specs.Prelude.{◌==◌, ◌||◌}
use Rattle.std.proofs.lemmas.Bool.Decides.{nat_tests}
use Rattle.isle_syntax.specs.declared.gap.Lead.{Lead}
use Rattle.isle_syntax.specs.declared.lexer.Token.{Token}
use Rattle.isle_syntax.specs.declared.lexer.Token.TheVariants.{Symbol}
use Rattle.isle_syntax.specs.Tokens.Gaps.{lead_of, lead_of_token, begins_semicolon, after_first, run_of, after_run}
use Rattle.isle_syntax.specs.Tokens.Names.{is_space}
use Rattle.isle_syntax.specs.Tokens.Integers.{unsigned_of, radix_named, radix_of, behind_prefix, continues_digits, digits_of, after_integer}
use Rattle.isle_syntax.specs.Tokens.Integers.{digits_token, integer_of}
use Rattle.isle_syntax.specs.Tokens.TokensOf.{continues_symbol, IsToken, opening, closing, at_sign, integer, word}
use Rattle.isle_layout.specs.Inside.SExprTokens.{ends_atom}

-- ---- the bytes that end an atom

by_tests : (P : ℕ → Type 0) → P 10 → P 32 → P 41 → (b : ℕ) (newline space parenthesis : Bool) → b == 10 ≡ newline → b == 32 ≡ space
    → b == 41 ≡ parenthesis → newline || space || parenthesis ≡ true → P b
by_tests P n s p b true space parenthesis e f g h = subst P (sym (eqb-true b 10 e)) n
by_tests P n s p b false true parenthesis e f g h = subst P (sym (eqb-true b 32 f)) s
by_tests P n s p b false false true e f g h = subst P (sym (eqb-true b 41 g)) p
by_tests P n s p b false false false e f g h = absurd (false≢true h)

-- what holds of a newline, a space and `)` holds of a byte that ends an atom
by_end : (P : ℕ → Type 0) → P 10 → P 32 → P 41 → (b : ℕ) (bs : List ℕ) → ends_atom (b ∷ bs) ≡ true → P b
by_end P n s p b bs h = by_tests P n s p b _ _ _ refl refl refl h

-- none of them begins a comment
pub no_comment : (rest : List ℕ) → ends_atom rest ≡ true → begins_semicolon rest ≡ false
no_comment [] h = refl
no_comment (b ∷ bs) h = by_end (λ c. c == 59 ≡ false) refl refl refl b bs h

-- ---- what a text begins with

lead_alone : (b : ℕ) (rest : List ℕ) → ends_atom rest ≡ true → lead_of (b ∷ rest) ≡ lead_of (b ∷ [])
lead_alone b rest h =
    ap (λ t. cond (is_space b) Lead.Space (cond (b == 59) Lead.Line (cond (b == 40) (cond t Lead.Comment Lead.Opening) (lead_of_token b))))
    (no_comment rest h)

lead_followed : (b : ℕ) (bs rest : List ℕ) → ends_atom rest ≡ true → lead_of (b ∷ (bs ++ rest)) ≡ lead_of (b ∷ bs)
lead_followed b [] rest h = lead_alone b rest h
lead_followed b (c ∷ cs) rest h = refl

-- `(` is a token where what follows it doesn't begin with `;`
pub opens : (rest : List ℕ) → begins_semicolon rest ≡ false → lead_of (40 ∷ rest) ≡ Lead.Opening
opens rest h = ap (λ t. cond t Lead.Comment Lead.Opening) h

-- ---- runs

-- no byte of this kind begins a text
record Stops (p : ℕ → Bool) (rest : List ℕ) : Type 0 where
  none : run_of p rest ≡ []
  all : after_run p rest ≡ rest

stops : (p : ℕ → Bool) (rest : List ℕ) → p 10 ≡ false → p 32 ≡ false → p 41 ≡ false → ends_atom rest ≡ true → Stops p rest
unfolding run_of after_run
stops p [] n s c h = record { none = refl; all = refl }
stops p (b ∷ bs) n s c h =
    let no : p b ≡ false = by_end (λ d. p d ≡ false) n s c b bs h in
    record { none = ap (λ t. cond t (b ∷ run_of p bs) []) no; all = ap (λ t. cond t (after_run p bs) (b ∷ bs)) no }

cond_append : (t : Bool) (xs ys zs : List ℕ) → cond t (xs ++ zs) (ys ++ zs) ≡ cond t xs ys ++ zs
cond_append true xs ys zs = refl
cond_append false xs ys zs = refl

run_followed : (p : ℕ → Bool) (bs rest : List ℕ) → Stops p rest → run_of p (bs ++ rest) ≡ run_of p bs
unfolding run_of
run_followed p [] rest s = s.none
run_followed p (b ∷ bs) rest s = ap (λ run. cond (p b) (b ∷ run) []) (run_followed p bs rest s)

after_run_followed : (p : ℕ → Bool) (bs rest : List ℕ) → Stops p rest → after_run p (bs ++ rest) ≡ after_run p bs ++ rest
unfolding after_run
after_run_followed p [] rest s = s.all
after_run_followed p (b ∷ bs) rest s =
    ap (λ after. cond (p b) after (b ∷ (bs ++ rest))) (after_run_followed p bs rest s) ∙ cond_append (p b) (after_run p bs) (b ∷ bs) rest

-- ---- integers

unsigned_followed : (b : ℕ) (bs rest : List ℕ) → unsigned_of ((b ∷ bs) ++ rest) ≡ unsigned_of (b ∷ bs) ++ rest
unsigned_followed b bs rest = cond_append (b == 45) bs (b ∷ bs) rest

-- a byte that ends an atom names no radix, and is no `0`
radix_alone : (rest : List ℕ) → ends_atom rest ≡ true → radix_of rest ≡ 10
radix_alone [] h = refl
radix_alone (b ∷ []) h = refl
radix_alone (b ∷ c ∷ bs) h = by_end (λ d. cond (d == 48) (radix_named c) 10 ≡ 10) refl refl refl b (c ∷ bs) h

ten : (zero : Bool) (radix : ℕ) → radix ≡ 10 → cond zero radix 10 ≡ 10
ten true radix e = e
ten false radix e = refl

radix_of_one : (b : ℕ) (rest : List ℕ) → ends_atom rest ≡ true → radix_of (b ∷ rest) ≡ 10
radix_of_one b [] h = refl
radix_of_one b (c ∷ bs) h = ten (b == 48) (radix_named c) (by_end (λ d. radix_named d ≡ 10) refl refl refl c bs h)

radix_followed : (text rest : List ℕ) → ends_atom rest ≡ true → radix_of (text ++ rest) ≡ radix_of text
radix_followed [] rest h = radix_alone rest h
radix_followed (b ∷ []) rest h = radix_of_one b rest h
radix_followed (b ∷ c ∷ bs) rest h = refl

prefix_followed : (text rest : List ℕ) → ends_atom rest ≡ true → behind_prefix (text ++ rest) ≡ behind_prefix text ++ rest
prefix_followed [] rest h = ap (λ radix. cond (radix == 10) rest (after_first (after_first rest))) (radix_alone rest h)
prefix_followed (b ∷ []) rest h = ap (λ radix. cond (radix == 10) (b ∷ rest) (after_first rest)) (radix_of_one b rest h)
prefix_followed (b ∷ c ∷ bs) rest h = cond_append (radix_of (b ∷ c ∷ bs) == 10) (b ∷ c ∷ bs) bs rest

few_radix : (text : List ℕ) → radix_of text ≤ 36
few_radix [] = omega arith
few_radix (b ∷ []) = omega arith
few_radix (b ∷ c ∷ bs) = grind (arith, nat_tests)

-- nor is one a digit of any radix
past_radix : (radix : ℕ) → radix ≤ 36 → continues_digits radix 10 ≡ false
past_radix radix few = grind (arith, nat_tests)

digits_stop : (text rest : List ℕ) → ends_atom rest ≡ true → Stops (continues_digits (radix_of text)) rest
digits_stop text rest h =
    let few = few_radix text in
    let past : continues_digits (radix_of text) 10 ≡ false = past_radix (radix_of text) few in
    stops (continues_digits (radix_of text)) rest past past past h

digits_followed : (b : ℕ) (bs rest : List ℕ) → ends_atom rest ≡ true → digits_of ((b ∷ bs) ++ rest) ≡ digits_of (b ∷ bs)
digits_followed b bs rest h =
    let u = unsigned_of (b ∷ bs) in
    let radix = radix_followed u rest h in
    let behind = prefix_followed u rest h in
    ap (λ v. run_of (continues_digits (radix_of v)) (behind_prefix v)) (unsigned_followed b bs rest)
    ∙ (λ i. run_of (continues_digits (radix i)) (behind i))
    ∙ run_followed (continues_digits (radix_of u)) (behind_prefix u) rest (digits_stop u rest h)

after_integer_followed : (b : ℕ) (bs rest : List ℕ) → ends_atom rest ≡ true → after_integer ((b ∷ bs) ++ rest) ≡ after_integer (b ∷ bs) ++ rest
after_integer_followed b bs rest h =
    let u = unsigned_of (b ∷ bs) in
    let radix = radix_followed u rest h in
    let behind = prefix_followed u rest h in
    ap (λ v. after_run (continues_digits (radix_of v)) (behind_prefix v)) (unsigned_followed b bs rest)
    ∙ (λ i. after_run (continues_digits (radix i)) (behind i))
    ∙ after_run_followed (continues_digits (radix_of u)) (behind_prefix u) rest (digits_stop u rest h)

integer_followed : (b : ℕ) (bs rest : List ℕ) → ends_atom rest ≡ true → integer_of ((b ∷ bs) ++ rest) ≡ integer_of (b ∷ bs)
integer_followed b bs rest h =
    let radix = ap radix_of (unsigned_followed b bs rest) ∙ radix_followed (unsigned_of (b ∷ bs)) rest h in
    let digits = digits_followed b bs rest h in
    (λ i. digits_token (b == 45) (radix i) (digits i))

-- ---- tokens

symbol_stops : (rest : List ℕ) → ends_atom rest ≡ true → Stops continues_symbol rest
symbol_stops rest h = stops continues_symbol rest refl refl refl h

no_lead : (k : Lead) → ¬ (k ≡ Lead.End) → ¬ (lead_of [] ≡ k)
no_lead k other e = other (sym e)

-- the token at the front of a text is still there where a text that ends an atom follows
pub token_followed : {text more : List ℕ} {token : Token} (rest : List ℕ) → ends_atom rest ≡ true → IsToken text token more
    → IsToken (text ++ rest) token (more ++ rest)
token_followed rest h (opening {text = []} e) = absurd (no_lead Lead.Opening (λ k. cc k) e)
token_followed rest h (opening {text = b ∷ bs} e) = opening (lead_followed b bs rest h ∙ e)
token_followed rest h (closing {text = []} e) = absurd (no_lead Lead.Closing (λ k. cc k) e)
token_followed rest h (closing {text = b ∷ bs} e) = closing (lead_followed b bs rest h ∙ e)
token_followed rest h (at_sign {text = []} e) = absurd (no_lead Lead.AtSign (λ k. cc k) e)
token_followed rest h (at_sign {text = b ∷ bs} e) = at_sign (lead_followed b bs rest h ∙ e)
token_followed rest h (integer {text = []} e i) = absurd (no_lead Lead.Number (λ k. cc k) e)
token_followed rest h (integer {text = b ∷ bs} {token = token} e i) =
    subst (IsToken ((b ∷ bs) ++ rest) token) (after_integer_followed b bs rest h)
    (integer (lead_followed b bs rest h ∙ e) (integer_followed b bs rest h ∙ i))
token_followed rest h (word {text = []} e) = absurd (no_lead Lead.Word (λ k. cc k) e)
token_followed rest h (word {text = b ∷ bs} e) =
    let s = symbol_stops rest h in
    let run = run_followed continues_symbol (b ∷ bs) rest s in
    let after = after_run_followed continues_symbol (b ∷ bs) rest s in
    subst (λ (q : List ℕ). IsToken ((b ∷ bs) ++ rest) (Symbol (run_of continues_symbol (b ∷ bs))) q) after
    (subst (λ (q : List ℕ). IsToken ((b ∷ bs) ++ rest) (Symbol q) (after_run continues_symbol ((b ∷ bs) ++ rest))) run
    (word (lead_followed b bs rest h ∙ e)))

-- a text of one token is a token before each such text
pub atom_followed : (text : List ℕ) (token : Token) (rest : List ℕ) → IsToken text token [] → ends_atom rest ≡ true
    → IsToken (text ++ rest) token rest
atom_followed text token rest t h = token_followed rest h t
