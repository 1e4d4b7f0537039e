-- The tokens that are found are the tokens of the text, and its only ones.
use Rattle.std.proofs.Common.{◌≡◌, ℕ, zero, suc, ◌-◌, ◌<◌, ◌≤◌, List, [], ◌∷◌, length, Option, Some, None, Bool, true, false, cond, refl, sym, ap}
use Rattle.std.proofs.Common.{subst, ◌∙◌, length-append, arith}
use Rattle.std.specs.Prelude.{◌==◌}
use Rattle.std.proofs.lemmas.Bool.Decides.{nat_tests}
use Rattle.isle_syntax.specs.declared.gap.Lead.{Lead}
use Rattle.isle_syntax.specs.declared.lexer.Token.{Token}
use Rattle.isle_syntax.specs.Tokens.PlacedTokens.{Placed}
use Rattle.isle_syntax.specs.Tokens.RemainingTokens.{Source}
use Rattle.isle_syntax.specs.Tokens.Gaps.{lead_of, after_first, after_run, run_of, IsGap, none}
use Rattle.isle_syntax.specs.Tokens.Integers.{is_negative, unsigned_of, radix_of, behind_prefix, continues_digits, digits_of, has_digit}
use Rattle.isle_syntax.specs.Tokens.Integers.{integer_token, spelt, integer_of, after_integer}
use Rattle.isle_syntax.specs.Tokens.TokensOf.{continues_symbol, IsToken, opening, closing, at_sign, integer, word, pos_of_rest, TokensOf, ended}
use Rattle.isle_syntax.specs.Tokens.TokensOf.{stopped, token}
use Rattle.isle_syntax.specs.Tokens.Finding.{gap_of, Next, nothing, fault, found, next_integer, next_by, next_of, Reading, reading_before, reading_by}
use Rattle.isle_syntax.specs.Tokens.Finding.{read, reading}
use Rattle.isle_syntax.proofs.Tokens.Runs.{run_whole, after_run-le, after_run-step}
use Rattle.isle_syntax.proofs.Tokens.Gaps.{some_left, after_first-le, gap_found, gap_same, gap-le, no_gap_behind}

-- ---- the token at the front

moved : {text : List ℕ} {t u : Token} {q r : List ℕ} → IsToken text t q → t ≡ u → q ≡ r → IsToken text u r
moved {text} {t} {u} {q} {r} h e f = subst (λ v. IsToken text v r) e (subst (λ s. IsToken text t s) f h)

integer_found : (text : List ℕ) (o : Option Token) (t : Token) (q : List ℕ) → lead_of text ≡ Lead.Number → integer_of text ≡ o
    → next_integer o (after_integer text) ≡ found t q → IsToken text t q
integer_found text None t q e f h = absurd (cc)
integer_found text (Some u) t q e f h = moved (integer e f) (cc) (cc)

found_by : (text : List ℕ) (k : Lead) (t : Token) (q : List ℕ) → lead_of text ≡ k → next_by k text ≡ found t q → IsToken text t q
found_by text Lead.End t q e h = absurd (cc)
found_by text Lead.Space t q e h = absurd (cc)
found_by text Lead.Line t q e h = absurd (cc)
found_by text Lead.Comment t q e h = absurd (cc)
found_by text Lead.Opening t q e h = moved (opening e) (cc) (cc)
found_by text Lead.Closing t q e h = moved (closing e) (cc) (cc)
found_by text Lead.AtSign t q e h = moved (at_sign e) (cc) (cc)
found_by text Lead.Number t q e h = integer_found text (integer_of text) t q e refl h
found_by text Lead.Word t q e h = moved (word e) (cc) (cc)

pub next_found : (text : List ℕ) (t : Token) (q : List ℕ) → next_of text ≡ found t q → IsToken text t q
next_found text t q h = found_by text (lead_of text) t q refl h

pub next_complete : {text : List ℕ} {t : Token} {q : List ℕ} → IsToken text t q → next_of text ≡ found t q
next_complete (opening {text = text} e) = ap (λ k. next_by k text) e
next_complete (closing {text = text} e) = ap (λ k. next_by k text) e
next_complete (at_sign {text = text} e) = ap (λ k. next_by k text) e
next_complete (integer {text = text} e f) = ap (λ k. next_by k text) e ∙ ap (λ o. next_integer o (after_integer text)) f
next_complete (word {text = text} e) = ap (λ k. next_by k text) e

-- ---- it shortens the text

first_shorter : (text : List ℕ) (k : Lead) → lead_of text ≡ k → ¬ (k ≡ Lead.End) → length (after_first text) < length text
first_shorter text k e h = some_left text k (sym e) h

word_continues : (b : ℕ) (bs : List ℕ) → lead_of (b ∷ bs) ≡ Lead.Word → continues_symbol b ≡ true
word_continues b bs e = grind (arith, nat_tests)

word_shorter : (text : List ℕ) → lead_of text ≡ Lead.Word → length (after_run continues_symbol text) < length text
word_shorter [] e = absurd (cc)
word_shorter (b ∷ bs) e = let step = after_run-step continues_symbol b bs (word_continues b bs e) in
    omega (arith, ap length step, after_run-le continues_symbol bs)

unsigned-le : (text : List ℕ) (t : Bool) → length (cond t (after_first text) text) ≤ length text
unsigned-le text true = after_first-le text
unsigned-le text false = omega arith

prefix-le : (text : List ℕ) (t : Bool) → length (cond t text (after_first (after_first text))) ≤ length text
prefix-le text true = omega arith
prefix-le text false = omega (arith, after_first-le text, after_first-le (after_first text))

some_digit : (digits : List ℕ) → has_digit digits ≡ true → 0 < length digits
some_digit [] e = absurd (cc)
some_digit (b ∷ bs) e = omega arith

digit_there : (negative : Bool) (radix : ℕ) (digits : List ℕ) (t : Token) (some : Bool) → has_digit digits ≡ some
    → cond some (integer_token negative (spelt radix digits)) None ≡ Some t → has_digit digits ≡ true
digit_there negative radix digits t true e h = e
digit_there negative radix digits t false e h = absurd (cc)

integer_shorter : (text : List ℕ) (t : Token) → integer_of text ≡ Some t → length (after_integer text) < length text
integer_shorter text t h =
    let u = unsigned_of text in
    let digits = behind_prefix u in
    let p = continues_digits (radix_of u) in
    let some = some_digit (run_of p digits) (digit_there (is_negative text) (radix_of u) (digits_of text) t _ refl h) in
    omega (
      arith,
      some,
      ap length (run_whole p digits),
      length-append (run_of p digits) (after_run p digits),
      prefix-le u (radix_of u == 10),
      unsigned-le text (is_negative text),
    )

pub token_shorter : {text : List ℕ} {t : Token} {q : List ℕ} → IsToken text t q → length q < length text
token_shorter (opening {text = text} e) = first_shorter text Lead.Opening e (λ k. cc k)
token_shorter (closing {text = text} e) = first_shorter text Lead.Closing e (λ k. cc k)
token_shorter (at_sign {text = text} e) = first_shorter text Lead.AtSign e (λ k. cc k)
token_shorter (integer {text = text} {token = t} e f) = integer_shorter text t f
token_shorter (word {text = text} e) = word_shorter text e

-- ---- where no token begins

nothing_by : (text : List ℕ) (k : Lead) → lead_of text ≡ k → next_by k text ≡ nothing → Lead.End ≡ lead_of text
nothing_by text Lead.End e h = sym e
nothing_by text Lead.Space e h = absurd (cc)
nothing_by text Lead.Line e h = absurd (cc)
nothing_by text Lead.Comment e h = absurd (cc)
nothing_by text Lead.Opening e h = absurd (cc)
nothing_by text Lead.Closing e h = absurd (cc)
nothing_by text Lead.AtSign e h = absurd (cc)
nothing_by text Lead.Number e h = not_nothing (integer_of text) h
  where
    not_nothing : (o : Option Token) → next_integer o (after_integer text) ≡ nothing → Lead.End ≡ lead_of text
    not_nothing None g = absurd (cc)
    not_nothing (Some t) g = absurd (cc)
nothing_by text Lead.Word e h = absurd (cc)

not_end : (b : ℕ) (bs : List ℕ) → ¬ (Lead.End ≡ lead_of (b ∷ bs))
not_end b bs e = grind (arith, nat_tests)

end_of_text : (text : List ℕ) → Lead.End ≡ lead_of text → text ≡ []
end_of_text [] e = refl
end_of_text (b ∷ bs) e = absurd (not_end b bs e)

pub nothing_left : (text : List ℕ) → next_of text ≡ nothing → text ≡ []
nothing_left text h = end_of_text text (nothing_by text (lead_of text) refl h)

some_text : (text : List ℕ) → next_of text ≡ fault → 0 < length text
some_text [] h = absurd (cc)
some_text (b ∷ bs) h = omega arith

no_token : (text : List ℕ) → next_of text ≡ fault → (t : Token) (more : List ℕ) → ¬ (IsToken text t more)
no_token text h t more i = let k = next_complete i in cc

-- ---- all tokens

abbrev IsReading : Source → List ℕ → Reading → Type 0
IsReading source text r = TokensOf source text r.left r.end r.clean

reading_found : (source : Source) (text rest : List ℕ) (more : List ℕ → Reading) (next : Next) → IsGap text rest → next_of rest ≡ next
    → ((q : List ℕ) → length q < length text → IsReading source q (more q)) → IsReading source text (reading_by source more rest next)
reading_found source text rest more nothing g e ih =
    let nil = nothing_left rest e in
    let at : source.size ≡ source.size - 0 = omega arith in
    subst (λ r. TokensOf source text [] (source.size - length r) true) (sym nil)
    (subst (λ n. TokensOf source text [] n true) at (ended (subst (IsGap text) nil g)))
reading_found source text rest more fault g e ih = stopped g (some_text rest e) (no_token rest e)
reading_found source text rest more (found t q) g e ih =
    let i = next_found rest t q e in
    token g i (ih q (omega (arith, token_shorter i, gap-le g)))

pub read_sound : (n : ℕ) (source : Source) (text : List ℕ) → length text < n → IsReading source text (read n source text)
unfolding read
read_sound zero source text h = absurd (omega arith)
read_sound (suc n) source text h = reading_found source text (gap_of text) (read n source) (next_of (gap_of text)) (gap_found text) refl
    (λ q f. read_sound n source q (omega arith))

-- the tokens that are found are those of the text
pub reading_sound : (source : Source) (text : List ℕ) → IsReading source text (reading source text)
reading_sound source text = read_sound (suc (length text)) source text (omega arith)

stops : (source : Source) (rest : List ℕ) (more : List ℕ → Reading) (next : Next) → next_of rest ≡ next → 0 < length rest
    → ((t : Token) (q : List ℕ) → ¬ (IsToken rest t q))
    → reading_by source more rest next ≡ record { left = []; end = source.size - length rest; clean = false }
stops source rest more nothing e some never = let nil = nothing_left rest e in absurd (omega (arith, ap length nil))
stops source rest more fault e some never = refl
stops source rest more (found t q) e some never = absurd (never t q (next_found rest t q e))

read_step : (n : ℕ) (source : Source) {text rest : List ℕ} → IsGap text rest
    → read (suc n) source text ≡ reading_by source (read n source) rest (next_of rest)
unfolding read
read_step n source g = ap (λ r. reading_by source (read n source) r (next_of r)) (gap_same g)

abbrev read_to_end : ℕ → Reading
read_to_end end = record { left = []; end = end; clean = true }

pub read_complete : (n : ℕ) (source : Source) {text : List ℕ} {left : List Placed} {end : ℕ} {clean : Bool} → TokensOf source text left end clean
    → length text < n
    → read n source text ≡ record { left = left; end = end; clean = clean }
read_complete zero source i h = absurd (omega arith)
read_complete (suc n) source (ended g) h = let at : source.size - 0 ≡ source.size = omega arith in read_step n source g ∙ ap read_to_end at
read_complete (suc n) source (stopped {rest = rest} g some never) h =
    read_step n source g ∙ stops source rest (read n source) (next_of rest) refl some never
read_complete (suc n) source (token {rest = rest} {more = more} {t = t} g i left) h =
    read_step n source g ∙ ap (reading_by source (read n source) rest) (next_complete i)
    ∙ ap (reading_before (pos_of_rest source rest) t) (read_complete n source left (omega (arith, token_shorter i, gap-le g)))

-- a text has one list of tokens
pub tokens_same : (source : Source) {text : List ℕ} {left : List Placed} {end : ℕ} {clean : Bool} → TokensOf source text left end clean
    → reading source text ≡ record { left = left; end = end; clean = clean }
tokens_same source {text} i = read_complete (suc (length text)) source i (omega arith)

read_enough : (n : ℕ) (source : Source) (text : List ℕ) → length text < n → read n source text ≡ reading source text
read_enough n source text h = read_complete n source (reading_sound source text) h

step_enough : (source : Source) (text rest : List ℕ) (next : Next) → next_of rest ≡ next → length rest ≤ length text
    → reading_by source (read (length text) source) rest next ≡ reading_by source (reading source) rest next
step_enough source text rest nothing e h = refl
step_enough source text rest fault e h = refl
step_enough source text rest (found t q) e h =
    ap (reading_before (pos_of_rest source rest) t) (read_enough (length text) source q (omega (arith, token_shorter (next_found rest t q e))))

-- the tokens of a text, by the first one
pub reading_step : (source : Source) (text : List ℕ) → reading source text ≡ reading_by source (reading source) (gap_of text) (next_of (gap_of text))
reading_step source text =
    read_step (length text) source (gap_found text)
    ∙ step_enough source text (gap_of text) (next_of (gap_of text)) refl (gap-le (gap_found text))

-- behind a gap are the same tokens
pub reading_behind : (source : Source) (text : List ℕ) → reading source (gap_of text) ≡ reading source text
reading_behind source text =
    let same : gap_of (gap_of text) ≡ gap_of text = gap_same (none (no_gap_behind (gap_found text))) in
    reading_step source (gap_of text) ∙ ap (λ r. reading_by source (reading source) r (next_of r)) same ∙ sym (reading_step source text)
