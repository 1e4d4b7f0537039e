-- Texts that are one token.
use Rattle.std.proofs.Common.{◌≡◌, ℕ, List, [], ◌∷◌, ◌++◌, Bool, true, refl, sym, ap, subst, ◌∙◌, arith}
use Rattle.std.specs.List.{list_all}
use Rattle.std.proofs.lemmas.List.{append-nil}
use Rattle.std.proofs.lemmas.Bool.Decides.{nat_tests}
use Rattle.isle_syntax.specs.declared.gap.Lead.{Lead}
use Rattle.isle_syntax.specs.declared.lexer.Token.{Token}
use Rattle.isle_syntax.specs.declared.lexer.Token.TheVariants.{At, Symbol}
use Rattle.isle_syntax.specs.Tokens.Names.{begins_symbol, is_symbol}
use Rattle.isle_syntax.specs.Tokens.Gaps.{lead_of, after_run, run_of}
use Rattle.isle_syntax.specs.Tokens.TokensOf.{continues_symbol, IsToken, at_sign, word}
use Rattle.isle_syntax.proofs.Tokens.Findings.{next_complete}
use Rattle.isle_syntax.proofs.Tokens.Runs.{run_whole}
use Rattle.isle_syntax.proofs.Reading.SymbolKinds.{and_first, and_second}

-- a text begins with one token
pub one_token : {text more rest : List ℕ} {t u : Token} → IsToken text t more → IsToken text u rest → (t ≡ u) × (more ≡ rest)
one_token i j = let same = sym (next_complete i) ∙ next_complete j in (cc, cc)

-- ---- runs that don't end

pub run_all : (p : ℕ → Bool) (bs : List ℕ) → list_all p bs ≡ true → run_of p bs ≡ bs
unfolding run_of
run_all p [] e = refl
run_all p (b ∷ bs) e = rw (and_first (p b) (list_all p bs) e) (ap (λ r. b ∷ r) (run_all p bs (and_second (p b) (list_all p bs) e)))

pub after_all : (p : ℕ → Bool) (bs : List ℕ) → list_all p bs ≡ true → after_run p bs ≡ []
unfolding after_run
after_all p [] e = refl
after_all p (b ∷ bs) e = rw (and_first (p b) (list_all p bs) e) (after_all p bs (and_second (p b) (list_all p bs) e))

-- ---- symbols

begins_word : (b : ℕ) (bs : List ℕ) → begins_symbol b ≡ true → lead_of (b ∷ bs) ≡ Lead.Word
begins_word b bs e = grind (arith, nat_tests)

begins_continues : (b : ℕ) → begins_symbol b ≡ true → continues_symbol b ≡ true
begins_continues b e = grind (arith, nat_tests)

-- a symbol is one token
pub symbol_token : (s : List ℕ) → is_symbol s ≡ true → IsToken s (Symbol s) []
symbol_token [] e = absurd (cc)
symbol_token (b ∷ bs) e =
    let first = and_first (begins_symbol b) (list_all continues_symbol bs) e in
    let all : list_all continues_symbol (b ∷ bs) ≡ true =
    rw (begins_continues b first) (and_second (begins_symbol b) (list_all continues_symbol bs) e) in
    subst (λ s. IsToken (b ∷ bs) (Symbol s) []) (run_all continues_symbol (b ∷ bs) all)
    (subst (IsToken (b ∷ bs) (Symbol (run_of continues_symbol (b ∷ bs)))) (after_all continues_symbol (b ∷ bs) all) (word (begins_word b bs first)))

-- what begins as a symbol, and is one token, is that symbol
pub whole_symbol : (b : ℕ) (bs : List ℕ) {t : Token} → begins_symbol b ≡ true → IsToken (b ∷ bs) t [] → t ≡ Symbol (b ∷ bs)
whole_symbol b bs e i =
    let same = one_token i (word (begins_word b bs e)) in
    same.0 ∙ ap (λ s. Symbol s) (sym (run_whole continues_symbol (b ∷ bs) ∙ ap (λ rest. run_of continues_symbol (b ∷ bs) ++ rest) (sym same.1)
    ∙ append-nil (run_of continues_symbol (b ∷ bs))))

-- the sign `@`
pub at_sign_token : IsToken (64 ∷ []) At []
at_sign_token = at_sign refl
