-- White space before tokens, and a token before others.
use Rattle.std.proofs.Common.{◌≡◌, ℕ, zero, suc, List, [], ◌∷◌, ◌++◌, replicate, codes, Bool, true, false, refl, sym, subst, eqb-true, inl, inr}
use Rattle.std.proofs.lemmas.Bool.{cases_Bool}
use Rattle.std.specs.Prelude.{◌==◌}
use Rattle.isle_syntax.specs.declared.lexer.Token.{Token}
use Rattle.isle_syntax.specs.Tokens.PlacedTokens.{Placed, placed_at}
use Rattle.isle_syntax.specs.Tokens.Gaps.{lead_of, begins_semicolon, BeginsNoGap, IsGap, none, space}
use Rattle.isle_syntax.specs.Tokens.TokensOf.{IsToken, opening, closing, at_sign, integer, word, pos_of_rest, TokensOf, ended, stopped, token}
use Rattle.isle_syntax.specs.Tokens.RemainingTokens.{Source}
use Rattle.isle_layout.specs.Layout.{line}
use Rattle.isle_layout.specs.Inside.SExprTokens.{ends_atom}

-- ---- white space

before : {source : Source} {text blank : List ℕ} {left : List Placed} {end : ℕ} {clean : Bool}
    → ((rest : List ℕ) → IsGap text rest → IsGap blank rest) → TokensOf source text left end clean
    → TokensOf source blank left end clean
before gap (ended g) = ended (gap _ g)
before gap (stopped g some none_begins) = stopped (gap _ g) some none_begins
before gap (token g t more) = token (gap _ g) t more

-- the tokens behind a space, and behind a newline
pub behind_space : {source : Source} {text : List ℕ} {left : List Placed} {end : ℕ} {clean : Bool} → TokensOf source text left end clean
    → TokensOf source (32 ∷ text) left end clean
behind_space {text = text} t = before (λ rest g. space {text = 32 ∷ text} refl g) t

pub behind_newline : {source : Source} {text : List ℕ} {left : List Placed} {end : ℕ} {clean : Bool} → TokensOf source text left end clean
    → TokensOf source (10 ∷ text) left end clean
behind_newline {text = text} t = before (λ rest g. space {text = 10 ∷ text} refl g) t

behind_spaces : (n : ℕ) {source : Source} {text : List ℕ} {left : List Placed} {end : ℕ} {clean : Bool} → TokensOf source text left end clean
    → TokensOf source (replicate n 32 ++ text) left end clean
behind_spaces zero t = t
behind_spaces (suc n) t = behind_space (behind_spaces n t)

-- the tokens behind a new line with its indentation
pub behind_line : (n : ℕ) {source : Source} {text : List ℕ} {left : List Placed} {end : ℕ} {clean : Bool} → TokensOf source text left end clean
    → TokensOf source (line n ++ text) left end clean
behind_line n t = behind_newline (behind_spaces n t)

-- white space, or nothing
pub record IsBlank (blank : List ℕ) : Type 0 where
  pub skipped : (source : Source) (text : List ℕ) (left : List Placed) (end : ℕ) (clean : Bool) → TokensOf source text left end clean
      → TokensOf source (blank ++ text) left end clean
  pub ends : (text : List ℕ) → ends_atom text ≡ true → ends_atom (blank ++ text) ≡ true

-- white space that ends an atom
pub record Separates (blank : List ℕ) : Type 0 where
  pub is_blank : IsBlank blank
  pub ends : (text : List ℕ) → ends_atom (blank ++ text) ≡ true

pub nothing_blank : IsBlank []
nothing_blank = record { skipped = λ source text left end clean t. t; ends = λ text h. h }

pub space_separates : Separates (codes " ")
space_separates = record {
  is_blank = record { skipped = λ source text left end clean t. behind_space t; ends = λ text h. refl };
  ends = λ text. refl;
}

pub line_separates : (n : ℕ) → Separates (line n)
line_separates n = record {
  is_blank = record { skipped = λ source text left end clean t. behind_line n t; ends = λ text h. refl };
  ends = λ text. refl;
}

-- ---- tokens

-- no gap begins where a token does
no_gap : {text more : List ℕ} {t : Token} → IsToken text t more → BeginsNoGap (lead_of text) text
no_gap (opening {text = text} e) = subst (λ k. BeginsNoGap k text) (sym e) tt
no_gap (closing {text = text} e) = subst (λ k. BeginsNoGap k text) (sym e) tt
no_gap (at_sign {text = text} e) = subst (λ k. BeginsNoGap k text) (sym e) tt
no_gap (integer {text = text} e i) = subst (λ k. BeginsNoGap k text) (sym e) tt
no_gap (word {text = text} e) = subst (λ k. BeginsNoGap k text) (sym e) tt

-- a text that begins with a token, and the tokens behind it
pub token_first : {source : Source} {text more : List ℕ} {t : Token} {left : List Placed} {end : ℕ} {clean : Bool} → IsToken text t more
    → TokensOf source more left end clean
    → TokensOf source text (placed_at (pos_of_rest source text) t ∷ left) end clean
token_first i rest = token (none (no_gap i)) i rest

semicolon_gap : (b : ℕ) (bs : List ℕ) → b ≡ 59 → ¬ (BeginsNoGap (lead_of (b ∷ bs)) (b ∷ bs))
semicolon_gap b bs e h = subst (λ c. BeginsNoGap (lead_of (c ∷ bs)) (c ∷ bs)) e h

no_semicolon : (text : List ℕ) → BeginsNoGap (lead_of text) text → begins_semicolon text ≡ false
no_semicolon [] h = refl
no_semicolon (b ∷ bs) h = elim (cases_Bool (b == 59)) [ inl e ↦ absurd (semicolon_gap b bs (eqb-true b 59 e) h) | inr e ↦ e ]

-- a token doesn't begin with `;`
pub token_no_semicolon : {text more : List ℕ} {t : Token} → IsToken text t more → begins_semicolon text ≡ false
token_no_semicolon {text} i = no_semicolon text (no_gap i)
