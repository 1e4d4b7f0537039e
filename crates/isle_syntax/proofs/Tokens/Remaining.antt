-- What is true of every lexer.
use Rattle.std.proofs.Common.{◌≡◌, ℕ, ◌≤◌, List, ◌∷◌, Bool, refl, sym, ap, subst, ◌∙◌, arith}
use Rattle.std.specs.List.{All}
use Rattle.std.proofs.lemmas.List.Elements.{All-nil, All-cons}
use Rattle.isle_ast.specs.declared.pos.Pos.{Pos}
use Rattle.isle_syntax.specs.declared.lexer.Token.{Token}
use Rattle.isle_syntax.specs.declared.lexer.Token.TheVariants.{LParen, RParen, Symbol, Int, Big, At}
use Rattle.isle_syntax.specs.declared.lexer.Lookahead.{Lookahead}
use Rattle.isle_syntax.specs.Tokens.PlacedTokens.{Placed, pos_of, placed_at}
use Rattle.isle_syntax.specs.declared.lexer.Lookahead.TheVariants.{Token as Given, End, Fault, Memory, Failed}
use Rattle.isle_syntax.specs.Tokens.RemainingTokens.{Source, failed, next_pos, IsIn}
use Rattle.isle_syntax.specs.Tokens.LexerCalls.{IsRemaining}
use Rattle.isle_syntax.specs.Tokens.TokensOf.{pos_of_rest, TokensOf, ended, stopped, token}
use Rattle.isle_syntax.specs.Tokens.Finding.{Reading, reading}
use Rattle.isle_syntax.specs.Tokens.Lookahead.{state_of, reading_of, remaining_of, IsAhead}
use Rattle.isle_syntax.proofs.Tokens.Findings.{reading_sound, tokens_same}

pub pos_of_placed : (pos : Pos) (t : Token) → pos_of (placed_at pos t) ≡ pos
pos_of_placed pos LParen = refl
pos_of_placed pos RParen = refl
pos_of_placed pos (Symbol s) = refl
pos_of_placed pos (Int n) = refl
pos_of_placed pos (Big n) = refl
pos_of_placed pos At = refl

-- a token lies in a text
abbrev PlacedIn : Source → Placed → Type 0
PlacedIn source t = IsIn source (pos_of t)

rest_in : (source : Source) (rest : List ℕ) → IsIn source (pos_of_rest source rest)
rest_in source rest = record { same_file = refl; within = omega arith }

-- the tokens of a text lie in it
pub tokens_in : (source : Source) {text : List ℕ} {left : List Placed} {end : ℕ} {clean : Bool} → TokensOf source text left end clean
    → All (λ t. IsIn source (pos_of t)) left
tokens_in source (ended g) = All-nil (PlacedIn source)
tokens_in source (stopped g some never) = All-nil (PlacedIn source)
tokens_in source (token {rest = rest} {t = t} {left = left} g i more) =
    All-cons (PlacedIn source) (placed_at (pos_of_rest source rest) t) left
    (subst (IsIn source) (sym (pos_of_placed (pos_of_rest source rest) t)) (rest_in source rest)) (tokens_in source more)

-- and they end in it
pub end_in : (source : Source) {text : List ℕ} {left : List Placed} {end : ℕ} {clean : Bool} → TokensOf source text left end clean → end ≤ source.size
end_in source (ended g) = omega arith
end_in source (stopped g some never) = omega arith
end_in source (token g i more) = end_in source more

-- tokens lie and end in a text
abbrev ReadingIn : Source → Reading → Type 0
ReadingIn source r = All (λ t. IsIn source (pos_of t)) r.left × (r.end ≤ source.size)

reading_in : (source : Source) (text : List ℕ) → ReadingIn source (reading source text)
reading_in source text = (tokens_in source (reading_sound source text), end_in source (reading_sound source text))

-- a lexer that has looked at what stands next
pub looked_remaining : (source : Source) (lookahead : Lookahead) (start : ℕ) (rest text : List ℕ)
    → reading_of source lookahead start rest ≡ reading source text → IsAhead source lookahead start rest
    → ¬ (state_of lookahead ≡ failed) → IsRemaining (remaining_of source lookahead start rest)
looked_remaining source lookahead start rest text same ahead working =
    let within : ReadingIn source (reading_of source lookahead start rest) = subst (ReadingIn source) (sym same) (reading_in source text) in
    record {
      placed = within.0;
      ascending = ahead.ascending;
      within = within.1;
      starved_before = ahead.starved_before;
      failed_left = λ e. absurd (working e);
      failed_clean = λ e. absurd (working e);
    }

-- its tokens are those of the text
pub looked_tokens : (source : Source) (lookahead : Lookahead) (start : ℕ) (rest text : List ℕ)
    → reading_of source lookahead start rest ≡ reading source text
    → TokensOf source text (reading_of source lookahead start rest).left (reading_of source lookahead start rest).end
    (reading_of source lookahead start rest).clean
looked_tokens source lookahead start rest text same =
    subst (λ (r : Reading). TokensOf source text r.left r.end r.clean) (sym same) (reading_sound source text)

-- the tokens of a text are these alone
pub looked_only : (source : Source) (lookahead : Lookahead) (start : ℕ) (rest text : List ℕ)
    → reading_of source lookahead start rest ≡ reading source text
    → (left : List Placed) (end : ℕ) (clean : Bool) → TokensOf source text left end clean
    → (reading_of source lookahead start rest).left ≡ left × ((reading_of source lookahead start rest).end ≡ end)
    × ((reading_of source lookahead start rest).clean ≡ clean)
looked_only source lookahead start rest text same left end clean tokens =
    let all : reading_of source lookahead start rest ≡ record { left = left; end = end; clean = clean } = same ∙ tokens_same source tokens in
    (ap (λ r. r.left) all, ap (λ r. r.end) all, ap (λ r. r.clean) all)

-- ---- at any time

first_in : (source : Source) (end : ℕ) (first : Placed) (left : List Placed) (start : ℕ) → start ≤ source.size
    → next_pos source end (first ∷ left) ≡ record { file = source.file; offset = start } → All (PlacedIn source) left
    → All (PlacedIn source) (first ∷ left)
first_in source end first left start h e each =
    let here : IsIn source (record { file = source.file; offset = start }) = record { same_file = refl; within = h } in
    All-cons (PlacedIn source) first left (subst (IsIn source) (sym e) here) each

pub ahead_remaining : (source : Source) (lookahead : Lookahead) (start : ℕ) (rest : List ℕ) → IsAhead source lookahead start rest
    → IsRemaining (remaining_of source lookahead start rest)
ahead_remaining source (Given t) start rest a = record {
  placed = first_in source (reading source rest).end (placed_at t.0 t.1) (reading source rest).left start a.within a.begins
      (reading_in source rest).0;
  ascending = a.ascending;
  within = (reading_in source rest).1;
  starved_before = λ e. cc;
  failed_left = λ e. cc;
  failed_clean = λ e. cc;
}
ahead_remaining source End start rest a = record {
  placed = All-nil (PlacedIn source);
  ascending = a.ascending;
  within = a.within;
  starved_before = λ e. cc;
  failed_left = λ e. cc;
  failed_clean = λ e. cc;
}
ahead_remaining source (Fault reason) start rest a = record {
  placed = All-nil (PlacedIn source);
  ascending = a.ascending;
  within = a.within;
  starved_before = λ e. cc;
  failed_left = λ e. cc;
  failed_clean = λ e. cc;
}
ahead_remaining source (Memory m) start rest a =
    record {
      placed = (reading_in source rest).0;
      ascending = a.ascending;
      within = (reading_in source rest).1;
      starved_before = a.starved_before;
      failed_left = λ e. cc;
      failed_clean = λ e. cc;
    }
ahead_remaining source Failed start rest a = record {
  placed = All-nil (PlacedIn source);
  ascending = a.ascending;
  within = a.within;
  starved_before = λ e. cc;
  failed_left = λ e. refl;
  failed_clean = λ e. refl;
}
