-- What stands next in a text.
use Rattle.std.specs.Prelude.{◌≡◌, ◌≤◌, ℕ, List, [], length, true, false}
use Rattle.isle_syntax.specs.Tokens.RemainingTokens.{Source, LexerState, ready, starved, failed, RemainingTokens, next_pos}
use Rattle.isle_syntax.specs.Tokens.LexerCalls.{BeginsWithSymbol, TokensAscend}
use Rattle.isle_syntax.specs.Tokens.Finding.{Reading, reading, reading_before}
use Rattle.isle_syntax.specs.declared.lexer.Lookahead.{Lookahead}
use Rattle.isle_syntax.specs.declared.lexer.Lookahead.TheVariants.{Token, End, Fault, Memory, Failed}

-- how a lexer goes on, by what stands next
abbrev pub state_of : Lookahead → LexerState
state_of (Token token) = ready
state_of End = ready
state_of (Fault reason) = ready
state_of (Memory e) = starved
state_of Failed = failed

-- the tokens still to come, of what stands next, where it begins, and what is behind it
abbrev pub reading_of : Source → Lookahead → ℕ → List ℕ → Reading
reading_of source (Token token) start rest = reading_before token.0 token.1 (reading source rest)
reading_of source End start rest = record { left = []; end = start; clean = true }
reading_of source (Fault reason) start rest = record { left = []; end = start; clean = false }
reading_of source (Memory e) start rest = reading source rest
reading_of source Failed start rest = record { left = []; end = start; clean = false }

-- what a lexer hasn't given yet, of the same
abbrev pub remaining_of : Source → Lookahead → ℕ → List ℕ → RemainingTokens
remaining_of source lookahead start rest = let r = reading_of source lookahead start rest in
    record { left = r.left; end = r.end; clean = r.clean; state = state_of lookahead; source = source }

-- the next token, or else the end, begins where the lexer stands; it is a symbol where there was no memory for it;
-- what is behind it is no longer than the text, so that its tokens stand one behind the other
pub record IsAhead (source : Source) (lookahead : Lookahead) (start : ℕ) (rest : List ℕ) : Type 0 where
  pub within : start ≤ source.size
  pub remaining : length rest ≤ source.size
  pub begins : next_pos source (reading_of source lookahead start rest).end (reading_of source lookahead start rest).left
      ≡ record { file = source.file; offset = start }
  pub starved_before : state_of lookahead ≡ starved → BeginsWithSymbol (reading_of source lookahead start rest).left
  pub ascending : TokensAscend (reading_of source lookahead start rest).left
