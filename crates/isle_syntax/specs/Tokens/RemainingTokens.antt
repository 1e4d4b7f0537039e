-- What a lexer hasn't given yet.
use Rattle.std.specs.Prelude.{◌≡◌, ◌≤◌, ℕ, List, [], ◌∷◌, Bool, false}
use Rattle.isle_ast.specs.declared.pos.Pos.{Pos}
use Rattle.isle_syntax.specs.Tokens.PlacedTokens.{Placed, pos_of}

-- a text that is read: the number of its file, and its length in bytes
pub record Source : Type 0 where
  pub file : ℕ
  pub size : ℕ

-- a position of a text, or its end
pub record IsIn (source : Source) (pos : Pos) : Type 0 where
  pub same_file : pos.file ≡ source.file
  pub within : pos.offset ≤ source.size

-- how a lexer goes on: it reads; there was no memory for its next token, which it will report; it has refused
pub data LexerState : Type 0 where
  ready : LexerState
  starved : LexerState
  failed : LexerState

-- the tokens still to come, the offset at which they end, whether the text ends there (else no token begins there),
-- how the lexer goes on, and the text that they are of
pub record RemainingTokens : Type 0 where
  pub left : List Placed
  pub end : ℕ
  pub clean : Bool
  pub state : LexerState
  pub source : Source

-- where the first of some tokens stands, or else where they end
abbrev pub next_pos : Source → ℕ → List Placed → Pos
next_pos source end [] = record { file = source.file; offset = end }
next_pos source end (token ∷ left) = pos_of token

-- where what hasn't been given begins
abbrev pub remaining_pos : RemainingTokens → Pos
remaining_pos remaining = next_pos remaining.source remaining.end remaining.left

-- a lexer of this text that has refused, with what it hasn't read beginning here
abbrev pub failed_at : Source → ℕ → RemainingTokens
failed_at source end = record { left = []; end = end; clean = false; state = failed; source = source }
