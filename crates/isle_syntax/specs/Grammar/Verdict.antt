-- What a parser of a whole text promises, in the grammar's words.
use Rattle.std.specs.Prelude.{◌≡◌, ℕ, List, [], ◌∷◌, ◌++◌, Bool, true, false, Some, map, length}
use Rattle.isle_ast.specs.declared.pos.Pos.{Pos}
use Rattle.isle_ast.specs.declared.error.Span.{Span}
use Rattle.isle_ast.specs.declared.error.Error.{Error}
use Rattle.isle_ast.specs.declared.ast.Def.{Def}
use Rattle.isle_ast.specs.Errors.{IsParseOrSize, span_at}
use Rattle.isle_syntax.specs.Tokens.PlacedTokens.{Placed, opening}
use Rattle.isle_syntax.specs.Tokens.RemainingTokens.{RemainingTokens, next_pos}
use Rattle.isle_syntax.specs.Grammar.Phrases.{depth_left}
use Rattle.isle_syntax.specs.Grammar.DefGrammar.{SpellsText}
use Rattle.isle_ast.specs.Trees.WithoutPos.{def_without_pos}
use Rattle.isle_syntax.specs.Tokens.TokensOf.{TokensOf}

-- how many parentheses may be open at once
abbrev pub max_nesting : ℕ
max_nesting = 1000

-- no more parentheses are open at once
abbrev pub NestsWithin : List Placed → Type 0
NestsWithin ts = (left : ℕ) × (depth_left max_nesting ts ≡ Some left)

-- some spelt text begins with these tokens
abbrev pub GoesOn : List Placed → Type 0
GoesOn ts = (defs : List Def) × (more : List Placed) × SpellsText defs (ts ++ more)

-- No spelt text begins with the tokens up to the next one; or where the text ends here, they are none.
-- Where what stands next is no token, nothing can go on.
abbrev pub IsDead : List Placed → List Placed → Bool → Type 0
IsDead ts [] true = (defs : List Def) → SpellsText defs ts → ⊥
IsDead ts [] false = Unit {0}
IsDead ts (t ∷ r) clean = GoesOn (ts ++ t ∷ []) → ⊥

-- the fault stands at the first token after which no spelt text goes on, or at the end
pub record FaultAt (remaining : RemainingTokens) (span : Span) : Type 0 where
  pub before : List Placed
  pub from : List Placed
  pub split : remaining.left ≡ before ++ from
  pub place : span ≡ span_at (next_pos remaining.source remaining.end from)
  pub goes_on : GoesOn before
  pub dead : IsDead before from remaining.clean
  pub nests : NestsWithin before

-- here stands the first parenthesis that nests too deep, and up to it spelt texts go on
pub record DeepAt (remaining : RemainingTokens) (span : Span) : Type 0 where
  pub before : List Placed
  pub place : Pos
  pub rest : List Placed
  pub split : remaining.left ≡ before ++ opening place ∷ rest
  pub at : span ≡ span_at place
  pub goes_on : GoesOn (before ++ opening place ∷ [])
  pub full : depth_left max_nesting before ≡ Some 0

-- all tokens of the text spell these definitions and no others
pub record IsSpelt (remaining : RemainingTokens) (defs : List Def) : Type 0 where
  pub clean : remaining.clean ≡ true
  pub spelt : SpellsText defs remaining.left
  pub nests : NestsWithin remaining.left
  pub only : (others : List Def) → SpellsText others remaining.left → others ≡ defs

-- these are the definitions that all tokens of the text spell, without their positions
abbrev pub IsSpeltWithoutPos : RemainingTokens → List Def → Type 0
IsSpeltWithoutPos remaining defs = (placed : List Def) × IsSpelt remaining placed × (defs ≡ map def_without_pos placed)

-- an error is the fault of a text: a parse error where no spelling goes on, or a size error at a parenthesis that is too deep
abbrev pub IsFaultOf : RemainingTokens → Error → Type 0
IsFaultOf remaining error = IsParseOrSize (FaultAt remaining) (DeepAt remaining) error

-- a lexer of a text that has given nothing yet: all the text's tokens are still to come
pub record IsWhole (text : List ℕ) (remaining : RemainingTokens) : Type 0 where
  pub size : remaining.source.size ≡ length text
  pub tokens : TokensOf remaining.source text remaining.left remaining.end remaining.clean

-- as the file of this number, a text spells these definitions
abbrev pub Spells : (file : ℕ) → List ℕ → List Def → Type 0
Spells file text defs = (remaining : RemainingTokens) → IsWhole text remaining → remaining.source.file ≡ file → IsSpelt remaining defs

-- an error is the fault of a text, as the file of this number
abbrev pub IsFaultIn : (file : ℕ) → List ℕ → Error → Type 0
IsFaultIn file text error = (remaining : RemainingTokens) → IsWhole text remaining → remaining.source.file ≡ file → IsFaultOf remaining error
