-- What a lexer answers.
use Rattle.std.specs.Prelude.{◌≡◌, ◌<◌, ◌≤◌, ℕ, List, [], ◌∷◌, true, false, All, AllPairs, Option, None, Some}
use Rattle.isle_ast.specs.declared.pos.Pos.{Pos}
use Rattle.isle_syntax.specs.declared.lexer.Token.{Token}
use Rattle.isle_ast.specs.declared.error.Span.{Span}
use Rattle.isle_ast.specs.declared.error.Error.{Error}
use Rattle.isle_ast.specs.declared.error.Error.TheVariants.{ParseError, TypeError, UnreachableError, OverlapError, ShadowedError, SizeError}
use Rattle.isle_ast.specs.declared.refusal.Refusal.{Refusal}
use Rattle.isle_ast.specs.declared.refusal.Refusal.TheVariants.{Fault, Memory}
use Rattle.isle_syntax.specs.Tokens.PlacedTokens.{Placed, symbol, opening, closing, at_sign, int, pos_of, placed}
use Rattle.isle_syntax.specs.Tokens.RemainingTokens.{LexerState, ready, starved, failed, RemainingTokens, remaining_pos, failed_at, IsIn}
use Rattle.isle_ast.specs.Errors.{IsParseOrSize, span_at}

-- a symbol is the first of these tokens
abbrev pub BeginsWithSymbol : List Placed → Type 0
BeginsWithSymbol [] = ⊥
BeginsWithSymbol (opening _ ∷ _) = ⊥
BeginsWithSymbol (closing _ ∷ _) = ⊥
BeginsWithSymbol (at_sign _ ∷ _) = ⊥
BeginsWithSymbol (symbol _ _ ∷ _) = Unit {0}
BeginsWithSymbol (int _ _ ∷ _) = ⊥

-- each token stands before all later ones
abbrev pub TokensAscend : List Placed → Type 0
TokensAscend tokens = AllPairs (λ s t. (pos_of s).offset < (pos_of t).offset) tokens

-- what is true of every lexer: its tokens lie in its text, one behind the other; it is starved before a symbol;
-- it has failed for good
pub record IsRemaining (remaining : RemainingTokens) : Type 0 where
  pub placed : All (λ token. IsIn remaining.source (pos_of token)) remaining.left
  pub ascending : TokensAscend remaining.left
  pub within : remaining.end ≤ remaining.source.size
  pub starved_before : remaining.state ≡ starved → BeginsWithSymbol remaining.left
  pub failed_left : remaining.state ≡ failed → remaining.left ≡ []
  pub failed_clean : remaining.state ≡ failed → remaining.clean ≡ false

-- a token is given: it was the first of those to come
pub record GivesToken (old new : RemainingTokens) (token : Pos × Token) : Type 0 where
  pub was_ready : old.state ≡ ready
  pub first : old.left ≡ placed token ∷ new.left
  pub same_end : new.end ≡ old.end
  pub same_clean : new.clean ≡ old.clean
  pub same_source : new.source ≡ old.source
  pub not_failed : ¬ (new.state ≡ failed)

-- the end of the text is answered
pub record AnswersEnd (old new : RemainingTokens) : Type 0 where
  pub was_ready : old.state ≡ ready
  pub none_left : old.left ≡ []
  pub clean : old.clean ≡ true
  pub same : new ≡ old

-- an error of syntax with this span
abbrev pub IsParseErrorAt : Span → Error → Type 0
IsParseErrorAt at error = IsParseOrSize (λ span. span ≡ at) (λ _. ⊥) error

-- the message of an error, where it has one
abbrev pub message_of : Error → List ℕ
message_of (ParseError message span) = message
message_of (TypeError message span) = message
message_of (UnreachableError message span) = message
message_of (OverlapError message rules) = message
message_of (ShadowedError shadowed mask) = []
message_of (SizeError message span) = message

-- a fault is reported: no token was left, and none begins where they end, which is its place; reported again without a message
pub record ReportsFault (old new : RemainingTokens) (error : Error) : Type 0 where
  pub not_starved : ¬ (old.state ≡ starved)
  pub none_left : old.left ≡ []
  pub not_clean : old.clean ≡ false
  pub place : IsParseErrorAt (span_at (record { file = old.source.file; offset = old.end })) error
  pub silent : old.state ≡ failed → message_of error ≡ []
  pub fails : new ≡ failed_at old.source old.end

-- there is no memory: what isn't read then begins where the next token stands
pub record FailsForMemory (old new : RemainingTokens) : Type 0 where
  pub not_failed : ¬ (old.state ≡ failed)
  pub fails : new ≡ failed_at old.source (remaining_pos old).offset

-- a refusal for memory has this fact
abbrev pub IfMemory : {E : Type 0} → Refusal E → Type 0 → Type 0
IfMemory (Fault _) P = Unit {0}
IfMemory (Memory _) P = P

-- the first of some tokens
abbrev pub first_of : List Placed → Option Placed
first_of [] = None
first_of (token ∷ left) = Some token

-- the first of some tokens, unless the lexer is starved
abbrev ahead_in : LexerState → List Placed → Option Placed
ahead_in ready left = first_of left
ahead_in starved left = None
ahead_in failed left = first_of left

-- the next token, which a starved lexer doesn't have
abbrev pub ahead : RemainingTokens → Option Placed
ahead remaining = ahead_in remaining.state remaining.left

-- the tokens end here, and so does the text
pub record HasEnded (remaining : RemainingTokens) : Type 0 where
  pub none_left : remaining.left ≡ []
  pub clean : remaining.clean ≡ true
