-- What a call that reads from a lexer gives.
use Rattle.std.specs.Prelude.{◌≡◌, ℕ, ℤ, List, [], Bool, true, false, Option, Some, None, Result, Ok, Err}
use Rattle.isle_ast.specs.declared.error.Error.{Error}
use Rattle.isle_ast.specs.declared.refusal.Refusal.{Refusal}
use Rattle.isle_ast.specs.declared.refusal.Refusal.TheVariants.{Fault, Memory}
use Rattle.isle_ast.specs.Errors.{IsParseOrSize, span_at}
use Rattle.isle_ast.specs.declared.pos.Pos.{Pos}
use Rattle.isle_ast.specs.declared.ast.Ident.{Ident}
use Rattle.isle_syntax.specs.Tokens.Names.{is_word, is_ident}
use Rattle.isle_syntax.specs.Grammar.Phrases.{next_symbol_is}
use Rattle.isle_syntax.specs.Grammar.TreeGrammar.{bits_of}
use Rattle.isle_syntax.specs.Inside.Reading.DefReading.{identifier, is_priority_next}
use Rattle.isle_syntax.specs.Tokens.PlacedTokens.{Placed, Literal}
use Rattle.isle_syntax.specs.Tokens.RemainingTokens.{RemainingTokens, Source, remaining_pos}
use Rattle.isle_syntax.specs.Inside.Reading.Readers.{Read, done, fault, deep, says, integer}
use Rattle.isle_syntax.specs.Tokens.LexerCalls.{ahead, first_of}

-- where reading stops without a value: at a fault, or at a parenthesis that nests too deep
pub data Stop : Type 0 where
  nowhere : Stop
  at_fault : List Placed → Stop
  at_deep : List Placed → Stop

abbrev pub stop_of : {A : Type 0} → Read A → Stop
stop_of (done a r) = nowhere
stop_of (fault r) = at_fault r
stop_of (deep r) = at_deep r

-- all of a lexer that taking tokens leaves the same
abbrev pub bounds : RemainingTokens → ℕ × (Bool × Source)
bounds u = (u.end, (u.clean, u.source))

-- an error tells where reading stopped, and the lexer is left there
abbrev pub TellsStop : RemainingTokens → RemainingTokens → Error → Stop → Type 0
TellsStop old new error stop = IsParseOrSize
    (λ span. (stop ≡ at_fault new.left) × (span ≡ span_at (remaining_pos new)) × (bounds new ≡ bounds old))
    (λ span. (stop ≡ at_deep new.left) × (span ≡ span_at (remaining_pos new)) × (bounds new ≡ bounds old)) error

-- the same of a refusal; one for memory says nothing
abbrev pub RefusesAt : RemainingTokens → RemainingTokens → Refusal Error → Stop → Type 0
RefusesAt old new (Fault error) stop = TellsStop old new error stop
RefusesAt old new (Memory e) stop = Unit {0}

-- what a call returned, seen by view, and the lexer that it left, are what reading gives, unless memory ran out
abbrev pub Gives : {X Y : Type 0} → (X → Y) → RemainingTokens → RemainingTokens → Result X (Refusal Error) → Read Y → Type 0
Gives view old new (Ok x) read = (read ≡ done (view x) new.left) × (bounds new ≡ bounds old)
Gives view old new (Err refusal) read = RefusesAt old new refusal (stop_of read)

-- a refusal where no token stands next
abbrev pub NoToken : RemainingTokens → RemainingTokens → Refusal Error → Type 0
NoToken old new (Fault error) = (old.left ≡ []) × TellsStop old new error (at_fault [])
NoToken old new (Memory e) = Unit {0}

-- a refusal for memory
abbrev pub ForMemory : Refusal Error → Type 0
ForMemory (Fault error) = ⊥
ForMemory (Memory e) = Unit {0}

-- what was next wasn't taken, and can be
pub record IsKnown (old new : RemainingTokens) : Type 0 where
  pub same : new ≡ old
  pub ready : ahead old ≡ first_of old.left

-- whether something was taken: what follows it is left, or it wasn't there and nothing has changed
abbrev pub TakesOr : RemainingTokens → RemainingTokens → Option (List Placed) → Bool → Type 0
TakesOr old new rest true = (rest ≡ Some new.left) × (bounds new ≡ bounds old)
TakesOr old new rest false = (rest ≡ None) × (new ≡ old)

-- whether this word was taken, which stood next exactly then
abbrev pub TakesWord : RemainingTokens → RemainingTokens → List ℕ → Bool → Type 0
TakesWord old new w true = (next_symbol_is (is_word w) old.left ≡ true) × (says w old.left ≡ done tt new.left) × (bounds new ≡ bounds old)
TakesWord old new w false = (next_symbol_is (is_word w) old.left ≡ false) × (new ≡ old)

-- whether a name was taken, which stood next exactly then
abbrev pub TakesName : RemainingTokens → RemainingTokens → Option Ident → Type 0
TakesName old new (Some x) = (next_symbol_is is_ident old.left ≡ true) × (identifier old.left ≡ done x new.left) × (bounds new ≡ bounds old)
TakesName old new None = (next_symbol_is is_ident old.left ≡ false) × (new ≡ old)

-- whether a priority was taken, which stood next exactly then
abbrev pub TakesPriority : RemainingTokens → RemainingTokens → Option ℤ → Type 0
TakesPriority old new (Some z) =
    (is_priority_next old.left ≡ true) × ((p : Pos) × (n : Literal) × (integer old.left ≡ done (p, n) new.left) × (z ≡ bits_of n))
    × (bounds new ≡ bounds old)
TakesPriority old new None = (is_priority_next old.left ≡ false) × (new ≡ old)
