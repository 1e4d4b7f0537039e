-- What is written for an input, line by line.
use Rattle.std.specs.Prelude.{◌≡◌, ◌<◌, ◌==◌, ◌||◌, ◌++◌, ◌⊎◌, ℕ, Bool, true, false, List, [], ◌∷◌, Option, Some, None, IfSome, if◌then◌else◌, codes, length}
use Rattle.std.specs.Io.BufRead.{take_through, drop_through}
use Rattle.std.specs.Io.{StopsAt}
use Rattle.std.specs.Io.KnownBytes.{Appends, Consumes, Keeps}
use Rattle.islec.specs.declared.answer.Manner.{Manner}
use Rattle.islec.specs.declared.serve.Served.{Served}
use Rattle.islec.specs.declared.serve.Served.TheVariants.{AllWell, SomeRefused}
use Rattle.islec.specs.declared.serve.ServeFault.{ServeFault}
use Rattle.islec.specs.declared.serve.ServeFault.TheVariants.{Read, Write, Memory}
use Rattle.islec.specs.Replies.{Setting, IsReply, LosesReply}
use Rattle.islec.specs.Writing.{AppendsBeginning}

-- a byte at the front of the first of some lines
abbrev pub before_first : ℕ → List (List ℕ) → List (List ℕ)
before_first byte [] = (byte ∷ []) ∷ []
before_first byte (line ∷ lines) = (byte ∷ line) ∷ lines

-- the lines of bytes, without the newlines that end them: the last needs none, and an empty rest is no line
abbrev pub lines_of : List ℕ → List (List ℕ)
lines_of [] = []
lines_of (byte ∷ rest) = if byte == 10 then [] ∷ lines_of rest else before_first byte (lines_of rest)

-- these are the lines of an input, where its bytes are known
abbrev pub AreLinesOf : Option (List ℕ) → List (List ℕ) → Type 0
AreLinesOf input lines = IfSome input (λ bytes. lines_of bytes ≡ lines)

-- these are the first lines of an input, where its bytes are known
abbrev pub AreFirstLinesOf : Option (List ℕ) → List (List ℕ) → Type 0
AreFirstLinesOf input lines = IfSome input (λ bytes. (later : List (List ℕ)) × (lines_of bytes ≡ lines ++ later))

-- the lines that a reader gave: with those of the bytes that it has left they are the lines of the bytes that it had left before
abbrev pub GivesLines : (old new : Option (List ℕ)) → List (List ℕ) → Type 0
GivesLines None new lines = Unit {0}
GivesLines (Some bytes) None lines = ⊥
GivesLines (Some bytes) (Some rest) lines = lines_of bytes ≡ lines ++ lines_of rest

-- a line without its newline, if it has one
abbrev pub LosesNewline : List ℕ → List ℕ → Type 0
LosesNewline line bare = (line ≡ bare ++ codes "\n") ⊎ ((line ≡ bare) × ((front : List ℕ) → line ≡ front ++ codes "\n" → ⊥))

-- the replies to lines one after another, each in the world that the one before leaves, whether some line counts as refused, and the world
-- that the last leaves
abbrev pub AreReplies : {V : Type 0} → Setting V → V → List (List ℕ) → List ℕ → Bool → V → Type 0
AreReplies setting before [] out refused after = (out ≡ []) × (refused ≡ false) × (after ≡ before)
AreReplies {V} setting before (line ∷ lines) out refused after = (one rest : List ℕ) × (first others : Bool) × (middle : V)
    × IsReply setting before line one first middle × AreReplies setting middle lines rest others after × (out ≡ one ++ rest)
    × (refused ≡ (first || others))

-- replies to lines: a writer that held `old` holds these bytes and the replies behind them
abbrev pub WritesReplies : {V : Type 0} → Setting V → V → List (List ℕ) → Bool → (old new : Option (List ℕ)) → V → Type 0
WritesReplies setting before lines refused old new after = (out : List ℕ) × AreReplies setting before lines out refused after × Appends old new out

-- replies to each line of an input are written
abbrev pub AnswersAll : {V : Type 0} → Setting V → V → (input : Option (List ℕ)) → Bool → (old new : Option (List ℕ)) → V → Type 0
AnswersAll setting before input refused old new after =
    (lines : List (List ℕ)) × AreLinesOf input lines × WritesReplies setting before lines refused old new after

-- what was read of an input, whose bytes are known, is these lines, and behind them this part of one more
pub record ReadsLines (input left : Option (List ℕ)) (lines : List (List ℕ)) (part : List ℕ) : Type 0 where
  pub whole : List ℕ
  pub behind : Option (List ℕ)
  pub read : Consumes input behind whole
  pub gives : GivesLines input behind lines
  pub rest : Consumes behind left part

-- what was read of a line, behind which reading fails or memory runs out: where reading fails, the line hasn't ended
abbrev pub IsCutShort : ServeFault → (part : List ℕ) → Type 0
IsCutShort Read part = StopsAt part 10 × ((front : List ℕ) → part ≡ front ++ codes "\n" → ⊥)
IsCutShort Write part = ⊥
IsCutShort Memory part = StopsAt part 10

-- how the answering of lines breaks off, behind a part of one more, which was read: where reading fails, nothing was done for that; where memory
-- runs out, nothing was done for it either, or it is the next line, and its reply may be lost
abbrev pub BreaksOff : {V : Type 0} → Setting V → ServeFault → (behind left : Option (List ℕ)) → (part : List ℕ) → V → V → Type 0
BreaksOff setting Read behind left part reached after = IsCutShort Read part × (after ≡ reached)
BreaksOff setting Write behind left part reached after = ⊥
BreaksOff setting Memory behind left part reached after = IsCutShort Memory part × ((after ≡ reached)
    ⊎ ((line : List ℕ) × LosesNewline part line × GivesLines behind left (line ∷ []) × LosesReply setting reached line after))

-- replies to first lines of an input are written, and there it breaks off
abbrev pub AnswersFirst : {V : Type 0} → Setting V → ServeFault → V → (input left old new : Option (List ℕ)) → V → Type 0
AnswersFirst {V} setting fault before input left old new after = (lines : List (List ℕ)) × (part : List ℕ) × (refused : Bool) × (reached : V)
    × (reads : ReadsLines input left lines part) × WritesReplies setting before lines refused old new reached
    × BreaksOff setting fault reads.behind left part reached after

-- behind the replies to first lines of an input nothing was done, or the reply to the next line may be lost
abbrev pub LosesNext : {V : Type 0} → Setting V → (input : Option (List ℕ)) → List (List ℕ) → V → V → Type 0
LosesNext setting input lines reached after = (after ≡ reached)
    ⊎ ((line : List ℕ) × AreFirstLinesOf input (lines ++ line ∷ []) × LosesReply setting reached line after)

-- a beginning of the replies to first lines of an input is written, and at most the reply to the next line was lost
abbrev pub AnswersCut : {V : Type 0} → Setting V → V → (input old new : Option (List ℕ)) → V → Type 0
AnswersCut {V} setting before input old new after = (lines : List (List ℕ)) × (refused : Bool) × (out : List ℕ) × (reached : V)
    × AreFirstLinesOf input lines × AreReplies setting before lines out refused reached × AppendsBeginning old new out
    × LosesNext setting input lines reached after

-- what is told behind all replies: nothing where neither rules that no call chose nor unanswered calls are asked for
abbrev pub IsSummary : Manner → List ℕ → Type 0
IsSummary manner lines = (manner.coverage || manner.unanswered) ≡ false → lines ≡ []

-- replies to each line of an input are written, and behind them what is told behind all
abbrev pub AnswersAndTells : {V : Type 0} → Setting V → V → (input : Option (List ℕ)) → Bool → (old new : Option (List ℕ)) → V → Type 0
AnswersAndTells setting before input refused old new after = (middle : Option (List ℕ)) × (lines : List ℕ)
    × AnswersAll setting before input refused old middle after × IsSummary setting.manner lines × Appends middle new lines

-- replies to each line of an input are written, and behind them a beginning of what is told behind all
abbrev pub AnswersAndCuts : {V : Type 0} → Setting V → V → (input : Option (List ℕ)) → (old new : Option (List ℕ)) → V → Type 0
AnswersAndCuts setting before input old new after = (refused : Bool) × (middle : Option (List ℕ)) × (lines : List ℕ)
    × AnswersAll setting before input refused old middle after × IsSummary setting.manner lines × AppendsBeginning middle new lines

-- a beginning of the replies is written, or all of them and a beginning of what is told behind them
abbrev pub AnswersOrTellsCut : {V : Type 0} → Setting V → V → (input old new : Option (List ℕ)) → V → Type 0
AnswersOrTellsCut setting before input old new after = AnswersCut setting before input old new after
    ⊎ AnswersAndCuts setting before input old new after

-- where memory runs out, replies to first lines are written, or all of them
abbrev pub AnswersUntilMemory : {V : Type 0} → Setting V → V → (input left old new : Option (List ℕ)) → V → Type 0
AnswersUntilMemory setting before input left old new after =
    AnswersFirst setting Memory before input left old new after
    ⊎ ((refused : Bool) × (middle : Option (List ℕ)) × AnswersAll setting before input refused old middle after × Keeps middle new)

-- whether some line counted as refused
abbrev pub some_refused : Served → Bool
some_refused AllWell = false
some_refused SomeRefused = true

-- replies to lines, of which an end is kept back and the others are written
pub record KeepsBack {V : Type 0} (setting : Setting V) (before : V) (lines : List (List ℕ)) (refused : Bool)
    (old new : Option (List ℕ)) (kept : List ℕ) (after : V) : Type 0 where
  pub out : List ℕ
  pub replies : AreReplies setting before lines (out ++ kept) refused after
  pub written : Appends old new out

-- replies to first lines of an input, of which an end is kept back and the others are written, and there it breaks off
abbrev pub KeepsFirst : {V : Type 0} → Setting V → ServeFault → V → (input left old new : Option (List ℕ)) → List ℕ → V → Type 0
KeepsFirst {V} setting fault before input left old new kept after = (lines : List (List ℕ)) × (part : List ℕ) × (refused : Bool) × (reached : V)
    × (reads : ReadsLines input left lines part) × KeepsBack setting before lines refused old new kept reached
    × BreaksOff setting fault reads.behind left part reached after

-- of what was kept back a beginning is written, and the rest is still kept back
abbrev pub WritesFirst : (kept rest : List ℕ) → (old new : Option (List ℕ)) → Type 0
WritesFirst kept rest old new = (some : List ℕ) × Appends old new some × (kept ≡ some ++ rest)

-- a reader's first line with the newline that ends it, where its bytes are known
abbrev pub TakesLine : (old new : Option (List ℕ)) → List ℕ → Type 0
TakesLine old new line = (0 < length line) × IfSome old (λ bytes. (line ≡ take_through 10 bytes) × (new ≡ Some (drop_through 10 bytes)))
