-- How far an expression is evaluated, part by part.
use Rattle.std.specs.Prelude.{◌≡◌, ◌⊎◌, ◌<◌, ◌+◌, ◌-◌, ◌*◌, ℕ, zero, suc, true, List, [], ◌∷◌, ◌++◌, All, Option, Some, None}
use Rattle.std.specs.Prelude.{length, set, slice_get, slice_index_or, Contains, min}
use Rattle.isle_types.specs.declared.ids.TermId.{TermId}
use Rattle.isle_rules.specs.Values.{ValueTree, value_list}
use Rattle.isle_meaning.specs.Values.{Value, Values}
use Rattle.isle_meaning.specs.GroundValues.{IsValueOf, AreValuesOf}
use Rattle.isle_meaning.specs.Words.{Word, call_word, Words}
use Rattle.isle_meaning.specs.Worlds.{CheckedProgram, Answers, Event}
use Rattle.isle_meaning.specs.Asking.{asks_value, ill_typed}
use Rattle.isle_calls.specs.declared.plain.evaluation.Evaluation.{Evaluation}
use Rattle.isle_calls.specs.declared.plain.evaluation.Evaluated.{Evaluated}
use Rattle.isle_calls.specs.declared.plain.evaluation.Evaluated.TheVariants.{Done, Missing, IllTyped, Waits}
use Rattle.isle_calls.specs.declared.plain.evaluation.Step.{Step}
use Rattle.isle_calls.specs.declared.plain.evaluation.Step.TheVariants.{Is, After, Missing as Misses, IllTyped as Refused, Waits as Awaits}
use Rattle.isle_program.specs.declared.laid.Part.{Part}
use Rattle.isle_calls.specs.declared.store.Stored.{Stored}
use Rattle.isle_program.specs.declared.program.Program.{Program}
use Rattle.isle_program.specs.Meanings.{checked, may_run}
use Rattle.isle_program.specs.Programs.{types_of}
use Rattle.isle_meaning.specs.Outcomes.{Outcome, given, missing, ended}
use Rattle.isle_meaning.specs.PlainRuns.{WordRuns, WordsRun, PlainRun}
use Rattle.isle_meaning.specs.Inside.TypedWords.{IsTypedWord, AreTypedWords, AreTypedAnswers}
use Rattle.isle_program.specs.Plain.LaidOut.Words.{IsLaid, AreLaid}
use Rattle.isle_calls.specs.Stores.Values.{Stands, StandEach}
use Rattle.isle_calls.specs.Calls.Answers.{IsCalledOn}

-- no value comes of it
abbrev pub Stops : Outcome Value → Type 0
Stops (given v) = ⊥
Stops missing = Unit {0}
Stops (ended e) = Unit {0}

-- an expression that is evaluated: its program and what the world answers, how many calls may be open below it, the values of its
-- variables, the answers of the impure calls so far, the types of both, and its parts
pub record Surroundings : Type 0 where
  pub program : Program
  pub answers : Answers
  pub depth : ℕ
  pub variables : ℕ → Value
  pub done : List (Option Value)
  pub types : ℕ → ℕ
  pub answer_types : ℕ → ℕ
  pub parts : List Part

-- what the calls below it come to
abbrev pub runs_below : CheckedProgram → Answers → ℕ → ℕ → Values → List Event → Outcome Value → Type 0
runs_below p w n t vs effects r = (tried : ℕ) × PlainRun p w n t vs tried effects r

-- what an expression comes to
abbrev pub ComesTo : Surroundings → Word → Outcome Value → Type 0
ComesTo s x r = WordRuns (checked s.program) s.answers (runs_below (checked s.program) s.answers s.depth) s.variables s.done x r

-- what expressions come to
abbrev pub AllComeTo : Surroundings → Words → Outcome Values → Type 0
AllComeTo s xs r = WordsRun (checked s.program) s.answers (runs_below (checked s.program) s.answers s.depth) s.variables s.done xs r

-- a variable has a value of its type
abbrev pub HasTypedValue : Surroundings → ℕ → Type 0
HasTypedValue s k = IsValueOf (checked s.program).values (s.variables k) (s.types k)

-- the part is this expression, and of this type
abbrev pub IsPart : Surroundings → Word → ℕ → ℕ → Type 0
IsPart s x u n = IsLaid (types_of s.program).names s.parts x n
    × IsTypedWord (checked s.program) (may_run s.program) (HasTypedValue s) s.types s.answer_types x u

-- the answers so far are of their types
abbrev pub IsTypedAround : Surroundings → Type 0
IsTypedAround s = AreTypedAnswers (checked s.program) s.answer_types s.done

-- the number of what a part has been evaluated to
abbrev pub known_at : Evaluation → ℕ → Option ℕ
known_at e k = slice_index_or e.known.items k None

-- a part comes to the value of a number
abbrev pub HasValueAt : Surroundings → List Stored → ℕ → ℕ → Type 0
HasValueAt s stored k n = (x : Word) (u : ℕ) → IsPart s x u k → (v : Value) × Stands stored v n × ComesTo s x (given v)

-- each part that has been evaluated comes to the value of its number
abbrev pub IsRight : Surroundings → List Stored → Evaluation → Type 0
IsRight s stored e = (k n : ℕ) → known_at e k ≡ Some n → HasValueAt s stored k n

-- where no value comes of a part, none comes of the whole
abbrev pub LeadsToWhole : Surroundings → Word → ℕ → Type 0
LeadsToWhole s whole k = (x : Word) × (u : ℕ) × IsPart s x u k × ((r : Outcome Value) → Stops r → ComesTo s x r → ComesTo s whole r)

-- an expression is being evaluated
pub record IsUnderway (s : Surroundings) (stored : List Stored) (whole : Word) (e : Evaluation) : Type 0 where
  pub right : IsRight s stored e
  pub leads : All (LeadsToWhole s whole) e.todo.items
  pub sized : length e.known.items ≡ length s.parts
  pub missed : e.missed ≡ true → ComesTo s whole missing

-- a word is a call of this term, whose arguments come to these values
abbrev pub IsCallOn : Surroundings → Word → TermId → ℕ → Values → Type 0
IsCallOn s x term place args = (xs : Words) × (x ≡ call_word term.0 xs place) × AllComeTo s xs (given args)

-- it waits for a call: the part on top is that call, whose arguments have these values
pub record WaitsFor (s : Surroundings) (stored : List Stored) (e : Evaluation) (term : TermId) (numbers : List ℕ) (args : Values) : Type 0 where
  pub before : List ℕ
  pub part : ℕ
  pub top : e.todo.items ≡ before ++ part ∷ []
  pub unknown : known_at e part ≡ None
  pub words : Words
  pub place : ℕ
  pub type : ℕ
  pub call : IsPart s (call_word term.0 words place) type part
  pub ran : AllComeTo s words (given args)
  pub stand : StandEach stored args numbers
  pub typed : AreValuesOf (checked s.program).values args ((checked s.program).terms.inputs term.0)
  -- a pure call is waited for only where its term has rules
  pub ruled : place ≡ zero → (checked s.program).has_rules term.0 ≡ true
  -- each word that is laid there is such a call
  pub same : (x : Word) (u : ℕ) → IsPart s x u part → IsCallOn s x term place args

-- what an evaluation comes to
abbrev pub Tells : Surroundings → List Stored → Word → Evaluation → Evaluated → Type 0
Tells s stored whole e Done = IsUnderway s stored whole e × (e.todo.items ≡ [])
Tells s stored whole e Missing = ComesTo s whole missing
Tells s stored whole e (IllTyped term args) =
    (vs : Values) × IsCalledOn (checked s.program) (asks_value term.0 vs) term (value_list args.items)
    × ComesTo s whole (ended (ill_typed (asks_value term.0 vs)))
Tells s stored whole e (Waits term numbers) =
    (args : Values) × IsUnderway s stored whole e × WaitsFor s stored e term numbers.items args

-- the surroundings are those of this program, of these answers of a world, and of these parts
pub record AreAround (program : Program) (answers : Answers) (parts : List Part) (s : Surroundings) : Type 0 where
  pub of_program : s.program ≡ program
  pub of_answers : s.answers ≡ answers
  pub of_parts : s.parts ≡ parts
  pub typed : IsTypedAround s

-- a part has been evaluated
abbrev pub IsKnown : Evaluation → ℕ → Type 0
IsKnown e k = (n : ℕ) × (known_at e k ≡ Some n)

-- a part where nothing is known of it, else what is found without it
abbrev pub if_unknown : Option ℕ → ℕ → Option ℕ → Option ℕ
if_unknown None k other = Some k
if_unknown (Some n) k other = other

-- the first of some parts that hasn't been evaluated
abbrev pub first_unknown : Evaluation → List ℕ → Option ℕ
first_unknown e [] = None
first_unknown e (k ∷ ks) = if_unknown (known_at e k) k (first_unknown e ks)

-- a number, where there is one, before others
abbrev pub number_before : Option ℕ → List ℕ → List ℕ
number_before None ns = ns
number_before (Some n) ns = n ∷ ns

-- the numbers of the values of those parts that have been evaluated
abbrev pub known_numbers : Evaluation → List ℕ → List ℕ
known_numbers e [] = []
known_numbers e (k ∷ ks) = number_before (known_at e k) (known_numbers e ks)

-- the part on top has been given its number, and taken off
pub record IsAnswered (old : Evaluation) (n : ℕ) (new : Evaluation) : Type 0 where
  pub taken : (before : List ℕ) (part : ℕ) → old.todo.items ≡ before ++ part ∷ [] → new.todo.items ≡ before
  pub put : (before : List ℕ) (part : ℕ) → old.todo.items ≡ before ++ part ∷ [] → new.known.items ≡ set old.known.items part (Some n)
  pub missed : new.missed ≡ old.missed

-- the part on top, which is evaluated next
pub record IsTop (e : Evaluation) (part : ℕ) : Type 0 where
  pub before : List ℕ
  pub joined : e.todo.items ≡ before ++ part ∷ []

-- its number, where there is one
abbrev pub top_of : Evaluation → Option ℕ
top_of e = slice_get e.todo.items (length e.todo.items - 1)

-- what was to be evaluated is still to be evaluated, or has been
abbrev pub Remains : Evaluation → Evaluation → Type 0
Remains old new = (k : ℕ) → Contains old.todo.items k → Contains new.todo.items k ⊎ IsKnown new k

-- nothing is to be evaluated, or this part at the bottom, and above it parts that stand before
abbrev pub IsUnder : ℕ → Evaluation → Type 0
IsUnder root e = (e.todo.items ≡ []) ⊎ ((lower : List ℕ) × (e.todo.items ≡ root ∷ lower) × All (λ k. k < root) lower)

-- an evaluation as it has come further: what was known still is, and what was to be evaluated is known or still to be evaluated
pub record IsLater (old new : Evaluation) : Type 0 where
  pub sized : length new.known.items ≡ length old.known.items
  pub missed : new.missed ≡ old.missed
  pub remains : Remains old new
  pub more : (k : ℕ) → IsKnown old k → IsKnown new k
  pub under : (root : ℕ) → IsUnder root old → IsUnder root new

-- parts that have been evaluated were taken off, down to one that hasn't
pub record HasTakenOff (old new : Evaluation) : Type 0 where
  pub known : new.known ≡ old.known
  pub missed : new.missed ≡ old.missed
  pub off : List ℕ
  pub joined : old.todo.items ≡ new.todo.items ++ off
  pub remains : Remains old new
  pub open_top : (part : ℕ) → IsTop new part → known_at new part ≡ None

-- the numbers are those of the values of parts
abbrev pub AreKnown : Surroundings → List Stored → List ℕ → List ℕ → Type 0
AreKnown s stored ks numbers = (xs : Words) (us : List ℕ) → AreLaid (types_of s.program).names s.parts xs ks
    → AreTypedWords (checked s.program) (may_run s.program) (HasTypedValue s) s.types s.answer_types xs us
    → (vs : Values) × StandEach stored vs numbers × AllComeTo s xs (given vs)

-- a part is this call, whose arguments have these values
pub record IsCallAt (s : Surroundings) (stored : List Stored) (part : ℕ) (term : TermId) (numbers : List ℕ) : Type 0 where
  pub words : Words
  pub place : ℕ
  pub type : ℕ
  pub call : IsPart s (call_word term.0 words place) type part
  pub args : Values
  pub ran : AllComeTo s words (given args)
  pub stand : StandEach stored args numbers
  pub typed : AreValuesOf (checked s.program).values args ((checked s.program).terms.inputs term.0)
  -- a pure call is waited for only where its term has rules
  pub ruled : place ≡ zero → (checked s.program).has_rules term.0 ≡ true
  -- each word that is laid there is such a call
  pub same : (x : Word) (u : ℕ) → IsPart s x u part → IsCallOn s x term place args

-- a call whose answer isn't allowed, to which this comes
abbrev pub ComesToRefused : Surroundings → Word → TermId → List ValueTree → Type 0
ComesToRefused s x term trees = (vs : Values) × IsCalledOn (checked s.program) (asks_value term.0 vs) term (value_list trees)
    × ComesTo s x (ended (ill_typed (asks_value term.0 vs)))

-- what a part comes to whose parts have been evaluated
abbrev pub Comes : Surroundings → List Stored → ℕ → Step → Type 0
Comes s stored place (Is n) = HasValueAt s stored place n
Comes s stored place (After m) = ⊥
Comes s stored place Misses = (x : Word) (u : ℕ) → IsPart s x u place → ComesTo s x missing
Comes s stored place (Refused term args) = (x : Word) (u : ℕ) → IsPart s x u place → ComesToRefused s x term args.items
Comes s stored place (Awaits term numbers) = (x : Word) (u : ℕ) → IsPart s x u place → IsCallAt s stored place term numbers.items

-- no other part has to be evaluated before
abbrev pub IsLastStep : Step → Type 0
IsLastStep (Is n) = Unit {0}
IsLastStep (After m) = ⊥
IsLastStep Misses = Unit {0}
IsLastStep (Refused term args) = Unit {0}
IsLastStep (Awaits term numbers) = Unit {0}

-- a part is evaluated where it is one, and what has to be evaluated before stands before it, and hasn't been
abbrev pub IsStepOf : Evaluation → List Part → ℕ → Step → Type 0
IsStepOf e parts place (Is n) = place < length parts
IsStepOf e parts place (After m) = (place < length parts) × (m < place) × (known_at e m ≡ None)
IsStepOf e parts place Misses = Unit {0}
IsStepOf e parts place (Refused term args) = Unit {0}
IsStepOf e parts place (Awaits term numbers) = Unit {0}

-- what a step at the part on top tells of the whole
abbrev pub StepTells : Surroundings → List Stored → Word → ℕ → Step → Type 0
StepTells s stored whole place (Is n) = HasValueAt s stored place n
StepTells s stored whole place (After m) = LeadsToWhole s whole m
StepTells s stored whole place Misses = ComesTo s whole missing
StepTells s stored whole place (Refused term args) = ComesToRefused s whole term args.items
StepTells s stored whole place (Awaits term numbers) = IsCallAt s stored place term numbers.items

-- one, where nothing is known of a part
abbrev pub one_unknown : Option ℕ → ℕ
one_unknown None = 1
one_unknown (Some n) = 0

-- how many parts haven't been evaluated
abbrev pub unknown_parts : List (Option ℕ) → ℕ
unknown_parts [] = 0
unknown_parts (k ∷ ks) = one_unknown k + unknown_parts ks

-- the number of a part, where there is one
abbrev pub number_or_none : Option ℕ → ℕ
number_or_none None = 0
number_or_none (Some n) = n

-- how much there is left to do: the parts that haven't been evaluated, and then those before the one on top
abbrev pub work_left : Evaluation → ℕ
work_left e = unknown_parts e.known.items * suc (length e.known.items) + min (number_or_none (top_of e)) (length e.known.items)

-- it has come nearer to its end
pub record HasMoved (old new : Evaluation) : Type 0 where
  pub later : IsLater old new
  pub open_top : (part : ℕ) → IsTop new part → known_at new part ≡ None
  pub smaller : work_left new < work_left old

-- a turn that tells nothing comes nearer to the end, any other leaves all as it is
abbrev pub GoesOn : Evaluation → Evaluation → Option Evaluated → Type 0
GoesOn old new None = HasMoved old new
GoesOn old new (Some Done) = ⊥
GoesOn old new (Some Missing) = new ≡ old
GoesOn old new (Some (IllTyped term args)) = new ≡ old
GoesOn old new (Some (Waits term numbers)) = new ≡ old

-- what a turn tells
abbrev pub TurnTells : Surroundings → List Stored → Word → Evaluation → Option Evaluated → Type 0
TurnTells s stored whole e None = IsUnderway s stored whole e
TurnTells s stored whole e (Some evaluated) = Tells s stored whole e evaluated

-- where a call was answered none, it comes to none
abbrev pub MissesAtOnce : Evaluation → Evaluated → Type 0
MissesAtOnce e evaluated = e.missed ≡ true → evaluated ≡ Missing

-- where it is done, all that was to be evaluated has been
abbrev pub AreAllKnown : Evaluation → Evaluation → Evaluated → Type 0
AreAllKnown old new Done = (k : ℕ) → Contains old.todo.items k → IsKnown new k
AreAllKnown old new Missing = Unit {0}
AreAllKnown old new (IllTyped term args) = Unit {0}
AreAllKnown old new (Waits term numbers) = Unit {0}
