-- What a road says of calls: what they come to, and what its frames are of.
use Rattle.std.specs.Prelude.{◌≡◌, ◌++◌, ℕ, zero, suc, List, []}
use Rattle.isle_types.specs.declared.ids.TermId.{TermId}
use Rattle.isle_meaning.specs.Asking.{Ended, spent}
use Rattle.isle_meaning.specs.GroundValues.{IsValueOf, AreValuesOf}
use Rattle.isle_meaning.specs.Outcomes.{Outcome, given, missing, ended, unmatched}
use Rattle.isle_meaning.specs.Values.{Value, Values}
use Rattle.isle_meaning.specs.Worlds.{Answers, Event}
use Rattle.isle_calls.specs.declared.frames.Advanced.{Advanced}
use Rattle.isle_calls.specs.declared.frames.Advanced.TheVariants.{Is, Missing, Ends, Calls}
use Rattle.isle_calls.specs.declared.frames.Turn.{Turn}
use Rattle.isle_calls.specs.declared.frames.Turn.TheVariants.{On, Comes as ComesTo}
use Rattle.isle_calls.specs.declared.store.Stored.{Stored}
use Rattle.isle_program.specs.declared.program.Program.{Program}
use Rattle.isle_calls.specs.Calls.Answers.{IsEnd}
use Rattle.isle_calls.specs.Calls.Open.{CallOf}
use Rattle.isle_calls.specs.Calls.States.{Host, State, Makes}
use Rattle.isle_program.specs.Meanings.{checked, may_run}
use Rattle.isle_calls.specs.Stores.Values.{Stands, StandEach, Extends}

-- a way to answer calls: what it asks of a program; what a call of a program's term comes to where the world answers so and so many calls
-- may be open, with its steps and effects, and with which effects it begins; when a frame is that of a call that runs, after these effects of
-- its own, or of one that waits for the call of a term on these values; how many steps a frame's call has taken, and how many calls may be open
-- below it
pub record Way (F : Type 0) : Type 1 where
  pub holds : Program → Type 0
  pub run : Program → Answers → ℕ → ℕ → Values → ℕ → List Event → Outcome Value → Type 0
  pub begins : Program → Answers → ℕ → ℕ → Values → List Event → Type 0
  pub is_frame : CallOf → List Stored → F → List Event → Type 0
  pub is_waiting : CallOf → List Stored → F → List Event → TermId → Values → Type 0
  pub steps_of : F → ℕ
  pub depth_of : F → ℕ

-- a call takes so many steps, makes these effects, and comes to this
abbrev pub Comes : {F : Type 0} → Way F → CallOf → ℕ → List Event → Outcome Value → Type 0
Comes way k steps trace r = way.run k.program k.answers (suc k.depth) k.term k.args steps trace r

-- what a call of a term on these values, below it, comes to
abbrev pub Below : {F : Type 0} → Way F → CallOf → ℕ → Values → List Event → Outcome Value → Type 0
Below way k t vs trace r = (steps : ℕ) × way.run k.program k.answers k.depth t vs steps trace r

-- a call begins with these effects
abbrev pub Begins : {F : Type 0} → Way F → CallOf → List Event → Type 0
Begins way k made = way.begins k.program k.answers (suc k.depth) k.term k.args made

-- so does a call of a term on these values, below it
abbrev pub BeginsBelow : {F : Type 0} → Way F → CallOf → ℕ → Values → List Event → Type 0
BeginsBelow way k t vs made = way.begins k.program k.answers k.depth t vs made

-- a call of a term that can be run, on arguments of its types, of a program of which this holds
pub record IsReady (Holds : Program → Type 0) (program : Program) (t : ℕ) (vs : Values) : Type 0 where
  pub holds : Holds program
  pub may : may_run program t
  pub typed : AreValuesOf (checked program).values vs ((checked program).terms.inputs t)

-- What holds of a way. Where no call may be open, a call is spent.
pub record IsWay {F : Type 0} (way : Way F) : Type 0 where
  pub spent_at_once : (program : Program) (w : Answers) (t : ℕ) (vs : Values) → way.run program w zero t vs zero [] (ended spent)
  -- what a call is given is of its term's type
  pub typed : (program : Program) (w : Answers) (n t : ℕ) (vs : Values) (steps : ℕ) (trace : List Event) (v : Value) → IsReady way.holds program t vs
      → way.run program w n t vs steps trace (given v) → IsValueOf (checked program).values v ((checked program).terms.type_of t)
  -- as the call ends that a frame waits for, its own ends
  pub ends : (k : CallOf) (stored : List Stored) (frame : F) (since trace : List Event) (term : TermId) (vs : Values) (e : Ended)
      → way.is_waiting k stored frame since term vs → Below way k term.0 vs trace (ended e)
      → Comes way k (way.steps_of frame) (since ++ trace) (ended e)
  -- a call may stop at once, and begins with the effects of its run
  pub stops : (program : Program) (w : Answers) (n t : ℕ) (vs : Values) → way.begins program w n t vs []
  pub begins_so : (program : Program) (w : Answers) (n t : ℕ) (vs : Values) (steps : ℕ) (trace : List Event) (r : Outcome Value)
      → way.run program w n t vs steps trace r → way.begins program w n t vs trace
  -- a call that runs has begun with its effects, and so has one that waits for a call that has begun
  pub begun : (k : CallOf) (stored : List Stored) (frame : F) (since : List Event) → way.is_frame k stored frame since → Begins way k since
  pub begun_below : (k : CallOf) (stored : List Stored) (frame : F) (since made : List Event) (term : TermId) (vs : Values)
      → way.is_waiting k stored frame since term vs → BeginsBelow way k term.0 vs made → Begins way k (since ++ made)
  -- a frame waits where more values are stored
  pub longer : (k : CallOf) (old new : List Stored) (frame : F) (since : List Event) (term : TermId) (vs : Values) → Extends old new
      → way.is_waiting k old frame since term vs → way.is_waiting k new frame since term vs
  -- it knows how many calls may be open below its own
  pub deep : (k : CallOf) (stored : List Stored) (frame : F) (since : List Event) (term : TermId) (vs : Values)
      → way.is_waiting k stored frame since term vs → way.depth_of frame ≡ k.depth
  -- the call that it waits for may be made
  pub ready : (k : CallOf) (stored : List Stored) (frame : F) (since : List Event) (term : TermId) (vs : Values)
      → way.is_waiting k stored frame since term vs → IsReady way.holds k.program term.0 vs

-- just these effects were made up to a state, and a call of which there were others begins with all
abbrev pub HasBegun : {W F : Type 0} → Host W → Way F → State W → State W → CallOf → List Event → Type 0
HasBegun host way s t k since = (made : List Event) × Makes host s t made × Begins way k (since ++ made)

-- a frame has come to this, after these effects of its call
abbrev pub AdvancesBy : {F : Type 0} → Way F → CallOf → List Stored → F → List Event → Advanced → Type 0
AdvancesBy way k stored frame since (Is n) = (v : Value) × Stands stored v n × Comes way k (way.steps_of frame) since (given v)
AdvancesBy way k stored frame since Missing = Comes way k (way.steps_of frame) since missing
AdvancesBy way k stored frame since (Ends answer) =
    (e : Ended) × IsEnd k.program answer e × Comes way k (way.steps_of frame) since (ended e)
AdvancesBy way k stored frame since (Calls term numbers) =
    (vs : Values) × StandEach stored vs numbers.items × way.is_waiting k stored frame since term vs

-- the same, of a frame that may go on
abbrev pub TurnsTo : {F : Type 0} → Way F → CallOf → List Stored → F → List Event → Turn → Type 0
TurnsTo way k stored frame since On = way.is_frame k stored frame since
TurnsTo way k stored frame since (ComesTo advanced) = AdvancesBy way k stored frame since advanced

-- what a call comes to of which no rule is left
abbrev pub UnmatchedIs : CallOf → Advanced → Type 0
UnmatchedIs k (Is n) = ⊥
UnmatchedIs k Missing = unmatched ((checked k.program).terms.partial k.term) k.term k.args ≡ missing
UnmatchedIs k (Ends answer) = (e : Ended) × IsEnd k.program answer e
    × (unmatched ((checked k.program).terms.partial k.term) k.term k.args ≡ ended e)
UnmatchedIs k (Calls term numbers) = ⊥
