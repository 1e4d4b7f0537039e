-- What a plain run means.
use Rattle.std.specs.Prelude.{◌≡◌, ◌≢◌, ◌≤◌, ℕ, Bool, true, List, [], length, Contains}
use Rattle.isle_meaning.specs.Values.{Value, Values}
use Rattle.isle_meaning.specs.GroundValues.{AreValuesOf}
use Rattle.isle_meaning.specs.Worlds.{CheckedProgram, Answers, Event}
use Rattle.isle_meaning.specs.Asking.{asks_value, Ended, spent, plain_links, EndsAt}
use Rattle.isle_meaning.specs.Outcomes.{Outcome, ended, IsMeant}
use Rattle.isle_meaning.specs.PlainRuns.{PlainRun}
use Rattle.isle_meaning.specs.PlainBeginnings.{PlainBegins}
use Rattle.isle_meaning.specs.Reaching.{Reaches}
use Rattle.isle_meaning.specs.Laws.Calls.{AreOneRun}
use Rattle.isle_meaning.specs.SoundPrograms.{HasSoundData, IsSound}

-- Where a plain run of a term on arguments of its types answers, that is the call's meaning.
abbrev pub PlainRunsAreMeant : Type 0
PlainRunsAreMeant = (p : CheckedProgram) (w : Answers) (runs : ℕ → Bool) → IsSound p (λ t. runs t ≡ true)
    → (n t : ℕ) (args : Values) (steps : ℕ) (trace : List Event) (r : Outcome Value) → runs t ≡ true
    → AreValuesOf p.values args (p.terms.inputs t) → PlainRun p w n t args steps trace r → IsMeant p w n t args trace r

-- Where it ends unanswered, a chain of asking ends so.
abbrev pub EndsAreAsked : Type 0
EndsAreAsked = (p : CheckedProgram) (w : Answers) (runs : ℕ → Bool) → IsSound p (λ t. runs t ≡ true)
    → (n t : ℕ) (args : Values) (steps : ℕ) (trace : List Event) (e : Ended) → runs t ≡ true
    → AreValuesOf p.values args (p.terms.inputs t) → PlainRun p w n t args steps trace (ended e)
    → EndsAt p w (plain_links p w) n (asks_value t args) trace e

-- A plain run that isn't spent is the run at every greater depth, with the same steps, effects and outcome.
abbrev pub RunStays : Type 0
RunStays = (p : CheckedProgram) (w : Answers) (n m t : ℕ) (args : Values) (steps : ℕ) (trace : List Event) (r : Outcome Value) → n ≤ m
    → r ≢ ended spent → PlainRun p w n t args steps trace r → PlainRun p w m t args steps trace r

-- Two plain runs of one call at one depth are one, or their effects first differ in the world's answer to the same call.
abbrev pub PlainRunsAreOne : Type 0
PlainRunsAreOne = (p : CheckedProgram) (w : Answers) → HasSoundData p → (depth t : ℕ) (args : Values) (m n : ℕ) (one other : List Event)
    (r q : Outcome Value) → PlainRun p w depth t args m one r → PlainRun p w depth t args n other q → AreOneRun m one r n other q

-- Where no term reaches itself, no plain run of a term with rules is spent at a depth of at least the number of terms with rules.
abbrev pub NoCyclesNoneSpent : Type 0
NoCyclesNoneSpent = (p : CheckedProgram) (w : Answers) → ((t : ℕ) → Reaches p t t → ⊥) → (terms : List ℕ)
    → ((t : ℕ) → p.has_rules t ≡ true → Contains terms t) → (n t : ℕ) (args : Values) (steps : ℕ) (trace : List Event) → length terms ≤ n
    → p.has_rules t ≡ true → PlainRun p w n t args steps trace (ended spent) → ⊥

-- A plain run begins with its effects.
abbrev pub PlainRunsBeginSo : Type 0
PlainRunsBeginSo = (p : CheckedProgram) (w : Answers) (n t : ℕ) (args : Values) (steps : ℕ) (trace : List Event) (r : Outcome Value)
    → PlainRun p w n t args steps trace r → PlainBegins p w n t args trace

-- One of a pure term begins with none.
abbrev pub PureRunsBeginSilently : Type 0
PureRunsBeginSilently = (p : CheckedProgram) (w : Answers) (runs : ℕ → Bool) → IsSound p (λ t. runs t ≡ true)
    → (n t : ℕ) (args : Values) (made : List Event) → runs t ≡ true → p.terms.pure t ≡ true → PlainBegins p w n t args made → made ≡ []
