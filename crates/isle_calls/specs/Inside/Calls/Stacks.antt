-- The frames of calls that wait, one for the other.
use Rattle.std.specs.Prelude.{◌≡◌, ℕ, suc, List, [], ◌∷◌, ◌++◌}
use Rattle.isle_types.specs.declared.ids.TermId.{TermId}
use Rattle.isle_meaning.specs.Outcomes.{Outcome}
use Rattle.isle_meaning.specs.Values.{Value}
use Rattle.isle_meaning.specs.Worlds.{Event}
use Rattle.isle_calls.specs.declared.frames.Next.{Next}
use Rattle.isle_calls.specs.declared.frames.Next.TheVariants.{Runs, Answers as AnswersCall}
use Rattle.isle_calls.specs.declared.store.Stored.{Stored}
use Rattle.isle_calls.specs.Calls.Answers.{TellsOutcome}
use Rattle.isle_calls.specs.Calls.Open.{CallOf, call_below}
use Rattle.isle_calls.specs.Calls.Ways.{Way, Comes}

-- frames that wait, that of the innermost call first, each for the call before it: this call began after these effects of the first
abbrev pub AreStacked : {F : Type 0} → Way F → CallOf → List Stored → List F → CallOf → List Event → Type 0
AreStacked way goal stored [] k start = (k ≡ goal) × (start ≡ [])
AreStacked way goal stored (frame ∷ frames) k start =
    (j : CallOf) × (before : List Event) × (since : List Event) × (term : TermId) × (j.depth ≡ suc k.depth) × (k ≡ call_below j k.depth term.0 k.args)
    × way.is_waiting j stored frame since term k.args × (start ≡ before ++ since) × AreStacked way goal stored frames j before

-- the number of steps that the first call has taken, where this many were taken by the innermost
abbrev pub first_steps : {F : Type 0} → Way F → List F → ℕ → ℕ
first_steps way [] steps = steps
first_steps way (frame ∷ frames) steps = first_steps way frames (way.steps_of frame)

-- what follows when the innermost call has come to something, after these effects of the first call: a frame that runs, or the answer
abbrev pub GoesOn : {F : Type 0} → Way F → CallOf → List Stored → List F → List Event → Next F → Type 0
GoesOn way goal stored frames made (Runs frame) =
    (k : CallOf) × (start : List Event) × (since : List Event) × AreStacked way goal stored frames k start × way.is_frame k stored frame since
    × (made ≡ start ++ since)
GoesOn way goal stored frames made (AnswersCall called) =
    (r : Outcome Value) × TellsOutcome goal.program goal.term called.answer r × Comes way goal called.steps made r
