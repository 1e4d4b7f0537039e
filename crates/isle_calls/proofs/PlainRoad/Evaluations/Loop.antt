-- What a step, a turn and the loop over turns tell of an evaluation.
use Rattle.std.proofs.Common.{◌≡◌, inl, inr, ◌<◌, ℕ, List, [], ◌∷◌, ◌++◌, length, Some, None, slice_get, ◌∙◌, ap, subst, arith}
use Rattle.std.specs.Prelude.{Contains}
use Rattle.std.proofs.lemmas.List.Elements.{All-pop}
use Rattle.isle_types.specs.declared.ids.TermId.{TermId}
use Rattle.isle_meaning.specs.Values.{Values}
use Rattle.isle_meaning.specs.Words.{Word}
use Rattle.isle_meaning.specs.Worlds.{Answers}
use Rattle.isle_calls.specs.declared.plain.evaluation.Evaluation.{Evaluation}
use Rattle.isle_calls.specs.declared.plain.evaluation.Evaluated.{Evaluated}
use Rattle.isle_calls.specs.declared.plain.evaluation.Step.{Step}
use Rattle.isle_calls.specs.declared.plain.evaluation.Step.TheVariants.{Is, After, Missing as Misses, IllTyped as Refused, Waits as Awaits}
use Rattle.isle_calls.specs.declared.plain.evaluation.Evaluated.TheVariants.{Done, Missing, IllTyped, Waits}
use Rattle.isle_program.specs.declared.laid.Part.{Part}
use Rattle.isle_program.specs.declared.program.Program.{Program}
use Rattle.isle_calls.specs.declared.store.Stored.{Stored}
use Rattle.isle_calls.specs.declared.plain.variables.Variables.{Variables}
use Rattle.isle_program.specs.Programs.{types_of}
use Rattle.isle_program.specs.Plain.LaidOut.Words.{made_of}
use Rattle.isle_meaning.specs.Outcomes.{missing}
use Rattle.isle_calls.specs.Stores.Values.{Extends}
use Rattle.isle_calls.specs.Inside.Plain.Fitting.{HoldVariables, number_of_variable}
use Rattle.isle_calls.specs.Inside.Plain.Underway.{Surroundings, known_at, HasValueAt, LeadsToWhole, IsUnderway, WaitsFor, Tells, AreAround}
use Rattle.isle_calls.specs.Inside.Plain.Underway.{IsKnown, first_unknown, IsAnswered, IsTop, Remains, IsLater, HasTakenOff, IsCallAt, Comes}
use Rattle.isle_calls.specs.Inside.Plain.Underway.{IsLastStep, IsStepOf, StepTells, HasMoved, GoesOn, AreAllKnown}
use Rattle.isle_calls.proofs.Stores.Values.{stands_longer, extends_same, extends_again}
use Rattle.isle_calls.proofs.PlainRoad.Evaluations.Parts.{underway_longer, open_leads}
use Rattle.isle_calls.proofs.PlainRoad.Evaluations.Turns.{settled_underway, asked_underway, answered_underway, settled_later, later_again}
use Rattle.isle_calls.proofs.PlainRoad.Evaluations.Going.{laid_within}

-- the variables have their numbers in a larger store too
pub variables_longer : {old new : List Stored} → Extends old new → (variables : Variables) (s : Surroundings)
    → HoldVariables old variables s.variables → HoldVariables new variables s.variables
variables_longer extends variables s hold k = stands_longer extends (s.variables k) (number_of_variable variables k) (hold k)

module _ (s : Surroundings) (stored : List Stored) (whole : Word) (e : Evaluation) (h : IsUnderway s stored whole e) where
  -- where no value comes of the part on top, none comes of the whole
  pub top_leads : (place : ℕ) → IsTop e place → LeadsToWhole s whole place
  top_leads place top = (All-pop (LeadsToWhole s whole) e.todo.items top.before (Some place) top.joined h.leads).1

  -- the part on top is one
  pub top_is_part : (place : ℕ) → IsTop e place → place < length s.parts
  top_is_part place top =
      let (x, u, part, leads) = top_leads place top in laid_within (types_of s.program).names s.parts x place (part.0)

  -- another part has to be evaluated before
  pub step_after : (part : Part) (place m : ℕ) → IsTop e place → slice_get s.parts place ≡ Some part
      → first_unknown e (made_of part) ≡ Some m → LeadsToWhole s whole m
  step_after part place m top there found = open_leads s stored e h.right whole part place m there found (top_leads place top)

  -- what the part on top comes to
  pub step_comes : (new : List Stored) (place : ℕ) (step : Step) → IsTop e place → IsLastStep step → Comes s new place step
      → StepTells s new whole place step
  step_comes new place (Is n) top last comes = comes
  step_comes new place (After m) top last comes = absurd last
  step_comes new place Misses top last comes = let (x, u, part, leads) = top_leads place top in leads missing tt (comes x u part)
  step_comes new place (Refused term args) top last comes =
      let (x, u, part, leads) = top_leads place top in
      let (vs, called, runs) = comes x u part in
      (vs, called, leads _ tt runs)
  step_comes new place (Awaits term numbers) top last comes = let (x, u, part, leads) = top_leads place top in comes x u part

  -- the part on top has its value
  pub turn_is : (new : List Stored) (mid last : Evaluation) (number top : ℕ) → Extends stored new → IsTop e top
      → top < length e.known.items → IsAnswered e number mid → HasTakenOff mid last → HasValueAt s new top number
      → IsUnderway s new whole last
  turn_is new mid last number top extends it within answered settled value =
      settled_underway s new whole mid last settled
      (answered_underway e mid number top it answered within s new whole value (underway_longer s extends whole e h))

  -- another part is asked for before
  pub turn_after : (new : List Stored) (last : Evaluation) (part : ℕ) → Extends stored new → last.todo.items ≡ e.todo.items ++ part ∷ []
      → last.known ≡ e.known → last.missed ≡ e.missed → LeadsToWhole s whole part → IsUnderway s new whole last
  turn_after new last part extends joined known missed leads =
      asked_underway s new whole e last part joined known missed leads (underway_longer s extends whole e h)

  -- the part on top is a call that has to be answered
  pub turn_waits : (new : List Stored) (top : ℕ) (term : TermId) (numbers : List ℕ) → Extends stored new → IsTop e top
      → known_at e top ≡ None → IsCallAt s new top term numbers
      → (args : Values) × IsUnderway s new whole e × WaitsFor s new e term numbers args
  turn_waits new top term numbers extends it unknown call = (
    call.args,
    underway_longer s extends whole e h,
    record {
      before = it.before;
      part = top;
      top = it.joined;
      unknown = unknown;
      words = call.words;
      place = call.place;
      type = call.type;
      call = call.call;
      ran = call.ran;
      stand = call.stand;
      typed = call.typed;
      ruled = call.ruled;
      same = call.same;
    },
  )

-- a last step at a part
pub last_step : (e : Evaluation) (parts : List Part) (place : ℕ) (step : Step) → place < length parts → IsLastStep step
    → IsStepOf e parts place step
last_step e parts place (Is n) within last = within
last_step e parts place (After m) within last = absurd last
last_step e parts place Misses within last = tt
last_step e parts place (Refused term args) within last = tt
last_step e parts place (Awaits term numbers) within last = tt

-- what was underway over a store still is over the store as it has grown
pub record IsStillUnderway (program : Program) (answers : Answers) (parts : List Part) (variables : Variables) (first : List Stored)
    (old : Evaluation) (stored : List Stored) (e : Evaluation) : Type 0 where
  pub grown : Extends first stored
  pub sized : length e.known.items ≡ length parts
  pub later : IsLater old e
  pub open_top : (part : ℕ) → IsTop e part → known_at e part ≡ None
  pub underway : (s : Surroundings) (whole : Word) → AreAround program answers parts s → HoldVariables first variables s.variables
      → IsUnderway s first whole old → IsUnderway s stored whole e

module _ (program : Program) (answers : Answers) (parts : List Part) (variables : Variables) (first : List Stored) (old : Evaluation) where
  -- it is at first
  pub still_first : (e : Evaluation) → length old.known.items ≡ length parts → HasTakenOff old e
      → IsStillUnderway program answers parts variables first old first e
  still_first e sized settled = record {
    grown = extends_same first;
    sized = ap (λ v. length v.items) settled.known ∙ sized;
    later = settled_later old e settled;
    open_top = settled.open_top;
    underway = λ s whole around hold h. settled_underway s first whole old e settled h;
  }

  -- it is after one more turn
  pub still_next : (stored new : List Stored) (e next : Evaluation) → IsStillUnderway program answers parts variables first old stored e
      → Extends stored new → HasMoved e next
      → ((s : Surroundings) (whole : Word) → AreAround program answers parts s → HoldVariables stored variables s.variables
      → IsUnderway s stored whole e → IsUnderway s new whole next)
      → IsStillUnderway program answers parts variables first old new next
  still_next stored new e next still extends moved told = record {
    grown = extends_again still.grown extends;
    sized = moved.later.sized ∙ still.sized;
    later = later_again old e next still.later moved.later;
    open_top = moved.open_top;
    underway = λ s whole around hold h. told s whole around (variables_longer still.grown variables s hold)
        (still.underway s whole around hold h);
  }

  -- the last turn tells what all do
  pub still_tells : (stored new : List Stored) (e next : Evaluation) (told : Evaluated)
      → IsStillUnderway program answers parts variables first old stored e
      → ((s : Surroundings) (whole : Word) → AreAround program answers parts s → HoldVariables stored variables s.variables
      → IsUnderway s stored whole e → Tells s new whole next told)
      → (s : Surroundings) (whole : Word) → AreAround program answers parts s → HoldVariables first variables s.variables
      → IsUnderway s first whole old → Tells s new whole next told
  still_tells stored new e next told still tells s whole around hold h =
      tells s whole around (variables_longer still.grown variables s hold) (still.underway s whole around hold h)

-- a turn that ends leaves the parts' number as it is, and isn't done
pub ends_known : (old new next : Evaluation) (told : Evaluated) → GoesOn new next (Some told) → AreAllKnown old next told
ends_known old new next Done moved = absurd moved
ends_known old new next Missing moved = tt
ends_known old new next (IllTyped term args) moved = tt
ends_known old new next (Waits term numbers) moved = tt

pub ends_same : (old next : Evaluation) (told : Evaluated) → GoesOn old next (Some told) → next ≡ old
ends_same old next Done moved = absurd moved
ends_same old next Missing moved = moved
ends_same old next (IllTyped term args) moved = moved
ends_same old next (Waits term numbers) moved = moved

-- where nothing is to be evaluated any more, all that was has been
pub all_known : (old new : Evaluation) → Remains old new → new.todo.items ≡ [] → (k : ℕ) → Contains old.todo.items k → IsKnown new k
all_known old new remains empty k among = elim (remains k among) [
  | inl h ↦ absurd (none_there k (subst (λ (l : List ℕ). Contains l k) empty h))
  | inr h ↦ h
]
  where
    none_there : (j : ℕ) → Contains [] j → ⊥
    none_there j (i, within, is) = omega (arith, within)
