-- The call that a rule waits for is answered, or comes to no value.
use Rattle.isle_meaning.specs.PlainBeginnings.{ImpureBegins}
use Rattle.std.proofs.Common.{◌≡◌, ◌++◌, ◌<◌, ◌≤◌, ◌⊎◌, inl, inr, ℕ, zero, suc, true, Bool, List, [], ◌∷◌, Some, None, length, slice_get}
use Rattle.std.proofs.Common.{drop, refl, sym, ◌∙◌, ap, subst, arith, append_assoc}
use Rattle.std.proofs.lemmas.List.{append-nil, length-set}
use Rattle.std.specs.Prelude.{All}
use Rattle.std.proofs.lemmas.List.Elements.{All-pop}
use Rattle.isle_types.specs.declared.ids.TermId.{TermId}
use Rattle.isle_meaning.specs.Values.{Value, Values}
use Rattle.isle_meaning.specs.GroundValues.{IsValueOf}
use Rattle.isle_meaning.specs.Words.{Word, call_word, Words, Step}
use Rattle.isle_meaning.specs.Worlds.{CheckedProgram, Event}
use Rattle.isle_calls.specs.declared.plain.evaluation.Evaluation.{Evaluation}
use Rattle.isle_calls.specs.declared.store.Stored.{Stored}
use Rattle.isle_program.specs.Plain.LaidOut.Words.{IsLaid}
use Rattle.isle_program.specs.Meanings.{checked, may_run}
use Rattle.isle_meaning.specs.Outcomes.{Outcome, given, missing, ended, Then, EffectsIf}
use Rattle.isle_program.specs.Programs.{types_of}
use Rattle.isle_calls.specs.Stores.Values.{Stands}
use Rattle.isle_meaning.specs.Inside.TypedWords.{IsTypedWord, IsTypedStep}
use Rattle.isle_calls.specs.Inside.Plain.Underway.{Surroundings, Stops, HasTypedValue, IsPart, ComesTo, AllComeTo, IsKnown, IsAnswered}
use Rattle.isle_calls.specs.Inside.Plain.Underway.{known_at, runs_below, WaitsFor}
use Rattle.isle_calls.specs.Inside.Plain.Asked.{IsAskedFor}
use Rattle.isle_calls.specs.Inside.Plain.Frames.{CallComes, below_call, ImpureComes, RuleTried, right_steps, right_word, StepsCome, RightComes, AwaitedBegins, RuleBegins, StepsBegin, begins_below}
use Rattle.isle_calls.specs.Inside.Plain.Frames.{IsTried, Progress, later, around_condition, condition_word, IsAtIfLet, RightSoFar, around_right}
use Rattle.isle_calls.specs.Inside.Plain.Frames.{IsAtRight, root_at, Awaited, AwaitedRuns, AwaitedComes, WaitsAtIfLet, WaitsAtRight}
use Rattle.isle_calls.proofs.Stores.Values.{extends_same}
use Rattle.isle_meaning.proofs.Calls.Outcomes.{one_longer}
use Rattle.isle_meaning.proofs.Calls.RuleGiving.{answers_append, step_gives_typed}
use Rattle.isle_calls.proofs.PlainRoad.Evaluations.Going.{answered_pure, stopped_pure, answered_impure, waits_known, waits_top, resting}
use Rattle.isle_calls.proofs.PlainRoad.Evaluations.Turns.{put_known, known_still}
use Rattle.isle_meaning.proofs.Calls.Effectless.{pure_makes_nothing}
use Rattle.isle_program.proofs.SoundPrograms.Known.{sound_of}
use Rattle.isle_calls.proofs.PlainRoad.Frames.Rules.{right_comes}
use Rattle.isle_calls.proofs.PlainRoad.Frames.Begun.{below_gives_typed}
use Rattle.isle_calls.proofs.PlainRoad.Frames.Steps.{drop_there, word_there, there_within, within_there, index_there, step_typed, step_laid}
use Rattle.isle_calls.proofs.PlainRoad.Frames.Evaluated.{condition_later, right_root, right_stopped, right_later}

-- a number is less than another, or it isn't
pub less_or : (n i : ℕ) → (n < i) ⊎ (i ≤ n)
less_or n zero = inr (omega arith)
less_or zero (suc i) = inl (omega arith)
less_or (suc n) (suc i) = elim (less_or n i) [ inl h ↦ inl (omega (arith, h)) | inr h ↦ inr (omega (arith, h)) ]

-- the part on top is the one that was asked for, alone, or stands before it
pub top_asked : (root part : ℕ) (e : Evaluation) (before : List ℕ) → IsAskedFor root e → e.todo.items ≡ before ++ part ∷ []
    → ((part ≡ root) × (before ≡ [])) ⊎ ((part < root) × ((others : List ℕ) × (before ≡ root ∷ others) × All (λ k. k < root) others))
top_asked root part e [] (inl (empty, known)) top = absurd (let q : [] ≡ part ∷ [] = sym empty ∙ top in cc)
top_asked root part e (x ∷ before) (inl (empty, known)) top = absurd (let q : [] ≡ x ∷ before ++ part ∷ [] = sym empty ∙ top in cc)
top_asked root part e [] (inr (others, first, below)) top = let q : root ∷ others ≡ part ∷ [] = sym first ∙ top in inl (cc, refl)
top_asked root part e (x ∷ before) (inr (others, first, below)) top =
    let q : root ∷ others ≡ x ∷ (before ++ part ∷ []) = sym first ∙ top in
    let rest : others ≡ before ++ part ∷ [] = cc in
    let same : x ≡ root = cc in
    let popped = All-pop (λ (k : ℕ). k < root) others before (Some part) rest below in
    inr (popped.1, (before, ap (λ (y : ℕ). y ∷ before) same, popped.0))

-- once the call on top is answered the part is still asked for
pub asked_answered : (root part number : ℕ) (e after : Evaluation) (before : List ℕ) (top : e.todo.items ≡ before ++ part ∷ [])
    → part < length e.known.items → IsAnswered e number after → IsAskedFor root e → IsAskedFor root after
asked_answered root part number e after before top within answered asked = elim (top_asked root part e before asked top) [
  | inl (same, alone) ↦ inl (
    answered.taken before part top ∙ alone,
    (
      number,
      subst (λ (k : ℕ). known_at after k ≡ Some number) same
          (put_known e after number part (record { before = before; joined = top }) answered within),
    ),
  )
  | inr (less, (others, first, below)) ↦ inr (others, answered.taken before part top ∙ first, below)
]

-- effects of a term with rules are those of a call one depth lower
pub below_of : (t : RuleTried) (call : Awaited) (effects : List Event) (r : Outcome Value)
    → (checked t.call.program).has_rules call.term.0 ≡ true → AwaitedComes t call effects r → AwaitedRuns t call effects r
below_of t call effects r ruled run =
    subst (λ (b : Bool). EffectsIf (checked t.call.program) (below_call t.call) b call.term.0 call.args effects r) ruled run

-- a typed call of number 0 is one of a pure term that can be run
pub pure_call : (p : CheckedProgram) (R S : ℕ → Type 0) (G D : ℕ → ℕ) (t : ℕ) (ws : Words) (place u : ℕ) → place ≡ zero
    → IsTypedWord p R S G D (call_word t ws place) u → (p.terms.pure t ≡ true) × (p.has_rules t ≡ true → R t)
pure_call p R S G D t ws zero u e h = (h.4, h.1)
pure_call p R S G D t ws (suc i) u e h = absurd (omega (arith, e))

-- a pure call that is waited for makes no effects
pub makes_nothing : {z : Surroundings} {stored : List Stored} {e : Evaluation} {term : TermId} {numbers : List ℕ} {args : Values}
    (waits : WaitsFor z stored e term numbers args) → waits.place ≡ zero → (effects : List Event) (r : Outcome Value)
    → runs_below (checked z.program) z.answers z.depth term.0 args effects r → effects ≡ []
makes_nothing {z = z} {term = term} {args = args} waits zeroth effects r (tried, run) =
    let (pure, may) = pure_call (checked z.program) (may_run z.program) _ _ _ term.0 waits.words waits.place waits.type zeroth waits.call.1 in
    pure_makes_nothing (checked z.program) z.answers (may_run z.program) (sound_of z.program).sound z.depth term.0 args tried effects r pure
    (may (waits.ruled zeroth)) run

module _ {t : RuleTried} {is : IsTried t} {s : Progress} {place : ℕ} {call : Awaited} (w : WaitsAtIfLet t is s place call) where
  -- a condition waits for pure calls
  pub condition_pure : w.waits.place ≡ zero
  condition_pure = go w.waits.place refl
    where
      go : (j : ℕ) → w.waits.place ≡ j → w.waits.place ≡ zero
      go zero zeroth = zeroth
      go (suc i) later =
          let (of, ns, there, same, each) = subst (λ (j : ℕ). IsLaid (types_of t.call.program).names w.at.condition.expr.parts.items
          (call_word call.term.0 w.waits.words j) w.waits.part) later w.waits.call.0 in
          absurd (w.at.condition.pure w.waits.part i of ns there)

  -- which make no effects
  pub condition_makes_nothing : (effects : List Event) (r : Outcome Value) → AwaitedRuns t call effects r
      → effects ≡ []
  condition_makes_nothing effects r run = makes_nothing w.waits condition_pure effects r run

  -- and goes on once one is answered
  pub condition_answered : (after : Evaluation) (number : ℕ) (v : Value) (effects : List Event) → IsAnswered s.evaluation number after
      → Stands s.stored v number → AwaitedRuns t call effects (given v) → IsAtIfLet t is (later s s.stored after) place
  condition_answered after number v effects answered stands run =
      let none : effects ≡ [] = condition_makes_nothing effects (given v) run in
      condition_later w.at (extends_same s.stored) after
      (answered_pure w.waits _ v number after w.at.underway condition_pure
      (subst (λ (l : List Event). AwaitedRuns t call l (given v)) none run) stands answered)
      (asked_answered w.at.condition.expr.result w.waits.part number s.evaluation after w.waits.before w.waits.top
      (waits_known w.waits w.at.underway) answered w.at.asked) answered.missed

  -- where one comes to no value, so does the condition's expression
  pub condition_unanswered : (r : Outcome Value) (effects : List Event) → Stops r → AwaitedRuns t call effects r
      → ComesTo (around_condition w.at.condition) (condition_word w.at.condition) r
  condition_unanswered r effects stops run = stopped_pure w.waits _ r w.at.underway condition_pure stops
      (subst (λ (l : List Event). AwaitedRuns t call l r) (condition_makes_nothing effects r run) run)

-- the impure call that a right side waits for is that of its place
pub record IsStepHere (t : RuleTried) (is : IsTried t) (s : Progress) (place : ℕ) (since : List Event) (call : Awaited)
    (w : WaitsAtRight t is s place since call) : Type 0 where
  pub step : Step
  pub there : slice_get (right_steps t) place ≡ Some step
  pub of_term : call.term.0 ≡ step.term
  pub ran : AllComeTo (around_right w.at.right) step.args (given call.args)
  pub none_done : length w.at.right.done ≡ place
  pub alone : w.waits.before ≡ []
  pub listed : slice_get t.laid.right.calls.items place ≡ Some w.waits.part
  pub typed : IsTypedStep (checked t.call.program) (may_run t.call.program) (HasTypedValue (around_right w.at.right)) is.sound.var_types
      w.at.right.answer_types step
  pub at_place : step.place ≡ place

module _ {t : RuleTried} {is : IsTried t} {s : Progress} {place : ℕ} {since : List Event} {call : Awaited}
    (w : WaitsAtRight t is s place since call) where
  -- a right side goes on once a pure call is answered
  pub right_answered_pure : (after : Evaluation) (number : ℕ) (v : Value) → w.waits.place ≡ zero → IsAnswered s.evaluation number after
      → Stands s.stored v number → AwaitedRuns t call [] (given v) → IsAtRight t is (later s s.stored after) place since
  right_answered_pure after number v zeroth answered stands run = right_later w.at (extends_same s.stored) after
      (answered_pure w.waits _ v number after w.at.underway zeroth run stands answered)
      (known_still s.evaluation after number w.waits.part (waits_top w.waits) answered (waits_known w.waits w.at.underway))
      (asked_answered (root_at t.laid.right place) w.waits.part number s.evaluation after w.waits.before w.waits.top
      (waits_known w.waits w.at.underway) answered w.at.asked) answered.missed

  -- where a pure call comes to no value, so does the rule's call
  pub right_unanswered_pure : (r : Outcome Value) → w.waits.place ≡ zero → Stops r → AwaitedRuns t call [] r
      → CallComes t.call t.tried since r
  right_unanswered_pure r zeroth stops run =
      right_stopped w.at.right r stops (stopped_pure w.waits _ r w.at.underway zeroth stops run)

  part_listed : (i : ℕ) → w.waits.place ≡ suc i → slice_get t.laid.right.calls.items i ≡ Some w.waits.part
  part_listed i impure =
      let (of, ns, there, same, each) = subst (λ (j : ℕ). IsLaid (types_of t.call.program).names t.laid.right.parts.items
      (call_word call.term.0 w.waits.words j) w.waits.part) impure w.waits.call.0 in
      is.laid_out.right.once w.waits.part i of ns there

  not_done : (i : ℕ) → w.waits.place ≡ suc i → length w.at.right.done ≤ i
  not_done i impure = elim (less_or i (length w.at.right.done)) [
    | inl less ↦ (let (m, known) = w.at.known i w.waits.part less (part_listed i impure) in
        absurd (let q : None ≡ Some m = sym w.waits.unknown ∙ known in cc))
    | inr more ↦ more
  ]

  place_done : place ≤ length w.at.right.done
  place_done = elim w.at.stage [
    | inl e ↦ omega (arith, e)
    | inr h ↦ (let e : length w.at.right.done ≡ suc place = h.0 in omega (arith, e))
  ]

  root_asked : ((w.waits.part ≡ root_at t.laid.right place) × (w.waits.before ≡ [])) ⊎ (w.waits.part < root_at t.laid.right place)
  root_asked = elim (top_asked (root_at t.laid.right place) w.waits.part s.evaluation w.waits.before w.at.asked w.waits.top) [
    | inl h ↦ inl h
    | inr h ↦ inr (h.0)
  ]

  not_past : w.waits.part ≤ root_at t.laid.right place
  not_past = elim root_asked [
    | inl h ↦ (let same : w.waits.part ≡ root_at t.laid.right place = h.0 in omega (arith, same))
    | inr less ↦ omega (arith, less)
  ]

  here : (i : ℕ) → w.waits.place ≡ suc i → i ≡ place
  here i impure = elim (less_or place i) [
    | inl less ↦ (let within = within_there t.laid.right.calls.items i w.waits.part (part_listed i impure) in
        let (c, first) = there_within t.laid.right.calls.items place (omega (arith, less, within)) in
        let up : c < w.waits.part = is.laid_out.right.ascending place i c w.waits.part less first (part_listed i impure) in
        let root : root_at t.laid.right place ≡ c = index_there t.laid.right.calls.items place t.laid.right.result c first in
        absurd (omega (arith, up, root, not_past)))
    | inr more ↦ omega (arith, more, place_done, not_done i impure)
  ]

  -- the step that it waits for
  pub step_here : (i : ℕ) → w.waits.place ≡ suc i → IsStepHere t is s place since call w
  step_here i impure =
      let at_i : i ≡ place = here i impure in
      let listed : slice_get t.laid.right.calls.items place ≡ Some w.waits.part =
      subst (λ (j : ℕ). slice_get t.laid.right.calls.items j ≡ Some w.waits.part) at_i (part_listed i impure) in
      let root : root_at t.laid.right place ≡ w.waits.part =
      index_there t.laid.right.calls.items place t.laid.right.result w.waits.part listed in
      let (step, there, laid_there) = step_laid (types_of t.call.program).names t.laid.right.parts.items (right_steps t)
      t.laid.right.calls.items place w.waits.part is.laid_out.right.steps listed in
      let (u, part) = right_root w.at.right place in
      let word = word_there (right_steps t) (right_word t) place step there in
      let its : IsPart (around_right w.at.right) (call_word step.term step.args (suc step.place)) u w.waits.part =
      subst (λ (n : ℕ). IsPart (around_right w.at.right) (call_word step.term step.args (suc step.place)) u n) root
      (subst (λ (x : Word). IsPart (around_right w.at.right) x u (root_at t.laid.right place)) word part) in
      let (xs, same, ran) = w.waits.same (call_word step.term step.args (suc step.place)) u its in
      let args_same : xs ≡ step.args = cc in
      let (placed, typed) = step_typed (checked t.call.program) (may_run t.call.program) (HasTypedValue (around_right w.at.right))
      is.sound.var_types w.at.right.answer_types 0 (right_steps t) place step w.at.right.steps_typed there in
      record {
        step = step;
        there = there;
        of_term = cc;
        ran = subst (λ (ws : Words). AllComeTo (around_right w.at.right) ws (given call.args)) args_same ran;
        none_done = (let d = not_done i impure in omega (arith, d, place_done, at_i));
        alone = elim root_asked [ inl h ↦ h.1 | inr less ↦ absurd (omega (arith, less, root)) ];
        listed = listed;
        typed = typed;
        at_place = omega (arith, placed);
      }

  -- the impure calls that are left: this one first
  steps_left : (i : ℕ) (impure : w.waits.place ≡ suc i) → drop (length w.at.right.done) (right_steps t)
      ≡ (step_here i impure).step ∷ drop (suc place) (right_steps t)
  steps_left i impure = let h = step_here i impure in
      ap (λ (n : ℕ). drop n (right_steps t)) h.none_done ∙ drop_there (right_steps t) place h.step h.there

  -- the right side begins with this call
  pub right_begins_here : (i : ℕ) → w.waits.place ≡ suc i → (made : List Event) → AwaitedBegins t call made
      → RuleBegins t w.at.right.a (since ++ made)
  right_begins_here i impure made begun =
      let h = step_here i impure in
      let its = subst (λ (n : ℕ). ImpureBegins (checked t.call.program) (begins_below t.call) n call.args made) h.of_term begun in
      w.at.right.begins made (subst (λ (steps : List Step). StepsBegin t w.at.right.a w.at.right.done steps made) (sym (steps_left i impure))
      (inr (call.args, h.ran, inl its)))

  module _ (i : ℕ) (impure : w.waits.place ≡ suc i) (effects : List Event) where
    -- what the right side does from this call on it does in the whole
    right_from_here : (b r : Outcome Value) (rest : List Event) → AwaitedComes t call effects b
        → Then b (λ v. StepsCome t w.at.right.a (w.at.right.done ++ Some v ∷ []) (drop (suc place) (right_steps t))) rest r
        → RightComes t w.at.right.a ((since ++ effects) ++ rest) r
    right_from_here b r rest made next =
        let h = step_here i impure in
        let left = steps_left i impure in
        let its = subst (λ (n : ℕ). ImpureComes t.call n call.args effects b) h.of_term made in
        let run : StepsCome t w.at.right.a w.at.right.done (h.step ∷ drop (suc place) (right_steps t)) (effects ++ rest) r =
        (given call.args, h.ran, (effects, rest, b, refl, its, next)) in
        subst (λ (trace : List Event). RightComes t w.at.right.a trace r) (sym (append_assoc since effects rest))
        (w.at.right.onward (effects ++ rest) r
        (subst (λ (steps : List Step). StepsCome t w.at.right.a w.at.right.done steps (effects ++ rest) r) (sym left) run))

    -- once the call is answered, the right side begins with what follows
    begins_from_here : (v : Value) (rest : List Event) → AwaitedComes t call effects (given v)
        → StepsBegin t w.at.right.a (w.at.right.done ++ Some v ∷ []) (drop (suc place) (right_steps t)) rest
        → RuleBegins t w.at.right.a ((since ++ effects) ++ rest)
    begins_from_here v rest made next =
        let h = step_here i impure in
        let its = subst (λ (n : ℕ). ImpureComes t.call n call.args effects (given v)) h.of_term made in
        let begun : StepsBegin t w.at.right.a w.at.right.done (h.step ∷ drop (suc place) (right_steps t)) (effects ++ rest) =
        inr (call.args, h.ran, inr (effects, rest, v, refl, its, next)) in
        subst (λ (trace : List Event). RuleBegins t w.at.right.a trace) (sym (append_assoc since effects rest))
        (w.at.right.begins (effects ++ rest)
        (subst (λ (steps : List Step). StepsBegin t w.at.right.a w.at.right.done steps (effects ++ rest)) (sym (steps_left i impure)) begun))

    -- where the call comes to no value, so does the rule's call
    pub right_unanswered : (b : Outcome Value) → Stops b → AwaitedComes t call effects b
        → CallComes t.call t.tried (since ++ effects) b
    right_unanswered b stops made = right_comes is w.at.right.a (since ++ effects) b w.at.right.chosen
        (subst (λ (trace : List Event). RightComes t w.at.right.a trace b) (append-nil (since ++ effects))
        (right_from_here b b [] made (ends b stops)))
      where
        ends : (b : Outcome Value) → Stops b
            → Then b (λ v. StepsCome t w.at.right.a (w.at.right.done ++ Some v ∷ []) (drop (suc place) (right_steps t))) [] b
        ends (given v) stops = absurd stops
        ends missing stops = (refl, refl)
        ends (ended x) stops = (refl, refl)

    answer_typed : (v : Value) → AwaitedComes t call effects (given v)
        → IsValueOf (checked t.call.program).values v (w.at.right.answer_types (length w.at.right.done))
    answer_typed v made =
        let h = step_here i impure in
        let its = subst (λ (n : ℕ). ImpureComes t.call n call.args effects (given v)) h.of_term made in
        subst (λ (j : ℕ). IsValueOf (checked t.call.program).values v (w.at.right.answer_types j)) (h.at_place ∙ sym h.none_done)
        (step_gives_typed (checked t.call.program) t.call.answers (may_run t.call.program) (sound_of t.call.program).sound.data_sound
        (below_call t.call) (below_gives_typed t.call) (HasTypedValue (around_right w.at.right)) is.sound.var_types
        w.at.right.answer_types w.at.right.a (λ j typed. typed) h.step w.at.right.done call.args effects v h.typed w.at.right.typed h.ran its)

    longer : (v : Value) → length (w.at.right.done ++ Some v ∷ []) ≡ suc place
    longer v = one_longer w.at.right.done (Some v) ∙ ap suc (step_here i impure).none_done

    -- the right side once the call is answered
    abbrev more_so_far : (v : Value) → AwaitedComes t call effects (given v) → RightSoFar t is (since ++ effects)
    more_so_far v made = record {
      a = w.at.right.a;
      chosen = w.at.right.chosen;
      answer_types = w.at.right.answer_types;
      done = w.at.right.done ++ Some v ∷ [];
      steps_typed = w.at.right.steps_typed;
      type = w.at.right.type;
      result = w.at.right.result;
      typed = answers_append (checked t.call.program) w.at.right.answer_types w.at.right.done v w.at.right.typed (answer_typed v made);
      onward = λ rest r run. right_from_here (given v) r rest made (subst (λ (n : ℕ). StepsCome t w.at.right.a
          (w.at.right.done ++ Some v ∷ []) (drop n (right_steps t)) rest r) (longer v) run);
      begins = λ rest begun. begins_from_here v rest made (subst (λ (n : ℕ). StepsBegin t w.at.right.a
          (w.at.right.done ++ Some v ∷ []) (drop n (right_steps t)) rest) (longer v) begun);
    }

    -- once it is answered the right side goes on
    pub right_answered : (after : Evaluation) (number : ℕ) (v : Value) → IsAnswered s.evaluation number after → Stands s.stored v number
        → AwaitedComes t call effects (given v) → IsAtRight t is (later s s.stored after) place (since ++ effects)
    right_answered after number v answered stands made =
        let h = step_here i impure in
        let right = answered_impure w.waits v number after w.at.underway.right w.at.underway.sized
        (impure ∙ ap suc (here i impure ∙ sym h.none_done)) stands answered in
        let empty : after.todo.items ≡ [] = answered.taken w.waits.before w.waits.part w.waits.top ∙ h.alone in
        let sized : length after.known.items ≡ length t.laid.right.parts.items =
        ap length (answered.put w.waits.before w.waits.part w.waits.top) ∙ length-set s.evaluation.known.items w.waits.part (Some number)
        ∙ w.at.underway.sized in
        record {
          right = more_so_far v made;
          hold = w.at.hold;
          stage = inr (longer v, within_there t.laid.right.calls.items place w.waits.part h.listed);
          known = λ j n less there. still j n (less_or j (length w.at.right.done)) (subst (λ (l : ℕ). j < l) (longer v) less) there;
          asked = asked_answered (root_at t.laid.right place) w.waits.part number s.evaluation after w.waits.before w.waits.top within answered
              w.at.asked;
          missed = answered.missed ∙ w.at.missed;
          underway = resting (around_right (more_so_far v made)) s.stored _ after right sized (answered.missed ∙ w.at.missed) empty;
        }
      where
        within : w.waits.part < length s.evaluation.known.items
        within = waits_known w.waits w.at.underway

        still : (j n : ℕ) → (j < length w.at.right.done) ⊎ (length w.at.right.done ≤ j) → j < suc place
            → slice_get t.laid.right.calls.items j ≡ Some n → IsKnown after n
        still j n (inl less) upto there = known_still s.evaluation after number w.waits.part (waits_top w.waits) answered within n
            (w.at.known j n less there)
        still j n (inr more) upto there =
            let h = step_here i impure in
            let none_done : length w.at.right.done ≡ place = h.none_done in
            let same : j ≡ place = omega (arith, more, upto, none_done) in
            let part : n ≡ w.waits.part = (let q = subst (λ (l : ℕ). slice_get t.laid.right.calls.items l ≡ Some n) same there in
            let o = h.listed in cc) in
            subst (λ (m : ℕ). IsKnown after m) (sym part) (
              number,
              put_known s.evaluation after number w.waits.part (waits_top w.waits)
                  answered within,
            )
