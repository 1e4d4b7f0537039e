-- What a right side that runs comes to is what it does under each completion that agrees.
use Rattle.std.proofs.Common.{◌≡◌, inl, inr, ℕ, suc, List, [], ◌∷◌, ◌++◌, length, Bool, true, false, Option, Some, None, refl, sym, ◌∙◌, ap, subst}
use Rattle.isle_meaning.specs.Got.{Got, unknown, fails, gives}
use Rattle.isle_meaning.specs.Values.{Value, Values}
use Rattle.isle_meaning.specs.GroundValues.{AreValuesOf, IsValueOf}
use Rattle.isle_meaning.specs.Words.{Word, Step}
use Rattle.isle_meaning.specs.Answers.{Completion}
use Rattle.isle_meaning.specs.Matching.{word_value, word_values}
use Rattle.isle_meaning.specs.Worlds.{CheckedProgram, Answers, AllowsValue, answer_value, Event}
use Rattle.isle_meaning.specs.RightSides.{IsFailure, IsValue, on_got, on_answer, Right}
use Rattle.isle_meaning.specs.Calls.{Says, Agrees, IsEffect, MakesIf, Makes}
use Rattle.isle_meaning.specs.Asking.{Asked}
use Rattle.isle_meaning.specs.Outcomes.{Outcome, given, missing, ended, outcome_of, Judged, Then, EffectsIf, ImpureRuns}
use Rattle.isle_meaning.specs.PlainRuns.{WordsRun, RightRuns}
use Rattle.isle_meaning.specs.SoundPrograms.{HasSoundData}
use Rattle.isle_meaning.specs.Inside.TypedWords.{IsTypedWord, AreTypedVariables, AreTypedAnswers, AreTypedSteps, GivesTyped}
use Rattle.isle_meaning.proofs.Calls.Outcomes.{one_longer}
use Rattle.isle_meaning.proofs.Calls.Giving.{words_give_typed_all}
use Rattle.isle_meaning.proofs.Calls.RuleGiving.{answers_append, step_gives_typed}
use Rattle.isle_meaning.proofs.Calls.Saying.{SaysOutcome, OutcomeMeans, GivesMeant, word_says, words_say}

-- a claim on answers, of an outcome that answers
abbrev pub IsAnswer : (Option Value → Type 0) → Outcome Value → Type 0
IsAnswer P (given v) = P (Some v)
IsAnswer P missing = P None
IsAnswer P (ended e) = Unit {0}

-- a claim that follows from another
pub answer_map : (P Q : Option Value → Type 0) (r : Outcome Value) → ((x : Option Value) → P x → Q x) → IsAnswer P r → IsAnswer Q r
answer_map P Q (given v) f h = f (Some v) h
answer_map P Q missing f h = f None h
answer_map P Q (ended e) f h = tt

on_gives : {A : Type 0} (g : Got A) (v : A) (F : Type 0) (P : A → Type 0) → Says g (gives v) → P v → on_got g F P
on_gives unknown v F P s h = tt
on_gives fails v F P s h = absurd (let q : fails ≡ gives v = s (λ e. cc) in cc)
on_gives (gives u) v F P s h = let q : gives u ≡ gives v = s (λ e. cc) in let r : v ≡ u = cc in subst P r h

on_fails : {A : Type 0} (g : Got A) (F : Type 0) (P : A → Type 0) → Says g fails → F → on_got g F P
on_fails unknown F P s h = tt
on_fails fails F P s h = h
on_fails (gives u) F P s h = absurd (let q : gives u ≡ fails = s (λ e. cc) in cc)

outcome_answers : (P : Option Value → Type 0) (x : Option Value) → P x → IsAnswer P (outcome_of x)
outcome_answers P None h = h
outcome_answers P (Some v) h = h

judged_answers : (P : Option Value → Type 0) (allowed : Type 0) (x : Option Value) (q : Asked) (r : Outcome Value) → (allowed → P x)
    → Judged allowed x q r → IsAnswer P r
judged_answers P allowed x q r f (inl h) = subst (IsAnswer P) (sym (h.1)) (outcome_answers P x (f (h.0)))
judged_answers P allowed x q r f (inr h) = subst (IsAnswer P) (sym (h.1)) tt

-- the result
result_answers : (g : Got Value) (trace : List Event) (r : Outcome Value) → trace ≡ [] → SaysOutcome g r
    → IsAnswer (λ x. on_got g (IsFailure trace x) (λ v. IsValue v trace x)) r
result_answers g trace (given v) e s = on_gives g v _ (λ u. IsValue u trace (Some v)) s (record { nothing = e; same = refl })
result_answers g trace missing e s = on_fails g _ (λ u. IsValue u trace None) s (record { nothing = e; none = refl })
result_answers g trace (ended q) e s = tt

-- what comes after arguments
args_answer : (g : Got Values) (o : Outcome Values) (next : Values → List Event → Outcome Value → Type 0) (trace : List Event)
    (r : Outcome Value) (P : Values → Option Value → Type 0) → SaysOutcome g o → Then o next trace r
    → ((vs : Values) → o ≡ given vs → next vs trace r → IsAnswer (P vs) r)
    → IsAnswer (λ x. on_got g (IsFailure trace x) (λ vs. P vs x)) r
args_answer g (given vs) next trace (given v) P s run k = on_gives g vs _ (λ us. P us (Some v)) s (k vs refl run)
args_answer g (given vs) next trace missing P s run k = on_gives g vs _ (λ us. P us None) s (k vs refl run)
args_answer g (given vs) next trace (ended e) P s run k = tt
args_answer g missing next trace r P s run k =
    subst (IsAnswer (λ x. on_got g (IsFailure trace x) (λ vs. P vs x))) (sym (run.1))
    (on_fails g _ (λ us. P us None) s (record { nothing = run.0; none = refl }))
args_answer g (ended e) next trace r P s run k =
    subst (IsAnswer (λ x. on_got g (IsFailure trace x) (λ vs. P vs x))) (sym (run.1)) tt

-- an impure call, and what comes after it
step_answers : (makes : List Event → Option Value → Type 0) (after : Option Value → List Event → Option Value → Type 0)
    (trace effects rest : List Event) (b r : Outcome Value) (next : Value → List Event → Outcome Value → Type 0)
    → trace ≡ effects ++ rest → IsAnswer (makes effects) b → Then b next rest r
    → ((v : Value) → b ≡ given v → next v rest r → IsAnswer (after (Some v) rest) r)
    → IsAnswer (λ x. (effects : List Event) × (rest : List Event) × (y : Option Value) × (trace ≡ effects ++ rest) × makes effects y
    × on_answer y (IsFailure rest x) (after y rest x)) r
step_answers makes after trace effects rest (given v) (given u) next e m run k = (effects, rest, Some v, e, m, k v refl run)
step_answers makes after trace effects rest (given v) missing next e m run k = (effects, rest, Some v, e, m, k v refl run)
step_answers makes after trace effects rest (given v) (ended q) next e m run k = tt
step_answers makes after trace effects rest missing r next e m run k =
    subst (IsAnswer (λ x. (effects : List Event) × (rest : List Event) × (y : Option Value) × (trace ≡ effects ++ rest) × makes effects y
    × on_answer y (IsFailure rest x) (after y rest x))) (sym (run.1)) (effects, rest, None, e, m, record { nothing = run.0; none = refl })
step_answers makes after trace effects rest (ended q) r next e m run k =
    subst (IsAnswer (λ x. (effects : List Event) × (rest : List Event) × (y : Option Value) × (trace ≡ effects ++ rest) × makes effects y
    × on_answer y (IsFailure rest x) (after y rest x))) (sym (run.1)) tt

module _ (p : CheckedProgram) (w : Answers) (R : ℕ → Type 0) (data_sound : HasSoundData p)
    (below : ℕ → Values → List Event → Outcome Value → Type 0) (gives_typed : GivesTyped p R below)
    (means : ℕ → Values → List Event → Option Value → Type 0) (meant : GivesMeant p R below means) where
  meant_answers : (t : ℕ) (vs : Values) (effects : List Event) (r : Outcome Value) → OutcomeMeans means t vs effects r
      → IsAnswer (means t vs effects) r
  meant_answers t vs effects (given v) h = h
  meant_answers t vs effects missing h = h
  meant_answers t vs effects (ended e) h = tt

  -- an impure call makes its effects, and is answered so
  pub impure_answers : (b : Bool) (t : ℕ) (vs : Values) (effects : List Event) (r : Outcome Value) → p.has_rules t ≡ b
      → (p.has_rules t ≡ true → R t) → AreValuesOf p.values vs (p.terms.inputs t) → EffectsIf p below b t vs effects r
      → IsAnswer (MakesIf p means b t vs effects) r
  impure_answers true t vs effects r e ruled h run = meant_answers t vs effects r (meant t vs effects r (ruled e) h run)
  impure_answers false t vs effects r e ruled h run =
      judged_answers (IsEffect p t vs effects) (AllowsValue p t (run.answer)) (answer_value p (run.answer)) _ r
      (λ o. record {
        args = run.args;
        typed = run.typed;
        stand = run.stand;
        answer = run.answer;
        alone = run.alone;
        allowed = o;
        gives_it = refl;
      }) (run.judged)

  module _ (c : Completion) (agrees : Agrees p w means c) (S : ℕ → Type 0) (G D : ℕ → ℕ) (a : ℕ → Value)
      (variables : AreTypedVariables p S G a) where
    -- a right side does what it does under the completion
    pub right_answers : (steps : List Step) (n : ℕ) (done : List (Option Value)) (result : Word) (u : ℕ) (trace : List Event)
        (r : Outcome Value) → n ≡ length done → AreTypedSteps p R S G D n steps → AreTypedAnswers p D done
        → IsTypedWord p R S G D result u → RightRuns p w below a done steps result trace r
        → IsAnswer (Right c (Makes p means) a done steps result trace) r
    right_answers [] n done result u trace r e t h f run =
        result_answers (word_value c a done result) trace r (run.0)
        (word_says p w means c agrees R data_sound below gives_typed meant S G D a done variables h result u r f (run.1))
    right_answers (s ∷ steps) n done result u trace r e t h f run =
        args_answer (word_values c a done s.args) (run.0) _ trace r (λ vs x. (effects : List Event) × (rest : List Event)
        × (b : Option Value)
        × (trace ≡ effects ++ rest) × Makes p means s.term vs effects b
        × on_answer b (IsFailure rest x) (Right c (Makes p means) a (done ++ b ∷ []) steps result rest x))
        (words_say p w means c agrees R data_sound below gives_typed meant S G D a done variables h s.args (p.terms.inputs s.term) (run.0)
        (t.0.3) (run.1)) (run.2) (λ vs q more.
        let its : (effects : List Event) × (rest : List Event) × (b : Outcome Value) × (trace ≡ effects ++ rest)
        × ImpureRuns p below s.term vs effects b
        × Then b (λ x rest r. RightRuns p w below a (done ++ Some x ∷ []) steps result rest r) rest r = more in
        let (effects, rest, b, split, made, after) = its in
        let args_run = subst (WordsRun p w below a done s.args) q (run.1) in
        let args_typed = words_give_typed_all p w R data_sound below gives_typed S G D a done variables h s.args (p.terms.inputs s.term) vs
        (t.0.3) args_run in
        step_answers (Makes p means s.term vs) (λ y rest x. Right c (Makes p means) a
        (done ++ y ∷ []) steps result rest x) trace effects rest
        b r (λ x rest r. RightRuns p w below a (done ++ Some x ∷ []) steps result rest r) split
        (impure_answers (p.has_rules s.term) s.term vs effects b refl (t.0.1) args_typed made) after (λ x o others.
        let valued = step_gives_typed p w R data_sound below gives_typed S G D a variables s done vs effects x (t.0) h args_run
        (subst (ImpureRuns p below s.term vs effects) o made) in
        let here : s.place ≡ length done = t.1 ∙ e in
        right_answers steps (suc n) (done ++ Some x ∷ []) result u rest r (ap suc e ∙ sym (one_longer done (Some x))) (t.2)
        (answers_append p D done x h (subst (λ (i : ℕ). IsValueOf p.values x (D i)) here valued)) f others))
