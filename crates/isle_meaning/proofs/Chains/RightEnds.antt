-- Where a right side's run ends, the end is that of a call that it makes.
use Rattle.std.proofs.Common.{◌≡◌, ◌⊎◌, inl, inr, ℕ, suc, List, [], ◌∷◌, ◌++◌, length, Bool, true, false, Option, Some}
use Rattle.std.proofs.Common.{refl, sym, ◌∙◌, ap, subst, append_assoc, append-nil}
use Rattle.isle_meaning.specs.Got.{Got, unknown, fails, gives}
use Rattle.isle_meaning.specs.Values.{Value, Values}
use Rattle.isle_meaning.specs.GroundValues.{IsValueOf, AreValuesOf}
use Rattle.isle_meaning.specs.Words.{Word, Step}
use Rattle.isle_meaning.specs.Answers.{Completion}
use Rattle.isle_meaning.specs.Worlds.{CheckedProgram, Answers, Event}
use Rattle.isle_meaning.specs.RightSides.{on_got}
use Rattle.isle_meaning.specs.Calls.{Says, Agrees, MakesIf, Makes, Means}
use Rattle.isle_meaning.specs.Sites.{Site, extractor_call, constructor_call, sites_of}
use Rattle.isle_meaning.specs.Held.{held_value, value, values}
use Rattle.isle_meaning.specs.Asking.{Asked, asks_value, asks_outputs, IsCallOfWords, MayBeCallOn, RightAsks, no_link, Ended}
use Rattle.isle_meaning.specs.Outcomes.{Outcome, given, missing, ended, Then, EffectsIf, ImpureRuns}
use Rattle.isle_meaning.specs.PlainRuns.{WordsRun, RightRuns}
use Rattle.isle_meaning.specs.SoundPrograms.{HasSoundData}
use Rattle.isle_meaning.specs.Inside.TypedWords.{IsTypedWord, AreTypedVariables, AreTypedAnswers, AreTypedSteps, GivesTyped}
use Rattle.isle_meaning.proofs.Calls.Outcomes.{one_longer}
use Rattle.isle_meaning.proofs.Calls.Giving.{judged_given, words_give_typed_all}
use Rattle.isle_meaning.proofs.Calls.RuleGiving.{answers_append, step_gives_typed}
use Rattle.isle_meaning.proofs.Calls.Saying.{GivesMeant}
use Rattle.isle_meaning.proofs.Matching.Children.{Agree}
use Rattle.isle_meaning.proofs.Matching.Later.{later}
use Rattle.isle_meaning.proofs.Chains.PureCalls.{CallsPure, IsImpureStep}
use Rattle.isle_meaning.proofs.Chains.Unique.{EachStep}
use Rattle.isle_meaning.proofs.Chains.WordEnds.{Ends, EndsBelow, judged_ended, word_ends, words_end, sites_say}

-- where what comes after ends, there was an end, or what comes after ends
pub then_ended : {A : Type 0} (g : Outcome A) (next : A → List Event → Outcome Value → Type 0) (trace : List Event) (e : Ended)
    → Then g next trace (ended e) → ((g ≡ ended e) × (trace ≡ [])) ⊎ ((x : A) × (g ≡ given x) × next x trace (ended e))
then_ended (given x) next trace e h = inr (x, refl, h)
then_ended missing next trace e h = absurd (let q = h.1 in cc)
then_ended (ended d) next trace e h = let o = h.1 in let q : e ≡ d = cc in inl (ap (λ (z : Ended). ended z) (sym q), h.0)

-- where it is said what something gives
on_says : {A : Type 0} (g : Got A) (v : A) (F : Type 0) (G : A → Type 0) → Says g (gives v) → G v → on_got g F G
on_says unknown v F G s h = tt
on_says fails v F G s h = absurd (let q : fails ≡ gives v = s (λ e. cc) in cc)
on_says (gives u) v F G s h = let q : gives u ≡ gives v = s (λ e. cc) in let r : v ≡ u = cc in subst G r h

module _ (p : CheckedProgram) (w : Answers) (n : ℕ) (R : ℕ → Type 0) (data_sound : HasSoundData p)
    (below : ℕ → Values → List Event → Outcome Value → Type 0) (gives_typed : GivesTyped p R below)
    (meant : GivesMeant p R below (Means p w n)) (ends : EndsBelow p w n R below) where
  -- where an impure call ends unanswered, a chain of asking from it does
  impure_ends : (b : Bool) (t : ℕ) (vs : Values) (effects : List Event) (e : Ended) → p.has_rules t ≡ b → (p.has_rules t ≡ true → R t)
      → p.terms.pure t ≡ false → AreValuesOf p.values vs (p.terms.inputs t) → EffectsIf p below b t vs effects (ended e)
      → Ends p w n (asks_value t vs) effects e
  impure_ends true t vs effects e q ruled impure typed run = ends t vs effects e (ruled q) typed run
  impure_ends false t vs effects e q ruled impure typed run =
      let j = judged_ended _ _ _ e (run.judged) in
      subst (λ (z : Ended). Ends p w n (asks_value t vs) effects z) (sym (j.1)) (inr (record {
        left = n;
        before = [];
        chain = no_link;
        outside = q;
        impure = impure;
        trees = run.args;
        answer = run.answer;
        typed = run.typed;
        stand = run.stand;
        last = run.alone;
        wrong = j.0;
      }))

  -- an impure call that is answered does what it means
  impure_makes : (b : Bool) (t : ℕ) (vs : Values) (effects : List Event) (v : Value) → p.has_rules t ≡ b → (p.has_rules t ≡ true → R t)
      → AreValuesOf p.values vs (p.terms.inputs t) → EffectsIf p below b t vs effects (given v)
      → MakesIf p (Means p w n) b t vs effects (Some v)
  impure_makes true t vs effects v q ruled typed run = meant t vs effects (given v) (ruled q) typed run
  impure_makes false t vs effects v q ruled typed run =
      let j = judged_given _ _ _ v (run.judged) in
      record {
        args = run.args;
        typed = run.typed;
        stand = run.stand;
        answer = run.answer;
        alone = run.alone;
        allowed = j.0;
        gives_it = j.1;
      }

  -- a pure call is a call that may be a step's
  any_number : (c : Completion) (args : Values) (done : List (Option Value)) (k : ℕ) (s : Site) (q : Asked)
      → MayBeCallOn p.terms c args done 0 s q → MayBeCallOn p.terms c args done k s q
  any_number c args done k (extractor_call t s) (asks_outputs u v) h = h
  any_number c args done k (constructor_call t ss i) (asks_value u vs) h = (inl (first (h.0)), h.1, h.2)
    where
      first : (i ≡ 0) ⊎ (i ≡ 0) → i ≡ 0
      first (inl e) = e
      first (inr e) = e
  any_number c args done k s q h = absurd h

  module _ (S : ℕ → Type 0) (G D : ℕ → ℕ) (a : ℕ → Value) (variables : AreTypedVariables p S G a) (result : Word) (u : ℕ)
      (result_typed : IsTypedWord p R S G D result u) (result_pure : CallsPure p.terms result) (args : Values) (vars : ℕ → Site) where
    -- the variables have the values of their sites
    abbrev pub VariablesAgree : Completion → Type 0
    VariablesAgree c = Agree (value p.terms c args []) a S vars

    -- they keep them after impure calls
    agree_later : (c : Completion) (done : List (Option Value)) → VariablesAgree c → Agree (value p.terms c args done) a S vars
    agree_later c done agree k i =
        let here : value p.terms c args [] (vars k) ≡ gives (held_value (a k)) = agree k i in
        later p.terms c args [] done (vars k) (λ e. let q : gives (held_value (a k)) ≡ unknown = sym here ∙ e in cc) ∙ here

    -- the call at which a right side ends, and the effects before it and within it
    pub record RightEnds (done : List (Option Value)) (steps : List Step) (trace : List Event) (e : Ended) : Type 0 where
      pub asked : Asked
      pub before : List Event
      pub within : List Event
      pub split : trace ≡ before ++ within
      pub ends_so : Ends p w n asked within e
      pub call : Site
      pub asks : (c : Completion) → Agrees p w (Means p w n) c → VariablesAgree c
          → RightAsks p.terms (IsCallOfWords p.terms vars) c (Makes p (Means p w n)) args vars done steps result before call asked

    -- the call at which a right side ends from a step on whose arguments have values
    stepped : (s : Step) (steps : List Step) (m : ℕ) (done : List (Option Value)) (trace : List Event) (e : Ended) (vs : Values)
        → m ≡ length done → AreTypedSteps p R S G D m (s ∷ steps) → EachStep (IsImpureStep p.terms) (s ∷ steps) → AreTypedAnswers p D done
        → WordsRun p w below a done s.args (given vs) → (effects rest : List Event) (b : Outcome Value) → trace ≡ effects ++ rest
        → ImpureRuns p below s.term vs effects b
        → ((rest : List Event) (x : Value) → AreTypedAnswers p D (done ++ Some x ∷ [])
        → RightRuns p w below a (done ++ Some x ∷ []) steps result rest (ended e) → RightEnds (done ++ Some x ∷ []) steps rest e)
        → Then b (λ x rest r. RightRuns p w below a (done ++ Some x ∷ []) steps result rest r) rest (ended e)
        → RightEnds done (s ∷ steps) trace e
    stepped s steps m done trace e vs l t k answers runs effects rest b split made rec more =
        let valued_args = words_give_typed_all p w R data_sound below gives_typed S G D a done variables answers s.args
        (p.terms.inputs s.term) vs (t.0.3) runs in
        let says : (c : Completion) → Agrees p w (Means p w n) c → VariablesAgree c
        → Says (values p.terms c args done (sites_of p.terms vars s.args)) (gives vs) =
        λ c ag agree. sites_say p w n R data_sound below gives_typed meant ends S G D a done variables answers c ag args vars
        (agree_later c done agree) s.args (p.terms.inputs s.term) vs (t.0.3) runs in
        elim (then_ended b (λ (x : Value) (rest : List Event) (r : Outcome Value). RightRuns p w below a (done ++ Some x ∷ []) steps
        result rest r) rest e more) [
          | inl q ↦ record {
            asked = asks_value s.term vs;
            before = [];
            within = effects;
            split = split ∙ (ap (λ (z : List Event). effects ++ z) (q.1) ∙ append-nil effects);
            ends_so = impure_ends (p.has_rules s.term) s.term vs effects e refl (t.0.1) (k.0.0) valued_args
                (subst (ImpureRuns p below s.term vs effects) (q.0) made);
            call = constructor_call s.term (sites_of p.terms vars s.args) (suc s.place);
            asks = λ c ag agree. inl (
              refl,
              inl refl,
              (inr refl, refl, says c ag agree),
            );
          }
          | inr h ↦
              let answered : ImpureRuns p below s.term vs effects (given (h.0)) =
              subst (ImpureRuns p below s.term vs effects) (h.1) made in
              let valued = step_gives_typed p w R data_sound below gives_typed S G D a variables s done vs effects (h.0) (t.0) answers runs
              answered in
              let here : s.place ≡ length done = t.1 ∙ l in
              let r = rec rest (h.0) (answers_append p D done (h.0) answers
              (subst (λ (i : ℕ). IsValueOf p.values (h.0) (D i)) here valued))
              (h.2) in
              record {
                asked = r.asked;
                before = effects ++ r.before;
                within = r.within;
                split = split ∙ (ap (λ (z : List Event). effects ++ z) (r.split) ∙ sym (append_assoc effects (r.before) (r.within)));
                ends_so = r.ends_so;
                call = r.call;
                asks = λ c ag agree. inr (on_says (values p.terms c args done (sites_of p.terms vars s.args)) vs _ _ (says c ag agree) (
                  effects,
                  r.before,
                  h.0,
                  refl,
                  impure_makes (p.has_rules s.term) s.term vs effects (h.0) refl (t.0.1) valued_args answered,
                  r.asks c ag agree,
                ));
              }
        ]

    -- Where a right side's run ends, the end is that of a call that it makes.
    pub right_ends : (steps : List Step) (m : ℕ) (done : List (Option Value)) (trace : List Event) (e : Ended) → m ≡ length done
        → AreTypedSteps p R S G D m steps → EachStep (IsImpureStep p.terms) steps → AreTypedAnswers p D done
        → RightRuns p w below a done steps result trace (ended e) → RightEnds done steps trace e
    right_ends [] m done trace e l t k answers run =
        let r = word_ends p w n R data_sound below gives_typed meant ends S G D a done variables answers result u e result_typed
        result_pure (run.1) in
        record {
          asked = r.asked;
          before = [];
          within = [];
          split = run.0;
          ends_so = r.ends_so;
          call = r.call vars;
          asks = λ c ag agree. (refl, inl (r.written vars), r.may c ag args vars (agree_later c done agree));
        }
    right_ends (s ∷ steps) m done trace e l t k answers run =
        elim (then_ended (run.0) (λ (vs : Values) (trace : List Event) (r : Outcome Value). (effects : List Event) × (rest : List Event)
        × (b : Outcome Value) × (trace ≡ effects ++ rest) × ImpureRuns p below s.term vs effects b
        × Then b (λ x rest r. RightRuns p w below a (done ++ Some x ∷ []) steps result rest r) rest r) trace e (run.2)) [
          | inl q ↦
              let r = words_end p w n R data_sound below gives_typed meant ends S G D a done variables answers s.args
              (p.terms.inputs s.term) e (t.0.3) (k.0.1) (subst (WordsRun p w below a done s.args) (q.0) (run.1)) in
              record {
                asked = r.asked;
                before = [];
                within = [];
                split = q.1;
                ends_so = r.ends_so;
                call = r.call vars;
                asks = λ c ag agree. inl (
                  refl,
                  inr (r.written vars),
                  any_number c args done (suc s.place) (r.call vars) r.asked (r.may c ag args vars (agree_later c done agree)),
                );
              }
          | inr h ↦ stepped s steps m done trace e (h.0) l t k answers (subst (WordsRun p w below a done s.args) (h.1) (run.1))
              (h.2.0) (h.2.1) (h.2.2) (h.2.3) (h.2.4) (λ rest x ans o. right_ends steps (suc m) (done ++ Some x ∷ []) rest e
              (ap suc l ∙ sym (one_longer done (Some x))) (t.2) (k.1) ans o) (h.2.5)
        ]
