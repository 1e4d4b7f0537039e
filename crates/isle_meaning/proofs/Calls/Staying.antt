-- A plain run that isn't spent is the run at every greater depth.
use Rattle.std.proofs.Common.{◌≡◌, ◌≢◌, ℕ, zero, suc, Bool, true, false, List, [], ◌∷◌, ◌++◌, Option, Some, slice_get, ◌∙◌, ap, arith}
use Rattle.isle_rules.specs.TypedRules.{TypedIfLet}
use Rattle.isle_meaning.specs.Values.{Value, Values}
use Rattle.isle_meaning.specs.Words.{Word, var_word, bool_word, int_word, prim_word, variant_word, struct_word, call_word, Words}
use Rattle.isle_meaning.specs.Words.{no_words, more_words, Step, word_of, steps_of}
use Rattle.isle_meaning.specs.Worlds.{CheckedProgram, Answers, Event}
use Rattle.isle_meaning.specs.Asking.{Ended, spent}
use Rattle.isle_meaning.specs.Outcomes.{Outcome, given, missing, ended, After, ConstructsIf, PureRuns, EffectsIf, Then}
use Rattle.isle_meaning.specs.PlainRuns.{WordRuns, WordsRun, IfLetsRun, RightRuns, Tried, RulesRun, PlainRun}
use Rattle.isle_meaning.specs.Laws.Plain.{RunStays}

-- what comes before what isn't spent isn't spent
before_after : {A B : Type 0} (g : Outcome A) (next : A → Outcome B → Type 0) (r : Outcome B) → r ≢ ended spent → After g next r
    → g ≢ ended spent
before_after (given x) next r n h e = cc
before_after missing next r n h e = cc
before_after (ended d) next r n h e = let s : d ≡ spent = cc in n (h ∙ ap (λ (z : Ended). ended z) s)

before_then : {A : Type 0} (g : Outcome A) (next : A → List Event → Outcome Value → Type 0) (trace : List Event) (r : Outcome Value)
    → r ≢ ended spent → Then g next trace r → g ≢ ended spent
before_then (given x) next trace r n h e = cc
before_then missing next trace r n h e = cc
before_then (ended d) next trace r n h e = let s : d ≡ spent = cc in n (h.1 ∙ ap (λ (z : Ended). ended z) s)

before_tried : (s : Outcome (ℕ → Value)) (right : (ℕ → Value) → List Event → Outcome Value → Type 0)
    (others : ℕ → List Event → Outcome Value → Type 0) (steps : ℕ) (trace : List Event) (r : Outcome Value) → r ≢ ended spent
    → Tried s right others steps trace r → s ≢ ended spent
before_tried (given a) right others steps trace r n h e = cc
before_tried missing right others steps trace r n h e = cc
before_tried (ended d) right others steps trace r n h e = let s : d ≡ spent = cc in n (h.2 ∙ ap (λ (z : Ended). ended z) s)

-- what comes after, where each value's next does
after_map : {A B : Type 0} (g : Outcome A) (next further : A → Outcome B → Type 0) (r : Outcome B) → ((x : A) → next x r → further x r)
    → After g next r → After g further r
after_map (given x) next further r f h = f x h
after_map missing next further r f h = h
after_map (ended e) next further r f h = h

then_map : {A : Type 0} (g : Outcome A) (next further : A → List Event → Outcome Value → Type 0) (trace : List Event) (r : Outcome Value)
    → ((x : A) → next x trace r → further x trace r) → Then g next trace r → Then g further trace r
then_map (given x) next further trace r f h = f x h
then_map missing next further trace r f h = h
then_map (ended e) next further trace r f h = h

tried_map : (s : Outcome (ℕ → Value)) (right further : (ℕ → Value) → List Event → Outcome Value → Type 0)
    (others rest : ℕ → List Event → Outcome Value → Type 0) (steps : ℕ) (trace : List Event) (r : Outcome Value)
    → ((a : ℕ → Value) → right a trace r → further a trace r) → ((k : ℕ) → others k trace r → rest k trace r)
    → Tried s right others steps trace r → Tried s further rest steps trace r
tried_map (given a) right further others rest steps trace r f g h = (h.0, f a (h.1))
tried_map missing right further others rest steps trace r f g h = (h.0, h.1, g (h.0) (h.2))
tried_map (ended e) right further others rest steps trace r f g h = h

module _ (p : CheckedProgram) (w : Answers) (below above : ℕ → Values → List Event → Outcome Value → Type 0)
    (up : (u : ℕ) (vs : Values) (effects : List Event) (q : Outcome Value) → q ≢ ended spent → below u vs effects q → above u vs effects q) where
  -- calls
  pure_stays : (b : Bool) (u : ℕ) (vs : Values) (r : Outcome Value) → r ≢ ended spent → ConstructsIf p w below b u vs r
      → ConstructsIf p w above b u vs r
  pure_stays true u vs r n run = up u vs [] r n run
  pure_stays false u vs r n run = run

  impure_stays : (b : Bool) (u : ℕ) (vs : Values) (effects : List Event) (r : Outcome Value) → r ≢ ended spent
      → EffectsIf p below b u vs effects r → EffectsIf p above b u vs effects r
  impure_stays true u vs effects r n run = up u vs effects r n run
  impure_stays false u vs effects r n run = run

  module _ (a : ℕ → Value) (done : List (Option Value)) where
    mutual
      -- words
      word_stays : (x : Word) (r : Outcome Value) → r ≢ ended spent → WordRuns p w below a done x r → WordRuns p w above a done x r
      word_stays (var_word k) r n run = run
      word_stays (bool_word ty b) r n run = run
      word_stays (int_word ty k) r n run = run
      word_stays (prim_word name) r n run = run
      word_stays (variant_word ty k ws) r n (g, run, more) = (g, words_stay ws g (before_after g _ r n more) run, more)
      word_stays (struct_word ty ws) r n (g, run, more) = (g, words_stay ws g (before_after g _ r n more) run, more)
      word_stays (call_word t ws zero) r n (g, run, more) = (
        g,
        words_stay ws g (before_after g (PureRuns p w below t) r n more) run,
        after_map g (PureRuns p w below t) (PureRuns p w above t) r (λ vs h. pure_stays (p.has_rules t) t vs r n h) more,
      )
      word_stays (call_word t ws (suc i)) r n (g, run, more) = (
        g,
        words_stay ws g
            (before_after g (λ (vs : Values) (r : Outcome Value). (v : Value) × (slice_get done i ≡ Some (Some v)) × (r ≡ given v)) r n more)
            run,
        more,
      )

      words_stay : (xs : Words) (r : Outcome Values) → r ≢ ended spent → WordsRun p w below a done xs r → WordsRun p w above a done xs r
      words_stay no_words r n run = run
      words_stay (more_words x xs) r n (g, run, more) = (
        g,
        word_stays x g (before_after g _ r n more) run,
        after_map g _ _ r (λ v q. (q.0, words_stay xs (q.0) (before_after (q.0) _ r n (q.2)) (q.1), q.2)) more,
      )

  -- if-lets
  iflets_stay : (xs : List TypedIfLet) (a : ℕ → Value) (r : Outcome (ℕ → Value)) → r ≢ ended spent → IfLetsRun p w below a xs r
      → IfLetsRun p w above a xs r
  iflets_stay [] a r n run = run
  iflets_stay (x ∷ xs) a r n (g, run, more) = (
    g,
    word_stays a [] (word_of p.terms x.value) g (before_after g _ r n more) run,
    after_map g _ _ r (λ v q. (q.0, q.1, after_map (q.0) _ _ r (λ b o. iflets_stay xs b r n o) (q.2))) more,
  )

  -- right sides
  right_stays : (a : ℕ → Value) (result : Word) (steps : List Step) (done : List (Option Value)) (trace : List Event) (r : Outcome Value)
      → r ≢ ended spent → RightRuns p w below a done steps result trace r → RightRuns p w above a done steps result trace r
  right_stays a result [] done trace r n run = (run.0, word_stays a done result r n (run.1))
  right_stays a result (s ∷ steps) done trace r n (g, run, more) = (
    g,
    words_stay a done s.args g (before_then g _ trace r n more) run,
    then_map g _ _ trace r (λ vs q. (
      q.0,
      q.1,
      q.2,
      q.3,
      impure_stays (p.has_rules s.term) s.term vs (q.0) (q.2) (before_then (q.2) _ (q.1) r n (q.5)) (q.4),
      then_map (q.2) _ _ (q.1) r (λ v o. right_stays a result steps (done ++ Some v ∷ []) (q.1) r n o) (q.5),
    )) more,
  )

  -- rules that are tried
  rules_stay : (t : ℕ) (args : Values) (places : List ℕ) (steps : ℕ) (trace : List Event) (r : Outcome Value) → r ≢ ended spent
      → RulesRun p w below t args places steps trace r → RulesRun p w above t args places steps trace r
  rules_stay t args [] steps trace r n run = run
  rules_stay t args (i ∷ is) steps trace r n (rule, at, s, (g, patterns, more), tried) = (
    rule,
    at,
    s,
    (g, patterns, after_map g _ _ s (λ a o. iflets_stay rule.iflets a s (before_tried s _ _ steps trace r n tried) o) more),
    tried_map s _ _ _ _ steps trace r (λ a o. right_stays a (word_of p.terms rule.right) (steps_of p.terms rule.right) [] trace r n o)
        (λ k o. rules_stay t args is k trace r n o) tried,
  )

-- A plain run that isn't spent is the run at every greater depth.
pub run_stays : RunStays
run_stays p w zero m t args steps trace r less n run = absurd (n (run.2))
run_stays p w (suc k) zero t args steps trace r less n run = absurd (omega (arith, less))
run_stays p w (suc k) (suc m) t args steps trace r less n (places, order, run) = (
  places,
  order,
  rules_stay p w (λ u vs effects q. (tried : ℕ) × PlainRun p w k u vs tried effects q)
      (λ u vs effects q. (tried : ℕ) × PlainRun p w m u vs tried effects q)
      (λ u vs effects q d h. (h.0, run_stays p w k m u vs (h.0) effects q (omega (arith, less)) d (h.1))) t args places steps trace r n run,
)
