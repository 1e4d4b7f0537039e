-- A plain run begins with its effects, and with none; one of a pure term begins with none.
use Rattle.std.proofs.Common.{◌≡◌, ◌⊎◌, inl, inr, ℕ, zero, suc, true, false, Bool, List, [], ◌∷◌, ◌++◌, Option, Some, slice_get, refl, sym, ◌∙◌, ap, subst, arith}
use Rattle.std.proofs.Common.{Contains}
use Rattle.std.proofs.lemmas.List.{append-nil}
use Rattle.std.proofs.lemmas.List.Elements.{Contains-append_right}
use Rattle.isle_rules.specs.TypedRules.{TypedRule}
use Rattle.isle_meaning.specs.Values.{Value, Values}
use Rattle.isle_meaning.specs.Words.{Word, Step, steps_of, word_of}
use Rattle.isle_meaning.specs.Worlds.{CheckedProgram, Answers, Event}
use Rattle.isle_meaning.specs.Outcomes.{Outcome, given, missing, ended, Then, ImpureRuns, EffectsIf}
use Rattle.isle_meaning.specs.PlainRuns.{WordsRun, RulesRun, RightRuns, Tried, PlainRun}
use Rattle.isle_meaning.specs.PlainBeginnings.{EffectsBegin, ImpureBegins, RightBegins, TriedBegins, RulesBegin, PlainBegins}
use Rattle.isle_meaning.specs.SoundPrograms.{IsSound}

module _ (p : CheckedProgram) (w : Answers) (runs : ℕ → Values → List Event → Outcome Value → Type 0)
    (below : ℕ → Values → List Event → Type 0) where
  -- a right side may stop at once
  pub right_stops : (a : ℕ → Value) (done : List (Option Value)) (steps : List Step) → RightBegins p w runs below a done steps []
  right_stops a done [] = refl
  right_stops a done (s ∷ steps) = inl refl

  module _ (begins : (t : ℕ) (vs : Values) (made : List Event) (r : Outcome Value) → runs t vs made r → below t vs made) where
    -- an impure call begins with its effects
    pub impure_begins : (b : Bool) (t : ℕ) (vs : Values) (effects : List Event) (r : Outcome Value) → EffectsIf p runs b t vs effects r
        → EffectsBegin p below b t vs effects
    impure_begins true t vs effects r run = begins t vs effects r run
    impure_begins false t vs effects r run = record { args = run.args; typed = run.typed; stand = run.stand; answer = run.answer; alone = run.alone }

    alone : (s : Step) (vs : Values) (trace effects rest : List Event) → trace ≡ effects ++ rest → rest ≡ []
        → ImpureBegins p below s.term vs effects → ImpureBegins p below s.term vs trace
    alone s vs trace effects rest joined empty begun =
        subst (ImpureBegins p below s.term vs) (sym (joined ∙ ap (λ (l : List Event). effects ++ l) empty ∙ append-nil effects)) begun

    -- with what follows a call, where it is answered a value
    answered : (Runs : Value → List Event → Outcome Value → Type 0) (Begins : Value → List Event → Type 0) (s : Step) (trace : List Event)
        (r : Outcome Value) (vs : Values) (effects rest : List Event) (b : Outcome Value)
        → ((v : Value) (rest : List Event) → Runs v rest r → Begins v rest) → trace ≡ effects ++ rest
        → ImpureRuns p runs s.term vs effects b → Then b Runs rest r
        → ImpureBegins p below s.term vs trace ⊎ ((effects : List Event) × (rest : List Event) × (v : Value) × (trace ≡ effects ++ rest)
        × ImpureRuns p runs s.term vs effects (given v) × Begins v rest)
    answered Runs Begins s trace r vs effects rest (given v) next joined run then = inr (effects, rest, v, joined, run, next v rest then)
    answered Runs Begins s trace r vs effects rest missing next joined run then =
        inl (alone s vs trace effects rest joined then.0 (impure_begins (p.has_rules s.term) s.term vs effects missing run))
    answered Runs Begins s trace r vs effects rest (ended e) next joined run then =
        inl (alone s vs trace effects rest joined then.0 (impure_begins (p.has_rules s.term) s.term vs effects (ended e) run))

    -- with its arguments
    called : (Runs : Value → List Event → Outcome Value → Type 0) (Begins : Value → List Event → Type 0) (a : ℕ → Value)
        (done : List (Option Value)) (s : Step) (trace : List Event) (r : Outcome Value) (g : Outcome Values)
        → ((v : Value) (rest : List Event) → Runs v rest r → Begins v rest) → WordsRun p w runs a done s.args g
        → Then g (λ vs trace r. (effects : List Event) × (rest : List Event) × (b : Outcome Value) × (trace ≡ effects ++ rest)
        × ImpureRuns p runs s.term vs effects b × Then b Runs rest r) trace r
        → (trace ≡ []) ⊎ ((vs : Values) × WordsRun p w runs a done s.args (given vs) × (ImpureBegins p below s.term vs trace
        ⊎ ((effects : List Event) × (rest : List Event) × (v : Value) × (trace ≡ effects ++ rest) × ImpureRuns p runs s.term vs effects (given v)
        × Begins v rest)))
    called Runs Begins a done s trace r (given vs) next args (effects, rest, b, joined, run, then) =
        inr (vs, args, answered Runs Begins s trace r vs effects rest b next joined run then)
    called Runs Begins a done s trace r missing next args then = inl then.0
    called Runs Begins a done s trace r (ended e) next args then = inl then.0

    -- so does a right side
    pub right_begins : (a : ℕ → Value) (done : List (Option Value)) (steps : List Step) (result : Word) (trace : List Event) (r : Outcome Value)
        → RightRuns p w runs a done steps result trace r → RightBegins p w runs below a done steps trace
    right_begins a done [] result trace r run = run.0
    right_begins a done (s ∷ steps) result trace r (g, args, then) =
        called (λ v rest r. RightRuns p w runs a (done ++ Some v ∷ []) steps result rest r)
        (λ v rest. RightBegins p w runs below a (done ++ Some v ∷ []) steps rest) a done s trace r g
        (λ v rest run. right_begins a (done ++ Some v ∷ []) steps result rest r run) args then

    tried_begins : (t : ℕ) (args : Values) (rule : TypedRule) (is : List ℕ) (s : Outcome (ℕ → Value)) (more : ℕ) (trace : List Event)
        (r : Outcome Value) → ((n : ℕ) → RulesRun p w runs t args is n trace r → RulesBegin p w runs below args is trace)
        → Tried s (λ a trace r. RightRuns p w runs a [] (steps_of p.terms rule.right) (word_of p.terms rule.right) trace r)
        (RulesRun p w runs t args is) more trace r
        → TriedBegins s (λ a made. RightBegins p w runs below a [] (steps_of p.terms rule.right) made) (RulesBegin p w runs below args is) trace
    tried_begins t args rule is (given a) more trace r others h =
        right_begins a [] (steps_of p.terms rule.right) (word_of p.terms rule.right) trace r h.1
    tried_begins t args rule is missing more trace r others h = others h.0 h.2
    tried_begins t args rule is (ended e) more trace r others h = h.1

    -- so do rules
    pub rules_begin : (t : ℕ) (args : Values) (is : List ℕ) (more : ℕ) (trace : List Event) (r : Outcome Value)
        → RulesRun p w runs t args is more trace r → RulesBegin p w runs below args is trace
    rules_begin t args [] more trace r h = h.1
    rules_begin t args (i ∷ is) more trace r (rule, at, s, run, tried) =
        (rule, at, s, run, tried_begins t args rule is s more trace r (λ n others. rules_begin t args is n trace r others) tried)

  -- a right side without impure calls begins with no effects
  right_begins_empty : (a : ℕ → Value) (rule : TypedRule) (made : List Event) → steps_of p.terms rule.right ≡ []
      → RightBegins p w runs below a [] (steps_of p.terms rule.right) made → made ≡ []
  right_begins_empty a rule made e begun = subst (λ (steps : List Step). RightBegins p w runs below a [] steps made) e begun

  tried_begins_empty : (args : Values) (rule : TypedRule) (is : List ℕ) (s : Outcome (ℕ → Value)) (made : List Event)
      → steps_of p.terms rule.right ≡ [] → (RulesBegin p w runs below args is made → made ≡ [])
      → TriedBegins s (λ a made. RightBegins p w runs below a [] (steps_of p.terms rule.right) made) (RulesBegin p w runs below args is) made
      → made ≡ []
  tried_begins_empty args rule is (given a) made e others h = right_begins_empty a rule made e h
  tried_begins_empty args rule is missing made e others h = others h
  tried_begins_empty args rule is (ended x) made e others h = h

  -- so do rules without any
  rules_begin_empty : (args : Values) (is : List ℕ) (made : List Event)
      → ((i : ℕ) (rule : TypedRule) → Contains is i → slice_get p.rules i ≡ Some rule → steps_of p.terms rule.right ≡ [])
      → RulesBegin p w runs below args is made → made ≡ []
  rules_begin_empty args [] made pure h = h
  rules_begin_empty args (i ∷ is) made pure (rule, at, s, run, tried) =
      tried_begins_empty args rule is s made (pure i rule (0, omega arith, refl) at)
      (λ others. rules_begin_empty args is made (λ j other c. pure j other (Contains-append_right (i ∷ []) is j c)) others) tried

-- a plain run may stop at once
pub plain_stops : (p : CheckedProgram) (w : Answers) (n t : ℕ) (args : Values) → PlainBegins p w n t args []
plain_stops p w zero t args = refl
plain_stops p w (suc n) t args = inl refl

-- a plain run begins with its effects
pub plain_begins : (p : CheckedProgram) (w : Answers) (n t : ℕ) (args : Values) (steps : ℕ) (trace : List Event) (r : Outcome Value)
    → PlainRun p w n t args steps trace r → PlainBegins p w n t args trace
plain_begins p w zero t args steps trace r h = h.1
plain_begins p w (suc n) t args steps trace r (places, tried, run) = inr (
  places,
  tried,
  rules_begin p w (λ u vs effects q. (tried : ℕ) × PlainRun p w n u vs tried effects q) (PlainBegins p w n)
      (λ u vs made q run. plain_begins p w n u vs run.0 made q run.1) t args places steps trace r run,
)

-- one of a pure term that can be run begins with no effects
pub pure_begins_empty : (p : CheckedProgram) (w : Answers) (R : ℕ → Type 0) → IsSound p R → (n t : ℕ) (args : Values) (made : List Event)
    → p.terms.pure t ≡ true → R t → PlainBegins p w n t args made → made ≡ []
pure_begins_empty p w R sound zero t args made pure runs h = h
pure_begins_empty p w R sound (suc n) t args made pure runs (inl none) = none
pure_begins_empty p w R sound (suc n) t args made pure runs (inr (places, tried, begun)) =
    rules_begin_empty p w (λ u vs effects q. (tried : ℕ) × PlainRun p w n u vs tried effects q) (PlainBegins p w n) args places made
    (λ i rule c at. let (other, here) = (tried.all i).0 c in let e : other ≡ rule = (let q = here.listed in cc) in
    let root : rule.root ≡ t = subst (λ (x : TypedRule). x.root ≡ t) e here.of_term in
    (sound.rules i rule at (subst R (sym root) runs)).pure_right (ap p.terms.pure root ∙ pure)) begun
