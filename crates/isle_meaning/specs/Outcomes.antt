-- What calls come to: a value, nothing, or an end; what the world's answers come to; and what an outcome says of what a call means.
use Rattle.std.specs.Prelude.{◌≡◌, ◌⊎◌, ℕ, Bool, true, false, List, [], ◌∷◌, Option, Some, None}
use Rattle.isle_rules.specs.Values.{ValueTree, ValueTrees}
use Rattle.isle_meaning.specs.Values.{Value, Values}
use Rattle.isle_meaning.specs.ValueTypes.{IsOfType, AreOfTypes}
use Rattle.isle_meaning.specs.GroundValues.{value_of, values_of, IsValueOf}
use Rattle.isle_meaning.specs.Worlds.{CheckedProgram, Answers, AllowsValue, AllowsOutputs, answer_value, answer_values, Event}
use Rattle.isle_meaning.specs.Calls.{Means}
use Rattle.isle_meaning.specs.Asking.{Asked, asks_value, asks_outputs, Ended, stuck, ill_typed, plain_links, EndsAt}

-- what a call, or what needs calls, comes to: a value; nothing, where a call is answered none or a pattern doesn't fit; or an end
pub data Outcome (A : Type 0) : Type 0 where
  given : A → Outcome A
  missing : Outcome A
  ended : Ended → Outcome A

-- what goes on where there is a value
abbrev pub After : {A B : Type 0} → Outcome A → (A → Outcome B → Type 0) → Outcome B → Type 0
After (given x) next r = next x r
After missing next r = r ≡ missing
After (ended e) next r = r ≡ ended e

-- the outcome of an answer that is allowed
abbrev pub outcome_of : {A : Type 0} → Option A → Outcome A
outcome_of None = missing
outcome_of (Some x) = given x

-- an answer has its value where it is allowed, else it ends the call
abbrev pub Judged : {A : Type 0} → Type 0 → Option A → Asked → Outcome A → Type 0
Judged allowed answer q r = (allowed × (r ≡ outcome_of answer)) ⊎ ((allowed → ⊥) × (r ≡ ended (ill_typed q)))

-- a pure constructor without rules is answered by the world
pub record WorldConstructs (p : CheckedProgram) (w : Answers) (t : ℕ) (vs : Values) (r : Outcome Value) : Type 0 where
  pub args : ValueTrees
  pub typed : AreOfTypes p.values args (p.terms.inputs t)
  pub stand : values_of p.values args ≡ vs
  pub judged : Judged (AllowsValue p t (w.construct t args)) (answer_value p (w.construct t args)) (asks_value t vs) r

-- an extractor is answered by the world
pub record WorldExtracts (p : CheckedProgram) (w : Answers) (t : ℕ) (v : Value) (r : Outcome Values) : Type 0 where
  pub arg : ValueTree
  pub typed : IsOfType p.values arg (p.terms.type_of t)
  pub stands : value_of p.values arg ≡ v
  pub judged : Judged (AllowsOutputs p t (w.extract t arg)) (answer_values p (w.extract t arg)) (asks_outputs t v) r

-- an impure constructor without rules is an effect
pub record WorldEffects (p : CheckedProgram) (t : ℕ) (vs : Values) (effects : List Event) (r : Outcome Value) : Type 0 where
  pub args : ValueTrees
  pub typed : AreOfTypes p.values args (p.terms.inputs t)
  pub stand : values_of p.values args ≡ vs
  pub answer : Option ValueTree
  pub alone : effects ≡ record { term = t; args = args; answer = answer } ∷ []
  pub judged : Judged (AllowsValue p t answer) (answer_value p answer) (asks_value t vs) r

-- a pure call: one of a term with rules is a plain run without effects, one depth lower
abbrev pub ConstructsIf : CheckedProgram → Answers → (ℕ → Values → List Event → Outcome Value → Type 0) → Bool → ℕ → Values → Outcome Value → Type 0
ConstructsIf p w below true t vs r = below t vs [] r
ConstructsIf p w below false t vs r = WorldConstructs p w t vs r

abbrev pub PureRuns : CheckedProgram → Answers → (ℕ → Values → List Event → Outcome Value → Type 0) → ℕ → Values → Outcome Value → Type 0
PureRuns p w below t vs r = ConstructsIf p w below (p.has_rules t) t vs r

-- an impure call: one of a term with rules is a plain run, one depth lower
abbrev pub EffectsIf : CheckedProgram → (ℕ → Values → List Event → Outcome Value → Type 0) → Bool → ℕ → Values → List Event → Outcome Value → Type 0
EffectsIf p below true t vs effects r = below t vs effects r
EffectsIf p below false t vs effects r = WorldEffects p t vs effects r

abbrev pub ImpureRuns : CheckedProgram → (ℕ → Values → List Event → Outcome Value → Type 0) → ℕ → Values → List Event → Outcome Value → Type 0
ImpureRuns p below t vs effects r = EffectsIf p below (p.has_rules t) t vs effects r

-- what goes on where there is a value; else no more effects are made
abbrev pub Then : {A : Type 0} → Outcome A → (A → List Event → Outcome Value → Type 0) → List Event → Outcome Value → Type 0
Then (given x) next trace r = next x trace r
Then missing next trace r = (trace ≡ []) × (r ≡ missing)
Then (ended e) next trace r = (trace ≡ []) × (r ≡ ended e)

-- where no rule is left to be tried: a term that may fail is answered none, any other is stuck
abbrev pub unmatched : Bool → ℕ → Values → Outcome Value
unmatched true t args = missing
unmatched false t args = ended (stuck t args)

-- what an outcome says of a call: a value of the term's type, or none, is what it means; an end is where a chain of asking ends
abbrev pub IsMeant : CheckedProgram → Answers → ℕ → ℕ → Values → List Event → Outcome Value → Type 0
IsMeant p w n t args trace (given v) = Means p w n t args trace (Some v) × IsValueOf p.values v (p.terms.type_of t)
IsMeant p w n t args trace missing = Means p w n t args trace None
IsMeant p w n t args trace (ended e) = Unit {0}

-- what an outcome says of a chain of asking: where the call ends unanswered, one ends so
abbrev pub IsAskedAtEnd : CheckedProgram → Answers → ℕ → ℕ → Values → List Event → Outcome Value → Type 0
IsAskedAtEnd p w n t args trace (given v) = Unit {0}
IsAskedAtEnd p w n t args trace missing = Unit {0}
IsAskedAtEnd p w n t args trace (ended e) = EndsAt p w (plain_links p w) n (asks_value t args) trace e
