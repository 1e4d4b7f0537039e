-- The meaning of a call at a depth.
use Rattle.std.specs.Prelude.{◌≡◌, ◌≢◌, ◌⊎◌, ◌≤ℤ◌, ℕ, zero, suc, Bool, true, false, List, [], ◌∷◌, Option, Some, slice_get}
use Rattle.isle_rules.specs.Values.{ValueTree, ValueTrees}
use Rattle.isle_rules.specs.TypedRules.{TypedRule}
use Rattle.isle_meaning.specs.Got.{Got, unknown, gives}
use Rattle.isle_meaning.specs.Values.{Value, Values}
use Rattle.isle_meaning.specs.ValueTypes.{IsOfType, AreOfTypes}
use Rattle.isle_meaning.specs.GroundValues.{value_of, values_of, IsValueOf, AreValuesOf}
use Rattle.isle_meaning.specs.Answers.{Completion, IsAllowed}
use Rattle.isle_meaning.specs.Matching.{MatchesWith, Matches}
use Rattle.isle_meaning.specs.Scopes.{Covers}
use Rattle.isle_meaning.specs.Worlds.{CheckedProgram, Answers, AllowsValue, AllowsOutputs, answer_value, answer_values, got, Event}
use Rattle.isle_meaning.specs.RightSides.{RightOf, IsFailure}

-- where it is known, it is this
abbrev pub Says : {A : Type 0} → Got A → Got A → Type 0
Says g is = g ≢ unknown → g ≡ is

-- its answers are of the terms' types
pub record HasTypedAnswers (p : CheckedProgram) (c : Completion) : Type 0 where
  pub construct : (t : ℕ) (vs : Values) (v : Value) → c.construct t vs ≡ gives v → IsValueOf p.values v (p.terms.type_of t)
  pub extract : (t : ℕ) (v : Value) (vs : Values) → c.extract t v ≡ gives vs → AreValuesOf p.values vs (p.terms.inputs t)

-- The answers of a completion are allowed. Where the world's answer is allowed it has that, where the call has a meaning one depth
-- lower it has that, and elsewhere it is free.
pub record Agrees (p : CheckedProgram) (w : Answers) (below : ℕ → Values → List Event → Option Value → Type 0) (c : Completion) : Type 0 where
  pub outside : (t : ℕ) (trees : ValueTrees) → p.has_rules t ≡ false → AreOfTypes p.values trees (p.terms.inputs t)
      → AllowsValue p t (w.construct t trees) → Says (c.construct t (values_of p.values trees)) (got (answer_value p (w.construct t trees)))
  pub outputs : (t : ℕ) (tree : ValueTree) → IsOfType p.values tree (p.terms.type_of t) → AllowsOutputs p t (w.extract t tree)
      → Says (c.extract t (value_of p.values tree)) (got (answer_values p (w.extract t tree)))
  pub inside : (t : ℕ) (vs : Values) (b : Option Value) → p.has_rules t ≡ true → AreValuesOf p.values vs (p.terms.inputs t) → below t vs [] b
      → Says (c.construct t vs) (got b)
  pub allowed : IsAllowed p.terms c
  pub typed : HasTypedAnswers p c

-- an effect: a call of a constructor without rules, whose answer is allowed
pub record IsEffect (p : CheckedProgram) (t : ℕ) (vs : Values) (effects : List Event) (b : Option Value) : Type 0 where
  pub args : ValueTrees
  pub typed : AreOfTypes p.values args (p.terms.inputs t)
  pub stand : values_of p.values args ≡ vs
  pub answer : Option ValueTree
  pub alone : effects ≡ record { term = t; args = args; answer = answer } ∷ []
  pub allowed : AllowsValue p t answer
  pub gives_it : answer_value p answer ≡ b

-- an impure call makes these effects and is answered so: one of a term with rules does what it means one depth lower
abbrev pub MakesIf : CheckedProgram → (ℕ → Values → List Event → Option Value → Type 0) → Bool → ℕ → Values → List Event → Option Value → Type 0
MakesIf p below true t vs effects b = below t vs effects b
MakesIf p below false t vs effects b = IsEffect p t vs effects b

abbrev pub Makes : CheckedProgram → (ℕ → Values → List Event → Option Value → Type 0) → ℕ → Values → List Event → Option Value → Type 0
Makes p below t vs effects b = MakesIf p below (p.has_rules t) t vs effects b

-- a rule of a term, by its place in the texts
pub record IsRuleAt (p : CheckedProgram) (t : ℕ) (i : ℕ) (rule : TypedRule) : Type 0 where
  pub listed : slice_get p.rules i ≡ Some rule
  pub of_term : rule.root ≡ t

-- the matching rule of greatest priority has a right side that gives this
pub record RuleGives (p : CheckedProgram) (below : ℕ → Values → List Event → Option Value → Type 0) (c : Completion) (t : ℕ) (args : Values)
    (trace : List Event) (answer : Option Value) : Type 0 where
  pub place : ℕ
  pub chosen : TypedRule
  pub at : IsRuleAt p t place chosen
  pub variables : ℕ → Value
  pub matches : MatchesWith p.terms c args chosen variables
  pub greatest : (i : ℕ) (other : TypedRule) → IsRuleAt p t i other → Matches p.terms c args other → other.priority ≤ℤ chosen.priority
  pub right : RightOf p.terms c (Makes p below) variables chosen trace answer

-- no rule matches, and the term may fail
pub record NoRule (p : CheckedProgram) (c : Completion) (t : ℕ) (args : Values) (trace : List Event) (answer : Option Value) : Type 0 where
  pub none : (i : ℕ) (rule : TypedRule) → IsRuleAt p t i rule → Matches p.terms c args rule → ⊥
  pub partial : p.terms.partial t ≡ true
  pub failure : IsFailure trace answer

-- under one completion
abbrev pub Told : CheckedProgram → (ℕ → Values → List Event → Option Value → Type 0) → Completion → ℕ → Values → List Event → Option Value → Type 0
Told p below c t args trace answer = RuleGives p below c t args trace answer ⊎ NoRule p c t args trace answer

-- the completion answers each pure call that a rule of the term has on these arguments
abbrev pub CoversAll : CheckedProgram → Completion → ℕ → Values → Type 0
CoversAll p c t args = (i : ℕ) (rule : TypedRule) → IsRuleAt p t i rule → Covers p.terms c args rule

-- At a depth the call has these effects and this answer, whatever calls left open would answer.
abbrev pub Means : CheckedProgram → Answers → ℕ → ℕ → Values → List Event → Option Value → Type 0
Means p w zero t args trace answer = ⊥
Means p w (suc n) t args trace answer =
    (p.has_rules t ≡ true) × ((c : Completion) → Agrees p w (Means p w n) c → CoversAll p c t args → Told p (Means p w n) c t args trace answer)
