-- Plain runs that have begun: with which effects one may stop, before it has come to anything.
use Rattle.std.specs.Prelude.{◌≡◌, ◌⊎◌, ℕ, zero, suc, Bool, true, false, List, [], ◌∷◌, ◌++◌, Option, Some, slice_get}
use Rattle.isle_rules.specs.Values.{ValueTree, ValueTrees}
use Rattle.isle_rules.specs.TypedRules.{TypedRule}
use Rattle.isle_meaning.specs.Values.{Value, Values}
use Rattle.isle_meaning.specs.ValueTypes.{AreOfTypes}
use Rattle.isle_meaning.specs.GroundValues.{values_of}
use Rattle.isle_meaning.specs.Words.{Step, steps_of}
use Rattle.isle_meaning.specs.Worlds.{CheckedProgram, Answers, Event}
use Rattle.isle_meaning.specs.Outcomes.{Outcome, given, missing, ended, ImpureRuns}
use Rattle.isle_meaning.specs.PlainRuns.{WordsRun, RuleRuns, AreTriedInOrder, PlainRun}

-- an impure constructor without rules is called on these values, whatever it is answered
pub record IsEffectOn (p : CheckedProgram) (t : ℕ) (vs : Values) (made : List Event) : Type 0 where
  pub args : ValueTrees
  pub typed : AreOfTypes p.values args (p.terms.inputs t)
  pub stand : values_of p.values args ≡ vs
  pub answer : Option ValueTree
  pub alone : made ≡ record { term = t; args = args; answer = answer } ∷ []

-- an impure call that is made: the world's is one effect, and one of a term with rules begins, one depth lower
abbrev pub EffectsBegin : CheckedProgram → (ℕ → Values → List Event → Type 0) → Bool → ℕ → Values → List Event → Type 0
EffectsBegin p below true t vs made = below t vs made
EffectsBegin p below false t vs made = IsEffectOn p t vs made

abbrev pub ImpureBegins : CheckedProgram → (ℕ → Values → List Event → Type 0) → ℕ → Values → List Event → Type 0
ImpureBegins p below t vs made = EffectsBegin p below (p.has_rules t) t vs made

-- A right side begins: it stops before its next impure call, or in it, or after it, where it is answered a value.
abbrev pub RightBegins : CheckedProgram → Answers → (ℕ → Values → List Event → Outcome Value → Type 0) → (ℕ → Values → List Event → Type 0)
    → (ℕ → Value) → List (Option Value) → List Step → List Event → Type 0
RightBegins p w runs below a done [] made = made ≡ []
RightBegins p w runs below a done (s ∷ steps) made = (made ≡ []) ⊎ ((vs : Values) × WordsRun p w runs a done s.args (given vs)
    × (ImpureBegins p below s.term vs made ⊎ ((effects : List Event) × (rest : List Event) × (v : Value) × (made ≡ effects ++ rest)
    × ImpureRuns p runs s.term vs effects (given v) × RightBegins p w runs below a (done ++ Some v ∷ []) steps rest)))

-- what follows when a rule was tried: its right side begins, or the next rule is tried
abbrev pub TriedBegins : Outcome (ℕ → Value) → ((ℕ → Value) → List Event → Type 0) → (List Event → Type 0) → List Event → Type 0
TriedBegins (given a) right others made = right a made
TriedBegins missing right others made = others made
TriedBegins (ended e) right others made = made ≡ []

-- rules, by their places in the texts, are tried in turn, up to a right side that begins
abbrev pub RulesBegin : CheckedProgram → Answers → (ℕ → Values → List Event → Outcome Value → Type 0) → (ℕ → Values → List Event → Type 0)
    → Values → List ℕ → List Event → Type 0
RulesBegin p w runs below args [] made = made ≡ []
RulesBegin p w runs below args (i ∷ is) made = (rule : TypedRule) × (slice_get p.rules i ≡ Some rule) × (s : Outcome (ℕ → Value))
    × RuleRuns p w runs args rule s
    × TriedBegins s (λ a made. RightBegins p w runs below a [] (steps_of p.terms rule.right) made) (RulesBegin p w runs below args is) made

-- A plain run of a call at a depth begins with these effects: it may stop at any of its calls, before it or in it.
abbrev pub PlainBegins : CheckedProgram → Answers → ℕ → ℕ → Values → List Event → Type 0
PlainBegins p w zero t args made = made ≡ []
PlainBegins p w (suc n) t args made = (made ≡ []) ⊎ ((places : List ℕ) × AreTriedInOrder p t places
    × RulesBegin p w (λ u vs effects q. (tried : ℕ) × PlainRun p w n u vs tried effects q) (PlainBegins p w n) args places made)
