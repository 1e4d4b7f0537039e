-- Checked programs, what a world answers, and which answers the declarations allow.
use Rattle.std.specs.Prelude.{◌≡◌, ℕ, Bool, true, false, List, Option, Some, None}
use Rattle.std.specs.Option.{option_map}
use Rattle.isle_rules.specs.Values.{ValueTree, ValueTrees}
use Rattle.isle_rules.specs.TypedRules.{TypedRule}
use Rattle.isle_meaning.specs.Facts.{TermFacts}
use Rattle.isle_meaning.specs.Got.{Got, fails, gives}
use Rattle.isle_meaning.specs.Values.{Value, Values}
use Rattle.isle_meaning.specs.ValueTypes.{ValueFacts, IsOfType, AreOfTypes}
use Rattle.isle_meaning.specs.GroundValues.{value_of, values_of}

-- a checked program: what its declarations say of terms and of values, which terms have rules, and the rules in the order of the texts
pub record CheckedProgram : Type 0 where
  pub terms : TermFacts
  pub values : ValueFacts
  pub has_rules : ℕ → Bool
  pub rules : List TypedRule

-- what a world answers the pure constructors and the extractors that have no rules, by the numbers of their terms
pub record Answers : Type 0 where
  pub construct : ℕ → ValueTrees → Option ValueTree
  pub extract : ℕ → ValueTree → Option ValueTrees

-- The declarations allow this answer of a constructor: a value of the term's type, or none of a term that may fail.
abbrev pub AllowsValue : CheckedProgram → ℕ → Option ValueTree → Type 0
AllowsValue p t None = p.terms.partial t ≡ true
AllowsValue p t (Some v) = IsOfType p.values v (p.terms.type_of t)

-- The declarations allow this answer of an extractor: outputs of the types of the term's arguments, or none of one that may fail.
abbrev pub AllowsOutputs : CheckedProgram → ℕ → Option ValueTrees → Type 0
AllowsOutputs p t None = p.terms.infallible t ≡ false
AllowsOutputs p t (Some vs) = AreOfTypes p.values vs (p.terms.inputs t)

-- the value of an answer
abbrev pub answer_value : CheckedProgram → Option ValueTree → Option Value
answer_value p answer = option_map (value_of p.values) answer

abbrev pub answer_values : CheckedProgram → Option ValueTrees → Option Values
answer_values p answer = option_map (values_of p.values) answer

-- an answer that is known: none fails
abbrev pub got : {A : Type 0} → Option A → Got A
got None = fails
got (Some x) = gives x

-- a call of a constructor without rules that isn't pure, with its answer: an effect
pub record Event : Type 0 where
  pub term : ℕ
  pub args : ValueTrees
  pub answer : Option ValueTree
