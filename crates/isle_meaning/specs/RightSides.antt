-- What the right side of a rule does: its impure calls in order, then its result.
use Rattle.std.specs.Prelude.{◌≡◌, ℕ, List, [], ◌∷◌, ◌++◌, Option, Some, None}
use Rattle.isle_rules.specs.TypedRules.{TypedRule}
use Rattle.isle_meaning.specs.Facts.{TermFacts}
use Rattle.isle_meaning.specs.Got.{Got, unknown, fails, gives}
use Rattle.isle_meaning.specs.Values.{Value, Values}
use Rattle.isle_meaning.specs.Words.{Word, Step, word_of, steps_of}
use Rattle.isle_meaning.specs.Answers.{Completion}
use Rattle.isle_meaning.specs.Matching.{word_value, word_values}
use Rattle.isle_meaning.specs.Worlds.{Event}

-- the call fails, and makes no more effects
pub record IsFailure (trace : List Event) (answer : Option Value) : Type 0 where
  pub nothing : trace ≡ []
  pub none : answer ≡ None

-- the call has this value, and makes no more effects
pub record IsValue (v : Value) (trace : List Event) (answer : Option Value) : Type 0 where
  pub nothing : trace ≡ []
  pub same : answer ≡ Some v

-- nothing is said where a call isn't answered
abbrev pub on_got : {A : Type 0} → Got A → Type 0 → (A → Type 0) → Type 0
on_got unknown failed given = Unit {0}
on_got fails failed given = failed
on_got (gives v) failed given = given v

-- an impure call that is answered none ends the term
abbrev pub on_answer : Option Value → Type 0 → Type 0 → Type 0
on_answer None failed given = failed
on_answer (Some v) failed given = given

-- The right side makes its impure calls in order, each once its arguments have values, and then has its result, after these answers.
-- The first of these that fails, or needs a failed call, ends the term with none. `makes` relates a call to its effects and its answer.
abbrev pub Right : Completion → (ℕ → Values → List Event → Option Value → Type 0) → (ℕ → Value) → List (Option Value) → List Step → Word
    → List Event → Option Value → Type 0
Right c makes a done [] result trace answer =
    on_got (word_value c a done result) (IsFailure trace answer) (λ v. IsValue v trace answer)
Right c makes a done (s ∷ steps) result trace answer = on_got (word_values c a done s.args) (IsFailure trace answer) (λ vs.
    (effects : List Event) × (rest : List Event) × (b : Option Value) × (trace ≡ effects ++ rest) × makes s.term vs effects b
    × on_answer b (IsFailure rest answer) (Right c makes a (done ++ b ∷ []) steps result rest answer))

-- what a rule's right side does, where its variables have these values
abbrev pub RightOf : TermFacts → Completion → (ℕ → Values → List Event → Option Value → Type 0) → (ℕ → Value) → TypedRule
    → List Event → Option Value → Type 0
RightOf facts c makes a rule trace answer = Right c makes a [] (steps_of facts rule.right) (word_of facts rule.right) trace answer
