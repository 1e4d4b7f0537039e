-- Answers to calls.
use Rattle.std.specs.Prelude.{◌≡◌, ℕ, zero, suc, true, false, List, Option, Some, None, slice_get, length}
use Rattle.isle_meaning.specs.Got.{Got, unknown, fails, gives}
use Rattle.isle_meaning.specs.Values.{Value, Values, count}
use Rattle.isle_meaning.specs.Facts.{TermFacts}
use Rattle.isle_meaning.specs.Sites.{Site}

-- answers to pure calls: one of a call that isn't `multi`, a list of one that is, and of each multi call a place in its list
pub record Completion : Type 0 where
  pub construct : ℕ → Values → Got Value
  pub extract : ℕ → Value → Got Values
  pub constructs : ℕ → Values → Got (List Values)
  pub extracts : ℕ → Value → Got (List Values)
  pub place : Site → ℕ

-- the declarations allow its answers
pub record IsAllowed (facts : TermFacts) (c : Completion) : Type 0 where
  pub partial : (t : ℕ) (vs : Values) → c.construct t vs ≡ fails → facts.partial t ≡ true
  pub fallible : (t : ℕ) (v : Value) → c.extract t v ≡ fails → facts.infallible t ≡ false
  pub outputs : (t : ℕ) (v : Value) (vs : Values) → c.extract t v ≡ gives vs → count vs ≡ length (facts.inputs t)

-- what an impure call was answered, among the answers so far
abbrev pub answered : Option (Option Value) → Got Value
answered None = unknown
answered (Some None) = fails
answered (Some (Some v)) = gives v

-- what a call is answered: a pure one has the number 0, an impure one counts from 1
abbrev pub answer_of : Completion → List (Option Value) → ℕ → ℕ → Values → Got Value
answer_of c done t zero vs = c.construct t vs
answer_of c done t (suc i) vs = answered (slice_get done i)
