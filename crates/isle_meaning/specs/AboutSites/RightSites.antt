-- A right side by its sites: its impure calls in order, each on what its arguments' sites hold after the answers so far, then its result.
use Rattle.std.specs.Prelude.{◌≡◌, ℕ, List, [], ◌∷◌, ◌++◌, Option}
use Rattle.isle_rules.specs.TypedRules.{TypedRule}
use Rattle.isle_meaning.specs.Values.{Value, Values}
use Rattle.isle_meaning.specs.Facts.{TermFacts}
use Rattle.isle_meaning.specs.Answers.{Completion}
use Rattle.isle_meaning.specs.Held.{plain, value, values}
use Rattle.isle_meaning.specs.Words.{Word, Step, word_of, steps_of}
use Rattle.isle_meaning.specs.Sites.{Site, site_of, sites_of}
use Rattle.isle_meaning.specs.Demands.{vars_of}
use Rattle.isle_meaning.specs.RightSides.{IsFailure, IsValue, on_got, on_answer}
use Rattle.isle_meaning.specs.Worlds.{Event}

-- after these answers, from these steps on, where the variables stand for sites
abbrev pub RightBySites : TermFacts → Completion → (ℕ → Values → List Event → Option Value → Type 0) → Values → (ℕ → Site)
    → List (Option Value) → List Step → Word → List Event → Option Value → Type 0
RightBySites facts c makes args vars done [] result trace answer =
    on_got (plain (value facts c args done (site_of facts vars result))) (IsFailure trace answer) (λ v. IsValue v trace answer)
RightBySites facts c makes args vars done (s ∷ steps) result trace answer =
    on_got (values facts c args done (sites_of facts vars s.args)) (IsFailure trace answer) (λ vs.
    (effects : List Event) × (rest : List Event) × (b : Option Value) × (trace ≡ effects ++ rest) × makes s.term vs effects b
    × on_answer b (IsFailure rest answer) (RightBySites facts c makes args vars (done ++ b ∷ []) steps result rest answer))

-- a rule's right side, by what its variables stand for
abbrev pub RightOfSites : TermFacts → Completion → (ℕ → Values → List Event → Option Value → Type 0) → Values → TypedRule
    → List Event → Option Value → Type 0
RightOfSites facts c makes args rule trace answer =
    RightBySites facts c makes args (vars_of facts rule) [] (steps_of facts rule.right) (word_of facts rule.right) trace answer
