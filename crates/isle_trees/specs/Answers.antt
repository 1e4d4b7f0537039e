-- What is known of sites.
use Rattle.std.specs.Prelude.{◌≡◌, ◌≢◌, ℕ, Bool, true, false, List}
use Rattle.std.specs.List.{list_all}
use Rattle.isle_trees.specs.Got.{Got, unknown, fails, gives}

-- a site's number to what is known of it
abbrev pub Answers : Type 0 → Type 0
Answers V = ℕ → Got V

abbrev pub HasValue : {V : Type 0} → Got V → Type 0
HasValue {V} g = (x : V) × (g ≡ gives x)

abbrev pub has_value : {V : Type 0} → Got V → Bool
has_value unknown = false
has_value fails = false
has_value (gives x) = true

abbrev pub all_have : {V : Type 0} → Answers V → List ℕ → Bool
all_have v sites = list_all (λ s. has_value (v s)) sites

-- whatever the first answers know, the second know too, and the same
abbrev pub Extends : {V : Type 0} → Answers V → Answers V → Type 0
Extends r v = (s : ℕ) → r s ≢ unknown → v s ≡ r s

-- what both know is the same
abbrev pub Agree : {V : Type 0} → Answers V → Answers V → Type 0
Agree r v = (s : ℕ) → r s ≢ unknown → v s ≢ unknown → v s ≡ r s
