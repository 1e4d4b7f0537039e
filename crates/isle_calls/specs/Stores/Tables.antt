-- The number of a node in a store.
use Rattle.std.specs.Prelude.{◌≡◌, ℕ, List, Option, Some, MatchOption, slice_get}

-- the item's place, or nothing where it stands nowhere
abbrev pub IsFound : {X : Type 0} → List X → X → Option ℕ → Type 0
IsFound items item found = MatchOption found ((n : ℕ) → slice_get items n ≡ Some item → ⊥) (λ n. slice_get items n ≡ Some item)
