-- Demands by their numbers, and the worlds in which they hold.
use Rattle.std.specs.Prelude.{◌≡◌, ℕ, Bool, true, List, [], ◌∷◌, Option, Some, None, Contains, ◌⊎◌}
use Rattle.isle_missing.specs.declared.demand.Demand.{Demand}
use Rattle.isle_missing.specs.declared.demand.Demand.TheVariants.{Passes, Same}
use Rattle.isle_missing.specs.Sites.{Sites, all_tests, is_single}

-- that a site passes a test, by their numbers
abbrev pub passes : ℕ → ℕ → Demand
passes s t = Passes (record { 0 = s }) (record { 0 = t })

-- that two sites hold the same
abbrev pub equals : ℕ → ℕ → Demand
equals a b = Same (record { 0 = a }) (record { 0 = b })

-- What holds of a call. Of one site at most one test passes.
pub record World : Type 0 where
  pub holds : Demand → Bool
  pub one : (s t u : ℕ) → holds (passes s t) ≡ true → holds (passes s u) ≡ true → t ≡ u

-- all that a rule demands holds: the rule matches
abbrev pub AllHold : World → List Demand → Type 0
AllHold w [] = Unit {0}
AllHold w (d ∷ ds) = (w.holds d ≡ true) × AllHold w ds

-- one of the rules matches
abbrev pub SomeMatches : World → List (List Demand) → Type 0
SomeMatches w [] = ⊥
SomeMatches w (row ∷ rows) = AllHold w row ⊎ SomeMatches w rows

-- a site passes one of these tests, where they are known
abbrev pub PassesOne : World → ℕ → Option (List ℕ) → Type 0
PassesOne w s None = Unit {0}
PassesOne w s (Some ts) = (t : ℕ) × Contains ts t × (w.holds (passes s t) ≡ true)

-- Two sites have values. Where they hold the same, they pass the same tests. Where both pass a test that only one value passes, they hold the same.
pub record AreCompared (w : World) (sites : Sites) (a b : ℕ) : Type 0 where
  pub first : PassesOne w a (all_tests sites a)
  pub second : PassesOne w b (all_tests sites b)
  pub carried : (t : ℕ) → w.holds (equals a b) ≡ true → w.holds (passes a t) ≡ w.holds (passes b t)
  pub single : (t : ℕ) → is_single sites a t ≡ true → w.holds (passes a t) ≡ true → w.holds (passes b t) ≡ true → w.holds (equals a b) ≡ true

-- The sites of a demand have values: each passes one of its tests, where these are all, and two are compared by what they hold.
abbrev pub FitsAt : World → Sites → Demand → Type 0
FitsAt w sites (Passes s t) = PassesOne w s.0 (all_tests sites s.0)
FitsAt w sites (Same a b) = AreCompared w sites a.0 b.0

-- those of each demand of a rule do, where what the rule demands before holds
abbrev pub Fits : World → Sites → List Demand → Type 0
Fits w sites [] = Unit {0}
Fits w sites (d ∷ ds) = FitsAt w sites d × (w.holds d ≡ true → Fits w sites ds)

-- of each rule
abbrev pub AllFit : World → Sites → List (List Demand) → Type 0
AllFit w sites [] = Unit {0}
AllFit w sites (row ∷ rows) = Fits w sites row × AllFit w sites rows
