-- Rules by what they demand, with sites and tests by their numbers.
use Rattle.std.specs.Prelude.{◌≡◌, ◌++◌, ℕ, List, [], ◌∷◌, map}
use Rattle.std.specs.List.{AllZip, flat_map}
use Rattle.isle_missing.specs.declared.demand.Demand.{Demand}
use Rattle.isle_missing.specs.Demands.{passes, equals}
use Rattle.isle_blocks.specs.declared.ids.BindingId.{BindingId}
use Rattle.isle_blocks.specs.declared.constraint.Constraint.{Constraint}
use Rattle.isle_blocks.specs.declared.rule.Rule.{Rule}
use Rattle.isle_blocks.specs.ListedSets.{ListsEqualSites}
use Rattle.isle_coverage.specs.Inside.Tables.{HasNumber}

-- that a site passes a test, by their numbers
abbrev pub IsTestDemand : List Constraint → BindingId × Constraint → Demand → Type 0
IsTestDemand table tested d = (t : ℕ) × HasNumber table tested.1 t × (d ≡ passes tested.0.0 t)

-- behind some demands those of a rule's tests
abbrev pub AreTestDemands : List Constraint → List (BindingId × Constraint) → List Demand → List Demand → Type 0
AreTestDemands table tests old new = (added : List Demand) × AllZip (IsTestDemand table) tests added × (new ≡ old ++ added)

-- that the first of some sites holds the same as each other one
abbrev pub same_demands : List BindingId → List Demand
same_demands [] = []
same_demands (first ∷ others) = map (λ (other : BindingId). equals first.0 other.0) others

-- behind some demands those of sites that are to be equal, set by set
abbrev pub AreEqualDemands : List (List BindingId) → List Demand → List Demand → Type 0
AreEqualDemands joined old new = (sets : List (List BindingId)) × ListsEqualSites joined sets × (new ≡ old ++ flat_map same_demands sets)

-- what a rule demands: that sites pass its tests, and behind these that sites hold the same
pub record IsRow (table : List Constraint) (rule : Rule) (row : List Demand) : Type 0 where
  pub tested : List Demand
  pub tests : AllZip (IsTestDemand table) rule.constraints tested
  pub joined : AreEqualDemands rule.equals tested row
