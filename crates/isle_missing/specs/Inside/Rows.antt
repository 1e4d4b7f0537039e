-- Rules as lists of demands, and what is left of them.
use Rattle.std.specs.Prelude.{◌≡◌, ◌==◌, ◌&&◌, not, false, ℕ, Bool, List, [], ◌∷◌, IsTrue, Contains, if◌then◌else◌}
use Rattle.std.specs.List.{filter, list_any}
use Rattle.isle_missing.specs.declared.demand.Demand.{Demand}
use Rattle.isle_missing.specs.declared.demand.Demand.TheVariants.{Passes, Same}
use Rattle.isle_missing.specs.declared.rows.Choice.{Choice}
use Rattle.isle_missing.specs.declared.rows.Choice.TheVariants.{NoRule, Matches, Ask}
use Rattle.isle_missing.specs.Sites.{Sites, single_tests}
use Rattle.isle_missing.specs.Demands.{passes}

-- whether two demands are one
abbrev pub same_demand : Demand → Demand → Bool
same_demand (Passes s t) (Passes u v) = (s.0 == u.0) && (t.0 == v.0)
same_demand (Passes s t) (Same a b) = false
same_demand (Same a b) (Passes s t) = false
same_demand (Same a b) (Same c d) = (a.0 == c.0) && (b.0 == d.0)

-- whether the second asks another test of the first's site
abbrev pub denies : Demand → Demand → Bool
denies (Passes s t) (Passes u v) = (s.0 == u.0) && not (t.0 == v.0)
denies (Passes s t) (Same a b) = false
denies (Same a b) e = false

-- whether a rule can't match where the demand holds
abbrev pub is_denied : Demand → List Demand → Bool
is_denied d row = list_any (denies d) row

-- whether a rule has the demand
abbrev pub has_demand : Demand → List Demand → Bool
has_demand d row = list_any (same_demand d) row

-- a rule's other demands
abbrev pub without : Demand → List Demand → List Demand
without d row = filter (λ e. not (same_demand d e)) row

-- the rules that may match where the demand holds, by what is left of them
abbrev pub where_holds : Demand → List (List Demand) → List (List Demand)
where_holds d [] = []
where_holds d (row ∷ rows) = if is_denied d row then where_holds d rows else without d row ∷ where_holds d rows

-- those that may match where it fails
abbrev pub where_fails : Demand → List (List Demand) → List (List Demand)
where_fails d rows = filter (λ row. not (has_demand d row)) rows

-- that both sites pass a test, for each of these
abbrev pub apart_by : ℕ → ℕ → List ℕ → List (List Demand)
apart_by a b [] = []
apart_by a b (t ∷ rest) = (passes a t ∷ passes b t ∷ []) ∷ apart_by a b rest

-- What two sites that aren't equal never do: that both pass a test that only one value passes.
abbrev pub apart : Sites → ℕ → ℕ → List (List Demand)
apart sites a b = apart_by a b (single_tests sites a)

-- what there is to ask: the first demand of some rule, which has no other if it is alone
abbrev pub IsChoice : List (List Demand) → Choice → Type 0
IsChoice rows NoRule = rows ≡ []
IsChoice rows Matches = Contains rows []
IsChoice rows (Ask d alone) = (rest : List Demand) × Contains rows (d ∷ rest) × (IsTrue alone → rest ≡ [])
