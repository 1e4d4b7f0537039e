-- The facts that are so where each site passes the test that a table has for it.
use Rattle.std.specs.Prelude.{◌≡◌, ◌==◌, ◌&&◌, not, ℕ, Bool, true, false, List, Option, Some, None, slice_get, if◌then◌else◌}
use Rattle.std.specs.List.{list_all}
use Rattle.isle_missing.specs.declared.demand.Demand.{Demand}
use Rattle.isle_missing.specs.declared.demand.Demand.TheVariants.{Passes, Same}
use Rattle.isle_missing.specs.declared.facts.Fact.{Fact}
use Rattle.isle_missing.specs.declared.ids.TestId.{TestId}
use Rattle.isle_missing.specs.Sites.{Sites, all_tests, is_listed, is_single}

-- the test that each site passes, where it passes one
abbrev pub Table : Type 0
Table = List (Option TestId)

-- the test that stands at a place of a table
abbrev pub placed : Option (Option TestId) → Option TestId
placed None = None
placed (Some test) = test

-- the test that a site passes by a table
abbrev pub test_at : Table → ℕ → Option TestId
test_at table s = placed (slice_get table s)

-- whether this is the test
abbrev pub is_test : Option TestId → ℕ → Bool
is_test None t = false
is_test (Some u) t = u.0 == t

-- whether this is a test that only one value passes, and the other site's too
abbrev pub is_same : Sites → ℕ → Option TestId → Option TestId → Bool
is_same sites a None other = false
is_same sites a (Some t) other = is_single sites a t.0 && is_test other t.0

-- Whether a demand holds by a table. Two sites hold the same where they pass one test that only one value passes.
abbrev pub is_held : Sites → Table → Demand → Bool
is_held sites table (Passes s t) = is_test (test_at table s.0) t.0
is_held sites table (Same a b) = is_same sites a.0 (test_at table a.0) (test_at table b.0)

-- whether a fact is so by a table
abbrev pub is_so : Sites → Table → Fact → Bool
is_so sites table f = if f.holds then is_held sites table f.demand else not (is_held sites table f.demand)

-- whether all are
abbrev pub are_so : Sites → Table → List Fact → Bool
are_so sites table facts = list_all (is_so sites table) facts

-- whether a test is one of these, where they are known
abbrev pub is_among : Option TestId → Option (List ℕ) → Bool
is_among o None = true
is_among None (Some ts) = false
is_among (Some t) (Some ts) = is_listed ts t.0

-- each site passes one of the tests of which each of its values does, where these are known
abbrev pub HaveTests : Sites → Table → Type 0
HaveTests sites table = (s : ℕ) → is_among (test_at table s) (all_tests sites s) ≡ true

-- the facts are so by some table
abbrev pub ArePossible : Sites → List Fact → Type 0
ArePossible sites facts = (table : Table) × (are_so sites table facts ≡ true) × HaveTests sites table
