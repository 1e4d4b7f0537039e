-- What facts say of rules and of tests.
use Rattle.std.specs.Prelude.{◌≡◌, ◌≢◌, ◌==◌, ◌&&◌, ◌⊎◌, not, ℕ, Bool, true, false, List, Option, Some, None, Contains, All, if◌then◌else◌}
use Rattle.std.specs.List.{list_any, list_all}
use Rattle.isle_missing.specs.declared.demand.Demand.{Demand}
use Rattle.isle_missing.specs.declared.facts.Fact.{Fact}
use Rattle.isle_missing.specs.declared.facts.Rest.{Rest}
use Rattle.isle_missing.specs.declared.facts.Rest.TheVariants.{Open, Nothing, Only}
use Rattle.isle_missing.specs.declared.ids.TestId.{TestId}
use Rattle.isle_missing.specs.Sites.{Sites, all_tests}
use Rattle.isle_missing.specs.Demands.{passes}
use Rattle.isle_missing.specs.Inside.Rows.{same_demand, is_denied, has_demand}

-- whether a fact says that the demand fails
abbrev pub says_failed : Demand → Fact → Bool
says_failed d f = not f.holds && same_demand d f.demand

-- whether one of the facts does
abbrev pub has_failed : Demand → List Fact → Bool
has_failed d facts = list_any (says_failed d) facts

-- each of these tests has failed at a site, but for those with P
abbrev pub HaveFailed : List Fact → ℕ → List ℕ → (ℕ → Type 0) → Type 0
HaveFailed facts site tests P = (t : ℕ) → Contains tests t → (P t → ⊥) → has_failed (passes site t) facts ≡ true

-- two of these tests of a site, which differ, haven't failed
pub record AreOpen (facts : List Fact) (site : ℕ) (tests : List ℕ) : Type 0 where
  pub first : ℕ
  pub second : ℕ
  pub differ : first ≢ second
  pub first_listed : Contains tests first
  pub second_listed : Contains tests second
  pub first_open : has_failed (passes site first) facts ≡ false
  pub second_open : has_failed (passes site second) facts ≡ false

-- a fact says that a site passes some test
abbrev pub IsPassed : List Fact → ℕ → Type 0
IsPassed facts site = (t : ℕ) × Contains facts (record { demand = passes site t; holds = true })

-- one of these tests that hasn't failed at a site, or none, where each has
abbrev pub IsOpenTest : List Fact → ℕ → List TestId → Option TestId → Type 0
IsOpenTest facts site tests None = All (λ (t : TestId). has_failed (passes site t.0) facts ≡ true) tests
IsOpenTest facts site tests (Some t) = Contains tests t × (has_failed (passes site t.0) facts ≡ false)

-- whether a test differs from another and hasn't failed at a site
abbrev pub is_other_open : List Fact → ℕ → TestId → TestId → Bool
is_other_open facts site known t = not (t.0 == known.0) && not (has_failed (passes site t.0) facts)

-- whether one of these tests does
abbrev pub has_other_open : List Fact → ℕ → List TestId → TestId → Bool
has_other_open facts site tests known = list_any (is_other_open facts site known) tests

-- what is left of the tests of a site: none, one, or several, where those are known of which each value passes one
abbrev pub IsRest : Sites → List Fact → ℕ → Rest → Type 0
IsRest sites facts site Open = (all_tests sites site ≡ None) ⊎ ((ts : List ℕ) × (all_tests sites site ≡ Some ts) × AreOpen facts site ts)
IsRest sites facts site Nothing = (ts : List ℕ) × (all_tests sites site ≡ Some ts) × HaveFailed facts site ts (λ t. ⊥)
IsRest sites facts site (Only u) = (ts : List ℕ) × (all_tests sites site ≡ Some ts) × HaveFailed facts site ts (λ t. t ≡ u.0)

-- whether a rule doesn't match where the fact is so: the demand that holds is of another test, or the one that fails is the rule's
abbrev pub refutes : List Demand → Fact → Bool
refutes row f = if f.holds then is_denied f.demand row else has_demand f.demand row

-- whether one of the facts says that a rule doesn't match
abbrev pub is_refuted : List Fact → List Demand → Bool
is_refuted facts row = list_any (refutes row) facts

-- whether they say so of each rule
abbrev pub are_refuted : List Fact → List (List Demand) → Bool
are_refuted facts rows = list_all (is_refuted facts) rows
