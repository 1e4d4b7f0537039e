-- What is known of the tests of sites.
use Rattle.std.specs.Prelude.{◌==◌, ℕ, Bool, List, [], Option, Some, None, map, slice_get}
use Rattle.std.specs.List.{list_any}
use Rattle.isle_missing.specs.declared.ids.TestId.{TestId}

-- Tests of which each value of a site passes one, where they are known. Tests that only one value passes, of those that are asked there;
-- others are taken to be passed by many.
pub record KnownTests : Type 0 where
  pub all : Option (List ℕ)
  pub single : List ℕ

-- tests by their numbers
abbrev pub numbers : List TestId → List ℕ
numbers tests = map (λ (test : TestId). test.0) tests

-- whether a test is listed
abbrev pub is_listed : List ℕ → ℕ → Bool
is_listed tests t = list_any (λ u. u == t) tests

-- what is known of each site by its number
abbrev pub Sites : Type 0
Sites = List KnownTests

-- tests of which each value passes one, where they are known
abbrev pub all_of : Option KnownTests → Option (List ℕ)
all_of None = None
all_of (Some known) = known.all

-- the same of a site
abbrev pub all_tests : Sites → ℕ → Option (List ℕ)
all_tests sites s = all_of (slice_get sites s)

-- tests that only one value passes
abbrev pub singles_of : Option KnownTests → List ℕ
singles_of None = []
singles_of (Some known) = known.single

-- the same of a site
abbrev pub single_tests : Sites → ℕ → List ℕ
single_tests sites s = singles_of (slice_get sites s)

-- whether it is said that only one value passes a test of a site
abbrev pub is_single : Sites → ℕ → ℕ → Bool
is_single sites s t = is_listed (single_tests sites s) t
