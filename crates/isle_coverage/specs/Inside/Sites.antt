-- What is known of the tests of sites: which are all of a site's type, and which of them only one value passes.
use Rattle.std.specs.Prelude.{◌≡◌, ℕ, true, List, All, Contains, Option, Some, slice_get}
use Rattle.std.specs.List.{AllZip}
use Rattle.isle_types.specs.declared.ids.TypeId.{TypeId}
use Rattle.isle_missing.specs.declared.ids.TestId.{TestId}
use Rattle.isle_missing.specs.Sites.{Sites, all_tests, is_single, numbers}
use Rattle.isle_blocks.specs.declared.ids.BindingId.{BindingId}
use Rattle.isle_blocks.specs.declared.constraint.Constraint.{Constraint}
use Rattle.isle_blocks.specs.declared.rule.Rule.{Rule}
use Rattle.isle_program.specs.declared.program.Program.{Program}
use Rattle.isle_coverage.specs.Inside.Complete.{AreComplete}
use Rattle.isle_coverage.specs.Inside.Tables.{HasNumber}
use Rattle.isle_coverage.specs.Inside.Tests.{is_single_test, typed_test}

-- one of the rules has a test of a site that is of this type
pub record IsTestedAs (rules : List Rule) (s : ℕ) (ty : TypeId) : Type 0 where
  pub rule : Rule
  pub site : BindingId
  pub test : Constraint
  pub listed : Contains rules rule
  pub asked : Contains rule.constraints (site, test)
  pub of_site : site.0 ≡ s
  pub typed : typed_test test ≡ Some ty

-- each type that is noted of a site is one of which a rule tests it
abbrev pub AreNoted : List Rule → List (Option TypeId) → Type 0
AreNoted rules noted = (s : ℕ) (ty : TypeId) → slice_get noted s ≡ Some (Some ty) → IsTestedAs rules s ty

-- the numbers of tests, in their order
abbrev pub AreNumbers : List Constraint → List Constraint → List TestId → Type 0
AreNumbers table tests ids = AllZip (λ (c : Constraint) (t : TestId). HasNumber table c t.0) tests ids

-- the numbers of tests of which each value of a type passes one
abbrev pub AreOfType : Program → List Constraint → TypeId → List TestId → Type 0
AreOfType program table ty ids = (tests : List Constraint) × AreComplete program ty.0 tests × AreNumbers table tests ids

-- the numbers of tests that only one value passes
abbrev pub AreSingles : List Constraint → List TestId → Type 0
AreSingles table ids = All (λ (t : TestId). (c : Constraint) × (slice_get table t.0 ≡ Some c) × (is_single_test c ≡ true)) ids

-- What is known of sites: tests of which each value passes one are those of the type of which a rule tests the site, and only one value passes
-- one of which that is said.
pub record AreKnown (program : Program) (rules : List Rule) (table : List Constraint) (sites : Sites) : Type 0 where
  pub all : (s : ℕ) (ts : List ℕ) → all_tests sites s ≡ Some ts
      → (ty : TypeId) × (ids : List TestId) × IsTestedAs rules s ty × AreOfType program table ty ids × (ts ≡ numbers ids)
  pub single : (s t : ℕ) → is_single sites s t ≡ true → (c : Constraint) × (slice_get table t ≡ Some c) × (is_single_test c ≡ true)
