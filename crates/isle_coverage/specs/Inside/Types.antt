-- The tests of a type.
use Rattle.std.specs.Prelude.{◌≡◌, ◌⊎◌, ℕ, List, [], Contains, Option, Some, IfSome, IsSomeAnd}
use Rattle.isle_types.specs.declared.ids.TypeId.{TypeId}
use Rattle.isle_missing.specs.declared.ids.TestId.{TestId}
use Rattle.isle_missing.specs.Sites.{KnownTests, numbers}
use Rattle.isle_blocks.specs.declared.constraint.Constraint.{Constraint}
use Rattle.isle_program.specs.declared.program.Program.{Program}
use Rattle.isle_coverage.specs.Inside.Sites.{AreOfType}
use Rattle.isle_coverage.specs.declared.sites.TypeTests.{TypeTests}

-- the tests that are listed are those of which each value of the type passes one
abbrev pub IsTypeTests : Program → List Constraint → TypeTests → Type 0
IsTypeTests program table known = IfSome known.tests (λ ids. AreOfType program table known.ty ids.items)

-- these are listed for a noted type
pub record IsKnownOf (all : List TypeTests) (noted : Option TypeId) (ids : List TestId) : Type 0 where
  pub known : TypeTests
  pub listed : Contains all known
  pub of_type : noted ≡ Some known.ty
  pub there : IsSomeAnd known.tests (λ tests. tests.items ≡ ids)

-- what is known of a site: the tests of the type that is noted of it, and these single ones or none
pub record IsSiteOf (types : List TypeTests) (singles : List TestId) (noted : Option TypeId) (known : KnownTests) : Type 0 where
  pub all : (ts : List ℕ) → known.all ≡ Some ts → (ids : List TestId) × IsKnownOf types noted ids × (ts ≡ numbers ids)
  pub single : (known.single ≡ numbers singles) ⊎ (known.single ≡ [])
