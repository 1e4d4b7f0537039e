-- The tests and the sets of equal sites of a closed rule, from each site's test and each site's representative.
use Rattle.std.specs.Prelude.{◌≡◌, ◌≢◌, ◌<◌, ◌↔◌, ℕ, Bool, true, List, [], length, Contains, Option, None, Some, slice_get, slice_index, slice_index_or, nat_eq}
use Rattle.isle_containers.specs.JoinedSets.{are_joined, members}
use Rattle.isle_blocks.specs.declared.ids.BindingId.{BindingId}
use Rattle.isle_blocks.specs.declared.constraint.Constraint.{Constraint}
use Rattle.isle_blocks.specs.Inside.ClosureStates.{HasOwn}

-- sites are equal as their numbers
abbrev pub site_eq : BindingId → BindingId → Bool
site_eq a b = nat_eq a.0 b.0

-- the tests are those of the sites, each at the number that its site has got
abbrev pub AreTestsOf : List BindingId → List (Option Constraint) → List (BindingId × Constraint) → Type 0
AreTestsOf numbers each tests = (id : BindingId) (test : Constraint)
    → Contains tests (id, test) ↔ ((k : ℕ) × (slice_get numbers k ≡ Some id) × HasOwn each k test)

-- each site has the test of its representative
abbrev pub HaveClassTests : List (Option Constraint) → List ℕ → Type 0
HaveClassTests each class = (a : ℕ) → a < length class → slice_index_or each a None ≡ slice_index_or each (slice_index class a) None

-- a site without a test
pub record IsUntested (each : List (Option Constraint)) (class : List ℕ) (a : ℕ) : Type 0 where
  pub inside : a < length class
  pub untested : slice_index_or each a None ≡ None

-- a different site is of the same class
abbrev pub HasAnother : List ℕ → ℕ → Type 0
HasAnother class a = (b : ℕ) × (b < length class) × (b ≢ a) × (slice_index class b ≡ slice_index class a)

-- two sites of one class without a test
abbrev pub MustBeEqual : List (Option Constraint) → List ℕ → ℕ → ℕ → Type 0
MustBeEqual each class a b = IsUntested each class a × IsUntested each class b × (slice_index class a ≡ slice_index class b)

-- two sites of one class without a test have got these numbers
abbrev pub AreMadeEqual : List BindingId → List (Option Constraint) → List ℕ → BindingId → BindingId → Type 0
AreMadeEqual numbers each class a b =
    (k : ℕ) × (l : ℕ) × (slice_get numbers k ≡ Some a) × (slice_get numbers l ≡ Some b) × MustBeEqual each class k l

-- a site without a test has got this number, and another site is of its class
abbrev pub IsMadeEqual : List BindingId → List (Option Constraint) → List ℕ → BindingId → Type 0
IsMadeEqual numbers each class a = (k : ℕ) × (slice_get numbers k ≡ Some a) × IsUntested each class k × HasAnother class k

-- The sets are the classes of sites without a test that have two sites at least, by the numbers that the sites have got.
pub record AreEqualitiesOf (numbers : List BindingId) (each : List (Option Constraint)) (class : List ℕ) (sets : List (List BindingId)) : Type 0 where
  pub joined : (a b : BindingId) → a ≢ b → (are_joined site_eq sets a b ≡ true) ↔ AreMadeEqual numbers each class a b
  pub member : (a : BindingId) → Contains (members sets) a ↔ IsMadeEqual numbers each class a
  pub none : ((a : ℕ) → IsUntested each class a → HasAnother class a → ⊥) → sets ≡ []
