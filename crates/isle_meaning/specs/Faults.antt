-- Faults of rules and of pairs of rules, by what is derived from their demands.
use Rattle.std.specs.Prelude.{◌≡◌, ◌≢◌, ◌<◌, ◌<ℤ◌, ◌≤◌, ◌⊎◌, ◌↔◌, ℕ, ℤ, List, length, Contains, slice_get, Some}
use Rattle.isle_meaning.specs.Sites.{Site}
use Rattle.isle_meaning.specs.Demands.{Constraint, Demand, constrained, equal}
use Rattle.isle_meaning.specs.Derived.{Derived, Closed, Inside}

-- a site with two different constraints
pub record Conflict (D : Demand → Type 0) : Type 0 where
  pub site : Site
  pub one : Constraint
  pub other : Constraint
  pub has_one : Derived D (constrained site one)
  pub has_other : Derived D (constrained site other)
  pub differ : one ≢ other

-- a site that is equal to a field of itself, at any depth
pub record Endless (D : Demand → Type 0) : Type 0 where
  pub site : Site
  pub part : Site
  pub inside : Inside D site part
  pub same : Derived D (equal site part)

abbrev pub IsUnreachable : (Demand → Type 0) → Type 0
IsUnreachable D = Conflict D ⊎ Endless D

-- some site has different constraints in the two
pub record Differ (D E : Demand → Type 0) : Type 0 where
  pub site : Site
  pub one : Constraint
  pub other : Constraint
  pub has_one : Derived D (constrained site one)
  pub has_other : Derived E (constrained site other)
  pub apart : one ≢ other

abbrev pub MayOverlap : (Demand → Type 0) → (Demand → Type 0) → Type 0
MayOverlap D E = Differ D E → ⊥

-- no equalities are left
abbrev pub IsFree : (Demand → Type 0) → Type 0
IsFree D = (s u : Site) → Closed D (equal s u) → ⊥

-- each constraint of the first stands in the second
abbrev pub IsWithin : (Demand → Type 0) → (Demand → Type 0) → Type 0
IsWithin D E = (s : Site) (c : Constraint) → Derived D (constrained s c) → Derived E (constrained s c)

-- so many different sites are of a kind
pub record AreSoMany (P : Site → Type 0) (n : ℕ) : Type 0 where
  pub sites : List Site
  pub number : length sites ≡ n
  pub once : (i j : ℕ) (s : Site) → slice_get sites i ≡ Some s → slice_get sites j ≡ Some s → i ≡ j
  pub all : (s : Site) → P s ↔ Contains sites s

abbrev pub IsConstrained : (Demand → Type 0) → Site → Type 0
IsConstrained D s = (c : Constraint) × Derived D (constrained s c)

-- it stands in an equality that is left
abbrev pub IsLeftEqual : (Demand → Type 0) → Site → Type 0
IsLeftEqual D s = (u : Site) × (Closed D (equal s u) ⊎ Closed D (equal u s))

-- the constrained sites are so many
abbrev pub HasConstraints : (Demand → Type 0) → ℕ → Type 0
HasConstraints D n = AreSoMany (IsConstrained D) n

-- constrained sites plus sites in equalities left
abbrev pub HasTotal : (Demand → Type 0) → ℕ → Type 0
HasTotal D n = AreSoMany (λ s. IsConstrained D s ⊎ IsLeftEqual D s) n

-- neither has equalities left, and the constraints of the one with fewer stand in the other
abbrev pub IsSubset : (Demand → Type 0) → ℕ → (Demand → Type 0) → ℕ → Type 0
IsSubset D n E m = IsFree D × IsFree E × (n ≤ m → IsWithin D E) × (m < n → IsWithin E D)

-- rules of a term without `multi`, with their priorities: of one priority that may overlap
abbrev pub Overlaps : (Demand → Type 0) → ℤ → (Demand → Type 0) → ℤ → Type 0
Overlaps D p E q = (p ≡ q) × MayOverlap D E

-- the higher one, with no more constraints, hides the lower
pub record Shadows (high low : Demand → Type 0) (p q : ℤ) : Type 0 where
  pub above : q <ℤ p
  pub meet : MayOverlap high low
  pub fewer : ℕ
  pub many : ℕ
  pub has_fewer : HasConstraints high fewer
  pub has_many : HasConstraints low many
  pub no_more : fewer ≤ many
  pub subset : IsSubset high fewer low many
