-- Which rules of a rule set may match together, by their tests and equalities. A rule has at most one test of each site.
use Rattle.std.specs.Prelude.{◌≡◌, ◌≢◌, ◌≤◌, ◌<◌, ◌<ℤ◌, ◌↔◌, ℕ, IsTrue, List, [], length, Contains}
use Rattle.std.specs.Ordering.{nat_cmp}
use Rattle.std.specs.declared.cmp.Ordering.{Ordering}
use Rattle.isle_blocks.specs.declared.ids.BindingId.{BindingId}
use Rattle.isle_blocks.specs.declared.constraint.Constraint.{Constraint}
use Rattle.isle_blocks.specs.declared.rule.Rule.{Rule}
use Rattle.isle_blocks.specs.declared.rule.Overlap.{Overlap}
use Rattle.isle_blocks.specs.declared.rule.Overlap.TheVariants.{No, Yes}

-- sites are ordered as their numbers
abbrev pub site_cmp : BindingId → BindingId → Ordering
site_cmp a b = nat_cmp a.0 b.0

-- tests of sites
abbrev pub Tests : Type 0
Tests = List (BindingId × Constraint)

-- some site has different tests in the two
pub record AreApart (first second : Tests) : Type 0 where
  pub site : BindingId
  pub one : Constraint
  pub other : Constraint
  pub has_one : Contains first (site, one)
  pub has_other : Contains second (site, other)
  pub differ : one ≢ other

-- each test of the first stands in the second
abbrev pub AreWithin : Tests → Tests → Type 0
AreWithin first second = (site : BindingId) (test : Constraint) → Contains first (site, test) → Contains second (site, test)

-- no site has different tests, and n tests stand in both
pub record HaveInCommon (first second : Tests) (n : ℕ) : Type 0 where
  pub agree : AreApart first second → ⊥
  pub within_first : n ≤ length first
  pub within_second : n ≤ length second
  pub all_of_first : (n ≡ length first) ↔ AreWithin first second
  pub all_of_second : (n ≡ length second) ↔ AreWithin second first

-- some site has different tests in the two rules
abbrev pub Differ : Rule → Rule → Type 0
Differ a b = AreApart a.constraints b.constraints

-- neither has equalities, and each test of the one with fewer tests stands in the other
pub record IsSubset (a b : Rule) : Type 0 where
  pub free : a.equals ≡ []
  pub other_free : b.equals ≡ []
  pub fewer : length a.constraints ≤ length b.constraints → AreWithin a.constraints b.constraints
  pub more : length b.constraints < length a.constraints → AreWithin b.constraints a.constraints

-- what an answer says of two rules
abbrev pub OverlapIs : Rule → Rule → Overlap → Type 0
OverlapIs a b No = Differ a b
OverlapIs a b (Yes subset) = (Differ a b → ⊥) × (IsTrue subset ↔ IsSubset a b)

-- they have one priority and may match together
abbrev pub Overlaps : Rule → Rule → Type 0
Overlaps a b = (a.prio ≡ b.prio) × (Differ a b → ⊥)

-- the one of higher priority, with no more tests, matches whatever the other does
pub record Shadows (high low : Rule) : Type 0 where
  pub above : low.prio <ℤ high.prio
  pub meet : Differ high low → ⊥
  pub no_more : length high.constraints ≤ length low.constraints
  pub subset : IsSubset high low
