-- The tests of one site in rules, in order: rules that have different ones there need not be compared.
use Rattle.std.specs.Prelude.{◌≡◌, ◌<◌, ◌⊎◌, ℕ, false, List, length, Contains, Option, Some, None, slice_get}
use Rattle.std.specs.BTreeMap.{is_at}
use Rattle.std.specs.Map.{lookup}
use Rattle.std.specs.Option.{option_cmp}
use Rattle.std.specs.Ordering.{nat_cmp, ordering_then, is_lt}
use Rattle.std.specs.declared.cmp.Ordering.{Ordering}
use Rattle.isle_blocks.specs.declared.ids.BindingId.{BindingId}
use Rattle.isle_blocks.specs.declared.constraint.Constraint.{Constraint}
use Rattle.isle_blocks.specs.declared.faults.Fault.{Fault}
use Rattle.isle_blocks.specs.declared.rule.Rule.{Rule}
use Rattle.isle_blocks.specs.FaultsBetween.{FaultAt}
use Rattle.isle_blocks.specs.Orders.{constraint_order}
use Rattle.isle_blocks.specs.Rules.{site_cmp}

-- a rule's test of a site
abbrev pub test_at : BindingId → Rule → Option Constraint
test_at site rule = lookup (is_at (site_cmp site)) rule.constraints

-- such a test and the rule's place
abbrev pub Key : Type 0
Key = Option Constraint × ℕ

-- keys ascend by the test, no test before any, then by the place
abbrev pub key_order : Key → Key → Ordering
key_order a b = ordering_then (option_cmp constraint_order a.0 b.0) (nat_cmp a.1 b.1)

-- the keys of all rules, in ascending order
pub record AreKeys (site : BindingId) (rules : List Rule) (keys : List Key) : Type 0 where
  pub each : (p : ℕ) (key : Key) → slice_get keys p ≡ Some key → (rule : Rule) × (slice_get rules key.1 ≡ Some rule) × (key.0 ≡ test_at site rule)
  pub all : (i : ℕ) → i < length rules → (p : ℕ) × (key : Key) × (slice_get keys p ≡ Some key) × (key.1 ≡ i)
  pub ascending : (p q : ℕ) (a b : Key) → p < q → slice_get keys p ≡ Some a → slice_get keys q ≡ Some b → is_lt (key_order b a) ≡ false

-- two tests of one site are one, or one of them is lacking
abbrev pub MayMeet : Option Constraint → Option Constraint → Type 0
MayMeet one other = (one ≡ None) ⊎ (other ≡ None) ⊎ (one ≡ other)

-- a pair of keys of which the first stands before a bound
abbrev pub IsEarlier : ℕ → ℕ → ℕ → Type 0
IsEarlier bound k l = (k < bound) × (k < l)

-- the pair of places stands in the list, if it has the fault
abbrev pub IsListed : List Rule → Fault → List (ℕ × ℕ) → ℕ → ℕ → Type 0
IsListed rules fault pairs i j = FaultAt rules fault i j → Contains pairs (i, j)

-- the pairs of places are faults, and among them are those, either way round, of all pairs of keys with P
pub record FindsFaults (rules : List Rule) (fault : Fault) (keys : List Key) (P : ℕ → ℕ → Type 0) (pairs : List (ℕ × ℕ)) : Type 0 where
  pub sound : (i j : ℕ) → Contains pairs (i, j) → FaultAt rules fault i j
  pub all : (k l : ℕ) (a b : Key) → P k l → slice_get keys k ≡ Some a → slice_get keys l ≡ Some b
      → IsListed rules fault pairs a.1 b.1 × IsListed rules fault pairs b.1 a.1

-- a pair of places is added, if it has the fault
pub record AddsFault (rules : List Rule) (fault : Fault) (i j : ℕ) (old new : List (ℕ × ℕ)) : Type 0 where
  pub kept : (pair : ℕ × ℕ) → Contains old pair → Contains new pair
  pub added : IsListed rules fault new i j
  pub only : (p q : ℕ) → Contains new (p, q) → Contains old (p, q) ⊎ FaultAt rules fault p q
