-- What the contracts of `SortedSet` cite. A set is seen as its members, in the order in which they came: a member's number is its place.
use Rattle.std.specs.Prelude.{◌≡◌, ℕ, ◌<◌, List, [], ◌∷◌, ◌++◌, Option, Some, Contains, is_some, if◌then◌else◌, length, slice_get}
use Rattle.std.specs.BTreeMap.{is_at}
use Rattle.std.specs.List.{All, position}
use Rattle.std.specs.List.Sorted.{IsStrictlySortedBy}
use Rattle.std.specs.declared.cmp.Ordering.{Ordering}
use Rattle.std.specs.declared.cmp.Ordering.TheVariants.{Equal}
use Rattle.isle_containers.specs.SortedMaps.{entries_at}

-- the number of the member that is equal to the key
abbrev pub number_in : {K : Type 0} → (K → K → Ordering) → List K → K → Option ℕ
number_in cmp members key = position (is_at (cmp key)) members

-- the members with the key behind them, unless one is equal to it
abbrev pub with_member : {K : Type 0} → (K → K → Ordering) → List K → K → List K
with_member cmp members key = if is_some (number_in cmp members key) then members else members ++ key ∷ []

-- no two members are equal
abbrev pub AreUnequal : {K : Type 0} → (K → K → Ordering) → List K → Type 0
AreUnequal {K} cmp members = (i j : ℕ) (x y : K) → slice_get members i ≡ Some x → slice_get members j ≡ Some y → cmp x y ≡ Equal → i ≡ j

-- the numbers of all members, in ascending order of these
pub record IsOrderOf {K : Type 0} (cmp : K → K → Ordering) (members : List K) (order : List ℕ) : Type 0 where
  pub in_range : All (λ number. number < length members) order
  pub as_many : length order ≡ length members
  pub all : (number : ℕ) → number < length members → Contains order number
  pub ascending : IsStrictlySortedBy cmp (entries_at members order)
