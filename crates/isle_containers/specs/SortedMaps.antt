-- What the contracts of `SortedMap` cite. A map is seen as its entries, in ascending order of the keys.
use Rattle.std.specs.Prelude.{◌≡◌, ℕ, ◌<◌, List, length, Result, MatchResult}
use Rattle.std.specs.List.{All, HoldsAt, filter_map, slice_get}
use Rattle.std.specs.List.Sorted.{IsPartitionPoint, IsSearchInRange, IsStrictlySortedBy}
use Rattle.std.specs.Map.{keys_of}
use Rattle.std.specs.declared.cmp.Ordering.{Ordering}
use Rattle.std.specs.declared.cmp.Ordering.TheVariants.{Less, Equal, Greater}
use Rattle.std.specs.Int.Digits.{digits_of}

-- how many binary digits n has, and 0 at 0
abbrev pub binary_digits : ℕ → ℕ
binary_digits n = length (digits_of 2 n)

-- the entries that stand at the places, in the order of the places
abbrev pub entries_at : {E : Type 0} → List E → List ℕ → List E
entries_at entries places = filter_map (slice_get entries) places

-- the places are those of the entries, in ascending order of the keys: no two keys are equal, so no place comes twice
pub record IsSortedIndex {K V : Type 0} (cmp : K → K → Ordering) (entries : List (K × V)) (places : List ℕ) : Type 0 where
  pub in_range : All (λ place. place < length entries) places
  pub as_many : length places ≡ length entries
  pub ascending : IsStrictlySortedBy cmp (keys_of (entries_at entries places))

-- where a search for the key ends: at a key that is equal, or between the keys below it and those above it
pub record IsSearchResult {K : Type 0} (cmp : K → K → Ordering) (key : K) (keys : List K) (found : Result ℕ ℕ) : Type 0 where
  pub in_range : IsSearchInRange found (length keys)
  pub place : MatchResult found (HoldsAt (λ k. cmp key k ≡ Equal) keys) (IsPartitionPoint (λ k. cmp key k ≡ Greater) (λ k. cmp key k ≡ Less) keys)
