-- A search by halves among keys that ascend strictly.
use Rattle.std.proofs.Common.{◌≡◌, ℕ, ◌+◌, ◌-◌, ◌/◌, ◌<◌, ◌≤◌, List, length, get_or, Ok, sym, ap, ◌∙◌, inl, inr, arith}
use Rattle.std.specs.declared.cmp.Ordering.{Ordering}
use Rattle.std.specs.declared.cmp.Ordering.TheVariants.{Less, Equal, Greater}
use Rattle.std.specs.Ordering.{ordering_reverse}
use Rattle.std.specs.Cmp.{IsTotalOrder}
use Rattle.std.specs.List.{AllWithin}
use Rattle.std.specs.List.Sorted.{IsStrictlySortedBy}
use Rattle.std.specs.Map.{keys_of}
use Rattle.std.proofs.lemmas.Bool.{cases_eq}
use Rattle.std.proofs.lemmas.Map.Keys.{Less-from_sorted}
use Rattle.isle_containers.specs.SortedMaps.{IsSearchResult, IsSortedIndex, binary_digits, entries_at}
use Rattle.isle_containers.proofs.SortedPlaces.{length-keys_at, get_or-keys_at}
use Rattle.isle_containers.proofs.BinaryDigits.{binary_digits-mono, binary_digits-step}

-- the keys before `low` are below the sought one, those from `high` on are above it, and each comparison halved what is between
pub record IsNarrowedTo {K : Type 0} (cmp : K → K → Ordering) (key : K) (keys : List K) (low high comparisons : ℕ) : Type 0 where
  pub in_order : low ≤ high
  pub in_range : high ≤ length keys
  pub before : AllWithin (λ k. cmp key k ≡ Greater) keys 0 low
  pub after : AllWithin (λ k. cmp key k ≡ Less) keys high (length keys)
  pub halved : comparisons + binary_digits (high - low) ≤ binary_digits (length keys)

module _ {K : Type 0} {cmp : K → K → Ordering} (total : IsTotalOrder cmp) where
  -- what is above k is above all that k is above
  above_trans : (key k j : K) → cmp key k ≡ Greater → cmp j k ≡ Less → cmp key j ≡ Greater
  above_trans key k j above below =
      total.antisymm key j ∙ ap ordering_reverse (total.trans j k key below (total.antisymm k key ∙ ap ordering_reverse above))

  module _ (key : K) (keys : List K) (ascending : IsStrictlySortedBy cmp keys) (i : ℕ) (in_range : i < length keys) where
    -- a key that is above that at i is above all up to i
    pub before_from_Greater : ((d : K) → cmp key (get_or keys i d) ≡ Greater) → AllWithin (λ k. cmp key k ≡ Greater) keys 0 (i + 1)
    before_from_Greater greater j d _ lt = elim (cases_eq j i) [
      | inl same ↦ rw same (greater d)
      | inr other ↦ above_trans key (get_or keys i d) (get_or keys j d) (greater d) (Less-from_sorted cmp keys j i d ascending (omega arith) in_range)
    ]

    -- a key that is below that at i is below all from i on
    pub after_from_Less : ((d : K) → cmp key (get_or keys i d) ≡ Less) → AllWithin (λ k. cmp key k ≡ Less) keys i (length keys)
    after_from_Less less j d le lt = elim (cases_eq j i) [
      | inl same ↦ rw same (less d)
      | inr other ↦ total.trans key (get_or keys i d) (get_or keys j d) (less d) (Less-from_sorted cmp keys i j d ascending (omega arith) lt)
    ]

-- the place in the middle between two
abbrev pub middle_of : ℕ → ℕ → ℕ
middle_of low high = low + (high - low) / 2

module _ {K V : Type 0} {cmp : K → K → Ordering} (total : IsTotalOrder cmp) (key : K) {entries : List (K × V)} {places : List ℕ}
    (index : IsSortedIndex cmp entries places) where
  same_length : length (keys_of (entries_at entries places)) ≡ length places
  same_length = length-keys_at entries places index.in_range

  pub narrowed_start : IsNarrowedTo cmp key (keys_of (entries_at entries places)) 0 (length places) 0
  narrowed_start = record {
    in_order = omega arith;
    in_range = omega (arith, same_length);
    before = λ k d _ lt. absurd (omega arith);
    after = λ k d le lt. absurd (omega (arith, same_length));
    halved = omega (
      arith,
      same_length,
      binary_digits-mono (length places - 0) (length (keys_of (entries_at entries places)))
          (omega (arith, same_length)),
    );
  }

  module _ {low high comparisons : ℕ} (so_far : IsNarrowedTo cmp key (keys_of (entries_at entries places)) low high comparisons) where
    pub bounded : comparisons ≤ binary_digits (length places)
    bounded = omega (arith, so_far.halved, ap binary_digits same_length)

    module _ (more : low < high) where
      pub middle_in_range : middle_of low high < length places
      middle_in_range = omega (arith, so_far.in_range, same_length)

      -- the next comparison is within the bound too
      pub bounded_more : comparisons + 1 ≤ binary_digits (length places)
      bounded_more = omega (arith, so_far.halved, ap binary_digits same_length, binary_digits-step (high - low) 0 (omega arith) (omega arith))

      module _ (e : K × V) where
        -- the key in the middle is that of the entry which is read
        key_there : (d : K) → get_or (keys_of (entries_at entries places)) (middle_of low high) d ≡
            (get_or entries (get_or places (middle_of low high) 0) e).0
        key_there d = get_or-keys_at entries places (middle_of low high) d e index.in_range middle_in_range

        pub found_in_middle : Equal ≡ cmp key (get_or entries (get_or places (middle_of low high) 0) e).0
            → IsSearchResult cmp key (keys_of (entries_at entries places)) (Ok (middle_of low high))
        found_in_middle equal = record { in_range = rw same_length middle_in_range; place = λ d. rw (key_there d) (sym equal) }

        pub narrowed_below : Less ≡ cmp key (get_or entries (get_or places (middle_of low high) 0) e).0
            → IsNarrowedTo cmp key (keys_of (entries_at entries places)) low (middle_of low high) (comparisons + 1)
        narrowed_below less = record {
          in_order = omega arith;
          in_range = omega (arith, same_length, middle_in_range);
          before = so_far.before;
          after = after_from_Less total key _ index.ascending (middle_of low high) (rw same_length middle_in_range)
              (λ d. rw (key_there d) (sym less));
          halved = omega (arith, so_far.halved, binary_digits-step (high - low) (middle_of low high - low) (omega arith) (omega arith));
        }

        pub narrowed_above : Greater ≡ cmp key (get_or entries (get_or places (middle_of low high) 0) e).0
            → IsNarrowedTo cmp key (keys_of (entries_at entries places)) (middle_of low high + 1) high (comparisons + 1)
        narrowed_above greater = record {
          in_order = omega arith;
          in_range = so_far.in_range;
          before = before_from_Greater total key _ index.ascending (middle_of low high) (rw same_length middle_in_range)
              (λ d. rw (key_there d) (sym greater));
          after = so_far.after;
          halved = omega (arith, so_far.halved, binary_digits-step (high - low) (high - (middle_of low high + 1)) (omega arith) (omega arith));
        }
