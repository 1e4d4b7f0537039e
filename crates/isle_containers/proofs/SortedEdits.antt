-- What a search found, and what an edit at its place does to the entries in order.
use Rattle.std.proofs.Common.{◌≡◌, ◌≢◌, ℕ, zero, suc, ◌+◌, ◌-◌, ◌<◌, ◌≤◌, Bool, false, true, List, [], ◌∷◌, ◌++◌, length, get_or, set}
use Rattle.std.proofs.Common.{None, Some, Result, Ok, Err, refl, sym, ap, subst, ◌∙◌, inl, inr, arith}
use Rattle.std.specs.declared.cmp.Ordering.{Ordering}
use Rattle.std.specs.declared.cmp.Ordering.TheVariants.{Less, Equal, Greater}
use Rattle.std.specs.Result.{result_ok}
use Rattle.std.specs.Ordering.{is_eq, ordering_reverse}
use Rattle.std.specs.Cmp.{IsTotalOrder}
use Rattle.std.specs.BTreeMap.{insert_entry, is_at}
use Rattle.std.specs.List.{AllWithin, HoldsAt, insert, position, position_or_len}
use Rattle.std.specs.List.Sorted.{IsStrictlySortedBy}
use Rattle.std.specs.Map.{keys_of, lookup}
use Rattle.std.proofs.lemmas.Bool.{cases_lt, cases_eq, cases_order, lt-ltb, le-ltb}
use Rattle.std.proofs.lemmas.Cmp.{alike_right, tied_itself}
use Rattle.std.proofs.lemmas.List.{same_lists, get_or_read, length-set, map-set, set-get_or, get_or-map}
use Rattle.std.proofs.lemmas.List.{get_or-set_same, get_or-set_other, length_push}
use Rattle.std.proofs.lemmas.List.Edits.{length-insert, get_or-insert_below, get_or-insert_at, get_or-insert_above}
use Rattle.std.proofs.lemmas.List.Recursion.{found_at, found_nowhere}
use Rattle.std.proofs.lemmas.List.Sums.{position_or_len_is}
use Rattle.std.proofs.lemmas.Map.Keys.{Less-from_sorted, sorted_from_all_adjacent}
use Rattle.isle_containers.specs.SortedMaps.{IsSearchResult, IsSortedIndex, entries_at}
use Rattle.isle_containers.proofs.SortedPlaces.{AreWithin, length-entries_at, length-keys_at, get_or-entries_at, get_or-keys_at}
use Rattle.isle_containers.proofs.SortedPlaces.{within-added, entries_at-added, map-insert}

pub position_from_len : {X : Type 0} (p : X → Bool) (xs : List X) (i : ℕ) → i < length xs → position_or_len p xs ≡ i → position p xs ≡ Some i
position_from_len p xs i lt is = rw (is, lt-ltb i (length xs) lt)

pub position_none : {X : Type 0} (p : X → Bool) (xs : List X) → position_or_len p xs ≡ length xs → position p xs ≡ None
position_none p xs is = rw (is, le-ltb (length xs) (length xs) (omega arith))

-- a list with no entry for a default finds nothing anyway
lookup_none : {K V : Type 0} (test : K → Bool) (es : List (K × V)) → ((e : K × V) → lookup test es ≡ None) → lookup test es ≡ None
lookup_none test [] none = refl
lookup_none test (e ∷ es) none = none e

module _ {K V : Type 0} (cmp : K → K → Ordering) (key : K) (value : V) where
  -- writing over the value of the equal key is what `insert_entry` does
  pub insert_entry-found : (es : List (K × V)) (i : ℕ) (k : K) → i < length es → AllWithin (λ j. cmp key j ≡ Greater) (keys_of es) 0 i
      → HoldsAt (λ j. cmp key j ≡ Equal) (keys_of es) i → get_or (keys_of es) i k ≡ k
      → set es i (k, value) ≡ insert_entry cmp es key value
  insert_entry-found [] i k lt before equal here = absurd (omega arith)
  insert_entry-found (e ∷ es) zero k lt before equal here = rw (equal e.0, here)
  insert_entry-found (e ∷ es) (suc i) k lt before equal here =
      rw (before 0 e.0 (omega arith) (omega arith))
      (ap (λ l. e ∷ l) (insert_entry-found es i k (omega arith) (λ j d le below. before (suc j) d (omega arith) (omega arith)) equal here))

  -- a new entry between the keys below and those above is what `insert_entry` puts
  pub insert_entry-gap : (es : List (K × V)) (i : ℕ) → i ≤ length es → AllWithin (λ j. cmp key j ≡ Greater) (keys_of es) 0 i
      → AllWithin (λ j. cmp key j ≡ Less) (keys_of es) i (length (keys_of es))
      → insert es i (key, value) ≡ insert_entry cmp es key value
  insert_entry-gap [] zero le before after = refl
  insert_entry-gap [] (suc i) le before after = absurd (omega arith)
  insert_entry-gap (e ∷ es) zero le before after = rw (after 0 e.0 (omega arith) (omega arith))
  insert_entry-gap (e ∷ es) (suc i) le before after =
      rw (before 0 e.0 (omega arith) (omega arith))
      (ap (λ l. e ∷ l) (insert_entry-gap es i (omega arith) (λ j d low below. before (suc j) d (omega arith) (omega arith))
      (λ j d low below. after (suc j) d (omega arith) (omega arith))))

-- a key between those below it and those above it keeps the order
module _ {K : Type 0} {cmp : K → K → Ordering} (total : IsTotalOrder cmp) (key : K) (keys : List K) (gap : ℕ)
    (ascending : IsStrictlySortedBy cmp keys) (le : gap ≤ length keys) (before : AllWithin (λ k. cmp key k ≡ Greater) keys 0 gap)
    (after : AllWithin (λ k. cmp key k ≡ Less) keys gap (length keys)) where
  past_gap : (j : ℕ) → gap < j → get_or (insert keys gap key) j key ≡ get_or keys (j - 1) key
  past_gap j more =
      let back : j - 1 + 1 ≡ j = omega arith in
      subst (λ i. get_or (insert keys gap key) i key ≡ get_or keys (j - 1) key) back (get_or-insert_above keys gap key key (j - 1) (omega arith) le)

  below_next : (j : ℕ) → j + 1 < length (insert keys gap key)
      → cmp (get_or (insert keys gap key) j key) (get_or (insert keys gap key) (j + 1) key) ≡ Less
  below_next j lt =
      let short : j < length keys = omega (arith, length-insert keys gap key le) in
      elim (cases_order j gap) [
        | inl here ↦
            rw (here, get_or-insert_at keys gap key key le, get_or-insert_above keys gap key key gap (omega arith) le)
            (after gap key (omega arith) (omega arith))
        | inr (inr past) ↦
            rw (past_gap j past, get_or-insert_above keys gap key key j (omega arith) le)
            (Less-from_sorted cmp keys (j - 1) j key ascending (omega arith) short)
        | inr (inl less) ↦ elim (cases_eq (j + 1) gap) [
          | inl next ↦
              rw (get_or-insert_below keys gap key key j less le, next, get_or-insert_at keys gap key key le)
              (total.antisymm (get_or keys j key) key ∙ ap ordering_reverse (before j key (omega arith) less))
          | inr farther ↦
              rw (get_or-insert_below keys gap key key j less le, get_or-insert_below keys gap key key (j + 1) (omega arith) le)
              (Less-from_sorted cmp keys j (j + 1) key ascending (omega arith) (omega arith))
        ]
      ]

  pub sorted-insert : IsStrictlySortedBy cmp (insert keys gap key)
  sorted-insert = sorted_from_all_adjacent total (insert keys gap key) key below_next

module _ {K V : Type 0} {cmp : K → K → Ordering} (total : IsTotalOrder cmp) (key : K) {entries : List (K × V)} {places : List ℕ}
    (index : IsSortedIndex cmp entries places) where
  length_keys : length (keys_of (entries_at entries places)) ≡ length places
  length_keys = length-keys_at entries places index.in_range

  length_view : length (entries_at entries places) ≡ length places
  length_view = length-entries_at entries places index.in_range

  -- the key of the entry at a place in order
  key_of : (i : ℕ) (e : K × V) → i < length places → get_or (keys_of (entries_at entries places)) i e.0 ≡ (get_or (entries_at entries places) i e).0
  key_of i e lt = get_or-map (λ e. e.0) (entries_at entries places) i e e.0 (omega (arith, length_view))

  -- the key was found at the place `at`
  module _ {at : ℕ} (found : IsSearchResult cmp key (keys_of (entries_at entries places)) (Ok at)) where
    pub at_in_range : at < length places
    at_in_range = omega (arith, found.in_range, length_keys)

    -- the place of the entry, as it is read
    module _ {place : ℕ} (read : place ≡ get_or places at place) where
      place_is : place ≡ get_or places at 0
      place_is = get_or_read places at place at_in_range read 0

      pub place_in_range : place < length entries
      place_in_range = rw place_is (index.in_range at 0 at_in_range)

    before_found : AllWithin (λ k. cmp key k ≡ Greater) (keys_of (entries_at entries places)) 0 at
    before_found j d _ lt =
        let keys = keys_of (entries_at entries places) in
        let below = Less-from_sorted cmp keys j at d index.ascending lt found.in_range in
        total.antisymm key (get_or keys j d)
        ∙ ap ordering_reverse (alike_right total key (get_or keys at d) (get_or keys j d) (found.place d) ∙ below)

    not_before : (j : ℕ) (e : K × V) → j < at → is_at (cmp key) (get_or (entries_at entries places) j e).0 ≡ false
    not_before j e lt = rw (← key_of j e (omega (arith, at_in_range))) (ap is_eq (before_found j e.0 (omega arith) lt))

    pub lookup_found : (place : ℕ) (e : K × V) → place ≡ get_or places at place → e ≡ get_or entries place e
        → lookup (is_at (cmp key)) (entries_at entries places) ≡ Some e.1
    lookup_found place e read read_entry =
        let here : is_at (cmp key) (get_or (entries_at entries places) at e).0 ≡ true = rw (← key_of at e at_in_range) (ap is_eq (found.place e.0)) in
        found_at (lookup (is_at (cmp key))) (λ x. is_at (cmp key) x.0) (λ x. Some x.1) None refl (λ _ _. refl) (entries_at entries places) at e
        (rw length_view at_in_range) (λ j lt. not_before j e lt) here
        ∙ ap (λ x. Some x.1) (get_or-entries_at entries places at e index.in_range at_in_range)
        ∙ ap (λ p. Some (get_or entries p e).1) (sym (place_is read))
        ∙ ap (λ x. Some x.1) (sym read_entry)

    pub position_found : position (is_at (cmp key)) (keys_of (entries_at entries places)) ≡ Some at
    position_found =
        let keys = keys_of (entries_at entries places) in
        position_from_len (is_at (cmp key)) keys at found.in_range
        (position_or_len_is (is_at (cmp key)) keys at key (omega (arith, found.in_range))
        (λ j lt. ap is_eq (before_found j key (omega arith) lt)) (λ _. ap is_eq (found.place key)))

  -- the key is not there, and would go at the place `gap`
  module _ {gap : ℕ} (absent : IsSearchResult cmp key (keys_of (entries_at entries places)) (Err gap)) where
    pub gap_in_range : gap ≤ length places
    gap_in_range = omega (arith, absent.in_range, length_keys)

    passes_nowhere : (j : ℕ) (d : K) → j < length places → is_at (cmp key) (get_or (keys_of (entries_at entries places)) j d) ≡ false
    passes_nowhere j d lt = elim (cases_lt j gap) [
      | inl before ↦ ap is_eq (absent.place.0 j d (omega arith) before)
      | inr after ↦ ap is_eq (absent.place.1 j d after (omega (arith, length_keys)))
    ]

    lookup_absent_from : (e : K × V) → lookup (is_at (cmp key)) (entries_at entries places) ≡ None
    lookup_absent_from e =
        let nowhere : (j : ℕ) → j < length (entries_at entries places)
        → is_at (cmp key) (get_or (entries_at entries places) j e).0 ≡ false = λ j lt. rw (← key_of j e (omega (arith, length_view)))
        (passes_nowhere j e.0 (omega (arith, length_view))) in
        found_nowhere (lookup (is_at (cmp key))) (λ x. is_at (cmp key) x.0) (λ x. Some x.1) None refl (λ _ _. refl)
        (entries_at entries places) e nowhere

    pub lookup_absent : lookup (is_at (cmp key)) (entries_at entries places) ≡ None
    lookup_absent = lookup_none (is_at (cmp key)) (entries_at entries places) lookup_absent_from

    pub position_absent : position (is_at (cmp key)) (keys_of (entries_at entries places)) ≡ None
    position_absent =
        let keys = keys_of (entries_at entries places) in
        position_none (is_at (cmp key)) keys
        (position_or_len_is (is_at (cmp key)) keys (length keys) key (omega arith) (λ j lt. passes_nowhere j key (omega (arith, length_keys)))
        (λ past. absurd (omega arith)))

  -- the place that a search answers, as an option
  pub position_is : (result : Result ℕ ℕ) → IsSearchResult cmp key (keys_of (entries_at entries places)) result
      → result_ok result ≡ position (is_at (cmp key)) (keys_of (entries_at entries places))
  position_is (Ok at) found = sym (position_found found)
  position_is (Err gap) absent = sym (position_absent absent)

  -- two places in order hold different entries, since their keys differ
  differ_below : K × V → (i j : ℕ) → i < j → j < length places → get_or places i 0 ≢ get_or places j 0
  differ_below e i j less lt same =
      let keys = keys_of (entries_at entries places) in
      let below : cmp (get_or keys i e.0) (get_or keys j e.0) ≡ Less = Less-from_sorted cmp keys i j e.0 index.ascending less
      (omega (arith, length_keys)) in
      let same_key : get_or keys i e.0 ≡ get_or keys j e.0 = get_or-keys_at entries places i e.0 e index.in_range (omega arith)
      ∙ ap (λ p. (get_or entries p e).0) same ∙ sym (get_or-keys_at entries places j e.0 e index.in_range lt) in
      let tied : cmp (get_or keys j e.0) (get_or keys j e.0) ≡ Equal = tied_itself total (get_or keys j e.0) in
      cc

  places_differ : K × V → (i j : ℕ) → i < length places → j < length places → i ≢ j → get_or places i 0 ≢ get_or places j 0
  places_differ e i j lt_i lt_j differ same = elim (cases_order i j) [
    | inl equal ↦ differ equal
    | inr (inl less) ↦ differ_below e i j less lt_j same
    | inr (inr more) ↦ differ_below e j i more lt_i (sym same)
  ]

  -- writing over an entry writes over it in the order
  module _ {at : ℕ} (found : IsSearchResult cmp key (keys_of (entries_at entries places)) (Ok at)) (value : V) {place : ℕ} {e : K × V}
      (read : place ≡ get_or places at place) (read_entry : e ≡ get_or entries place e) where
    still_within : AreWithin (set entries place (e.0, value)) places
    still_within i d lt = rw length-set (index.in_range i d lt)

    entries_at-set : entries_at (set entries place (e.0, value)) places ≡ set (entries_at entries places) at (e.0, value)
    entries_at-set = same_lists _ _
        (length-entries_at _ places still_within ∙ sym length_view ∙ sym (length-set (entries_at entries places) at (e.0, value))) same_at
      where
        same_at : (k : ℕ) (d : K × V) → k < length (entries_at (set entries place (e.0, value)) places)
            → get_or (entries_at (set entries place (e.0, value)) places) k d ≡ get_or (set (entries_at entries places) at (e.0, value)) k d
        same_at k d lt =
            let within : k < length places = omega (arith, length-entries_at _ places still_within) in
            let new = get_or-entries_at (set entries place (e.0, value)) places k d still_within within in
            elim (cases_eq k at) [
              | inl same ↦ new
                  ∙ ap (λ i. get_or (set entries place (e.0, value)) (get_or places i 0) d) same
                  ∙ ap (λ p. get_or (set entries place (e.0, value)) p d) (sym (place_is found read))
                  ∙ get_or-set_same entries place (e.0, value) d (place_in_range found read)
                  ∙ sym (get_or-set_same (entries_at entries places) at (e.0, value) d (rw length_view (at_in_range found)))
                  ∙ ap (λ i. get_or (set (entries_at entries places) at (e.0, value)) i d) (sym same)
              | inr other ↦ new
                  ∙ get_or-set_other entries place (get_or places k 0) (e.0, value) d
                  (λ equal. places_differ e k at within (at_in_range found) other (equal ∙ place_is found read))
                  ∙ sym (get_or-entries_at entries places k d index.in_range within)
                  ∙ sym (get_or-set_other (entries_at entries places) at k (e.0, value) d other)
            ]

    same_key : get_or (keys_of (entries_at entries places)) at e.0 ≡ e.0
    same_key =
        key_of at e (at_in_range found)
        ∙ ap (λ x. x.0) (get_or-entries_at entries places at e index.in_range (at_in_range found))
        ∙ ap (λ p. (get_or entries p e).0) (sym (place_is found read))
        ∙ ap (λ x. x.0) (sym read_entry)

    pub replaced_view : entries_at (set entries place (e.0, value)) places ≡ insert_entry cmp (entries_at entries places) key value
    replaced_view = entries_at-set ∙ insert_entry-found cmp key value (entries_at entries places) at e.0 (rw length_view (at_in_range found))
        (before_found found) found.place same_key

    same_keys : keys_of (entries_at (set entries place (e.0, value)) places) ≡ keys_of (entries_at entries places)
    same_keys =
        ap keys_of entries_at-set
        ∙ map-set (λ x. x.0) (entries_at entries places) at (e.0, value)
        ∙ ap (set (keys_of (entries_at entries places)) at) (sym same_key)
        ∙ set-get_or (keys_of (entries_at entries places)) at e.0

    pub replaced_index : IsSortedIndex cmp (set entries place (e.0, value)) places
    replaced_index = record {
      in_range = still_within;
      as_many = index.as_many
          ∙ sym (length-set entries place (e.0, value));
      ascending = subst (IsStrictlySortedBy cmp) (sym same_keys) index.ascending;
    }

  -- a new entry goes between those below and those above
  module _ {gap : ℕ} (absent : IsSearchResult cmp key (keys_of (entries_at entries places)) (Err gap)) (value : V) where
    pub added_view : entries_at (entries ++ (key, value) ∷ []) (insert places gap (length entries)) ≡ insert_entry cmp
        (entries_at entries places) key value
    added_view = entries_at-added entries places gap (key, value) index.in_range ∙ insert_entry-gap cmp key value (entries_at entries places) gap
        (rw length_view (gap_in_range absent)) absent.place.0 absent.place.1

    pub added_index : IsSortedIndex cmp (entries ++ (key, value) ∷ []) (insert places gap (length entries))
    added_index = record {
      in_range = within-added entries places gap (key, value) index.in_range;
      as_many = omega (arith, length-insert places gap (length entries) (gap_in_range absent), index.as_many, length_push entries (key, value));
      ascending =
          subst (IsStrictlySortedBy cmp)
          (sym (ap keys_of (entries_at-added entries places gap (key, value) index.in_range) ∙ map-insert
          (λ e. e.0) (entries_at entries places) gap (key, value)))
          (sorted-insert total key (keys_of (entries_at entries places)) gap index.ascending absent.in_range absent.place.0 absent.place.1);
    }
