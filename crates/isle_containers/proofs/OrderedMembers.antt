-- The members of a set by their order: what a search found, and one more member.
use Rattle.std.proofs.Common.{◌≡◌, ◌≢◌, ℕ, ◌+◌, ◌-◌, ◌<◌, ◌≤◌, false, List, [], ◌∷◌, ◌++◌, length, get_or, None, Some, Ok, Err, Contains}
use Rattle.std.proofs.Common.{refl, sym, ap, subst, ◌∙◌, inl, inr, arith}
use Rattle.std.specs.declared.cmp.Ordering.{Ordering}
use Rattle.std.specs.declared.cmp.Ordering.TheVariants.{Less, Equal, Greater}
use Rattle.std.specs.Ordering.{is_eq, ordering_reverse}
use Rattle.std.specs.Cmp.{IsTotalOrder}
use Rattle.std.specs.BTreeMap.{is_at}
use Rattle.std.specs.List.{AllWithin, insert}
use Rattle.std.specs.List.Sorted.{IsStrictlySortedBy}
use Rattle.std.proofs.lemmas.Bool.{cases_lt, cases_order}
use Rattle.std.proofs.lemmas.Cmp.{alike_right, tied_itself}
use Rattle.std.proofs.lemmas.List.{get_or_default, get_or_append_left, get_or_push, length_push}
use Rattle.std.proofs.lemmas.List.Edits.{length-insert, get_or-insert_below, get_or-insert_at, get_or-insert_above}
use Rattle.std.proofs.lemmas.List.Elements.{All-nil, Contains-get_or}
use Rattle.std.proofs.lemmas.List.Sums.{position_or_len_is}
use Rattle.std.proofs.lemmas.Map.Keys.{Less-from_sorted}
use Rattle.std.proofs.lemmas.Option.{slice_get_within, get_or_from_slice_get}
use Rattle.isle_containers.specs.SortedMaps.{IsSearchResult, entries_at}
use Rattle.isle_containers.specs.SortedSets.{AreUnequal, IsOrderOf, number_in}
use Rattle.isle_containers.proofs.SortedPlaces.{length-entries_at, get_or-entries_at, within-added, entries_at-added}
use Rattle.isle_containers.proofs.SortedEdits.{position_from_len, position_none, sorted-insert}
use Rattle.isle_containers.proofs.Searches.{before_from_Greater, after_from_Less, middle_of}

-- no members
pub IsOrderOf-nil : {K : Type 0} (cmp : K → K → Ordering) → IsOrderOf cmp [] []
unfolding IsStrictlySortedBy
IsOrderOf-nil cmp = record { in_range = All-nil (λ p. p < 0); as_many = refl; all = λ number lt. absurd (omega arith); ascending = tt }

-- the keys before `low` are below the sought one, and those from `high` on are above it
pub record IsBetween {K : Type 0} (cmp : K → K → Ordering) (key : K) (keys : List K) (low high : ℕ) : Type 0 where
  pub in_order : low ≤ high
  pub in_range : high ≤ length keys
  pub before : AllWithin (λ k. cmp key k ≡ Greater) keys 0 low
  pub after : AllWithin (λ k. cmp key k ≡ Less) keys high (length keys)

module _ {K : Type 0} {cmp : K → K → Ordering} (total : IsTotalOrder cmp) {members : List K} {order : List ℕ}
    (index : IsOrderOf cmp members order) where
  length_keys : length (entries_at members order) ≡ length order
  length_keys = length-entries_at members order index.in_range

  -- the member whose number stands at a place
  read : (b : ℕ) (d : K) → b < length order → get_or (entries_at members order) b d ≡ get_or members (get_or order b 0) d
  read b d lt = get_or-entries_at members order b d index.in_range lt

  -- where a number stands
  place_of : (j : ℕ) → j < length members → (b : ℕ) × (b < length order) × (get_or order b 0 ≡ j)
  place_of j lt = let (b, inside, here) = index.all j lt in (b, inside, sym (get_or_default order b j 0 inside) ∙ here)

  pub are_unequal : AreUnequal cmp members
  are_unequal i j x y p q equal =
      let (a, a_in, at_a) = place_of i (slice_get_within members i x p) in
      let (b, b_in, at_b) = place_of j (slice_get_within members j y q) in
      let first : get_or (entries_at members order) a x ≡ x = read a x a_in ∙ ap (λ n. get_or members n x) at_a
      ∙ get_or_from_slice_get members i x x p in
      let second : get_or (entries_at members order) b x ≡ y = read b x b_in ∙ ap (λ n. get_or members n x) at_b
      ∙ get_or_from_slice_get members j y x q in
      elim (cases_order a b) [
        | inl same ↦ sym at_a ∙ ap (λ n. get_or order n 0) same ∙ at_b
        | inr (inl less) ↦
            let below = Less-from_sorted cmp (entries_at members order) a b x index.ascending less (omega (arith, length_keys)) in
            let clash : Less ≡ Equal = sym below ∙ ap (λ k. cmp k (get_or (entries_at members order) b x)) first ∙ ap (cmp x) second ∙ equal in
            cc
        | inr (inr more) ↦
            let below = Less-from_sorted cmp (entries_at members order) b a x index.ascending more (omega (arith, length_keys)) in
            let clash : Less ≡ Equal = sym below ∙ ap (λ k. cmp k (get_or (entries_at members order) a x)) second ∙ ap (cmp y) first
            ∙ total.antisymm y x ∙ ap ordering_reverse equal in
            cc
      ]

  module _ (key : K) where
    pub between_start : IsBetween cmp key (entries_at members order) 0 (length order)
    between_start = record {
      in_order = omega arith;
      in_range = omega (arith, length_keys);
      before = λ k d _ lt. absurd (omega arith);
      after = λ k d le lt. absurd (omega (arith, length_keys));
    }

    module _ {low high : ℕ} (so_far : IsBetween cmp key (entries_at members order) low high) (more : low < high) where
      pub middle_within : middle_of low high < length order
      middle_within = omega (arith, so_far.in_range, length_keys)

      pub number_within : get_or order (middle_of low high) 0 < length members
      number_within = index.in_range (middle_of low high) 0 middle_within

      module _ (x : K) (there : x ≡ get_or members (get_or order (middle_of low high) 0) x) (o : Ordering) (is : o ≡ cmp key x) where
        -- how the key stands to the member in the middle
        compared : (d : K) → cmp key (get_or (entries_at members order) (middle_of low high) d) ≡ o
        compared d = ap (cmp key) (read (middle_of low high) d middle_within
            ∙ get_or_default members (get_or order (middle_of low high) 0) d x number_within ∙ sym there) ∙ sym is

        pub middle_found : o ≡ Equal → IsSearchResult cmp key (entries_at members order) (Ok (middle_of low high))
        middle_found equal = record { in_range = rw length_keys middle_within; place = λ d. compared d ∙ equal }

        pub between_below : o ≡ Less → IsBetween cmp key (entries_at members order) low (middle_of low high)
        between_below less = record {
          in_order = omega arith;
          in_range = omega (arith, length_keys, middle_within);
          before = so_far.before;
          after = after_from_Less total key _ index.ascending (middle_of low high) (rw length_keys middle_within) (λ d. compared d ∙ less);
        }

        pub between_above : o ≡ Greater → IsBetween cmp key (entries_at members order) (middle_of low high + 1) high
        between_above greater = record {
          in_order = omega arith;
          in_range = so_far.in_range;
          before = before_from_Greater total key _ index.ascending (middle_of low high) (rw length_keys middle_within) (λ d. compared d ∙ greater);
          after = so_far.after;
        }

    -- the key was found at the place `at`
    module _ {at : ℕ} (found : IsSearchResult cmp key (entries_at members order) (Ok at)) where
      pub found_within : at < length order
      found_within = omega (arith, found.in_range, length_keys)

      other_place : (b : ℕ) (d : K) → b < length order → b ≢ at → is_at (cmp key) (get_or (entries_at members order) b d) ≡ false
      other_place b d lt differ = elim (cases_order b at) [
        | inl same ↦ absurd (differ same)
        | inr (inl less) ↦
            let below = Less-from_sorted cmp (entries_at members order) b at d index.ascending less found.in_range in
            ap is_eq (total.antisymm key (get_or (entries_at members order) b d)
            ∙ ap ordering_reverse (alike_right total key (get_or (entries_at members order) at d) (get_or (entries_at members order) b d)
            (found.place d) ∙ below))
        | inr (inr more) ↦
            let below = Less-from_sorted cmp (entries_at members order) at b d index.ascending more (omega (arith, length_keys)) in
            ap is_eq (total.congr key (get_or (entries_at members order) at d) (get_or (entries_at members order) b d) (found.place d) ∙ below)
      ]

      other_member : (j : ℕ) (d : K) → j < length members → j ≢ get_or order at 0 → is_at (cmp key) (get_or members j d) ≡ false
      other_member j d lt differ =
          let (b, inside, here) = place_of j lt in
          let other = other_place b d inside (λ same. differ (sym here ∙ ap (λ k. get_or order k 0) same)) in
          subst (λ k. is_at (cmp key) (get_or members k d) ≡ false) here (ap (is_at (cmp key)) (sym (read b d inside)) ∙ other)

      pub number_found : number_in cmp members key ≡ Some (get_or order at 0)
      number_found =
          let inside = index.in_range at 0 found_within in
          position_from_len (is_at (cmp key)) members (get_or order at 0) inside
          (position_or_len_is (is_at (cmp key)) members (get_or order at 0) key (omega (arith, inside))
          (λ j lt. other_member j key (omega (arith, inside)) (λ same. absurd (omega (arith, same))))
          (λ _. ap is_eq (ap (cmp key) (sym (read at key found_within)) ∙ found.place key)))

    -- the key is not there, and would go at the place `gap`
    module _ {gap : ℕ} (absent : IsSearchResult cmp key (entries_at members order) (Err gap)) where
      pub gap_within : gap ≤ length order
      gap_within = omega (arith, absent.in_range, length_keys)

      no_place : (b : ℕ) (d : K) → b < length order → is_at (cmp key) (get_or (entries_at members order) b d) ≡ false
      no_place b d lt = elim (cases_lt b gap) [
        | inl before ↦ ap is_eq (absent.place.0 b d (omega arith) before)
        | inr after ↦ ap is_eq (absent.place.1 b d after (omega (arith, length_keys)))
      ]

      no_member : (j : ℕ) → j < length members → is_at (cmp key) (get_or members j key) ≡ false
      no_member j lt =
          let (b, inside, here) = place_of j lt in
          subst (λ k. is_at (cmp key) (get_or members k key) ≡ false) here (ap (is_at (cmp key)) (sym (read b key inside)) ∙ no_place b key inside)

      pub number_absent : number_in cmp members key ≡ None
      number_absent = position_none (is_at (cmp key)) members
          (position_or_len_is (is_at (cmp key)) members (length members) key (omega arith) no_member (λ past. absurd (omega arith)))

      -- the key behind the members is the first that is equal to it
      pub number_added : number_in cmp (members ++ key ∷ []) key ≡ Some (length members)
      number_added =
          let all = members ++ key ∷ [] in
          let long = length_push members key in
          position_from_len (is_at (cmp key)) all (length members) (omega (arith, long))
          (position_or_len_is (is_at (cmp key)) all (length members) key (omega (arith, long))
          (λ j lt. ap (is_at (cmp key)) (get_or_append_left members (key ∷ []) key j lt) ∙ no_member j lt)
          (λ _. ap is_eq (ap (cmp key) (get_or_push members key key (length members) refl) ∙ tied_itself total key)))

      all_added : (number : ℕ) → number < length (members ++ key ∷ []) → Contains (insert order gap (length members)) number
      all_added number lt =
          let new = insert order gap (length members) in
          let long = length-insert order gap (length members) gap_within in
          elim (cases_lt number (length members)) [
            | inl old ↦
                let (b, inside, here) = place_of number old in
                elim (cases_lt b gap) [
                  | inl before ↦ subst (Contains new) (get_or-insert_below order gap (length members) 0 b before gap_within ∙ here)
                      (Contains-get_or new b 0 (omega (arith, long)))
                  | inr after ↦ subst (Contains new) (get_or-insert_above order gap (length members) 0 b after gap_within ∙ here)
                      (Contains-get_or new (b + 1) 0 (omega (arith, long)))
                ]
            | inr last ↦
                let is : number ≡ length members = omega (arith, length_push members key) in
                subst (Contains new) (get_or-insert_at order gap (length members) 0 gap_within ∙ sym is)
                (Contains-get_or new gap 0 (omega (arith, long, gap_within)))
          ]

      pub order_added : IsOrderOf cmp (members ++ key ∷ []) (insert order gap (length members))
      order_added = record {
        in_range = within-added members order gap key index.in_range;
        as_many = omega (arith, length-insert order gap (length members) gap_within, index.as_many, length_push members key);
        all = all_added;
        ascending = subst (IsStrictlySortedBy cmp) (sym (entries_at-added members order gap key index.in_range))
            (sorted-insert total key (entries_at members order) gap index.ascending absent.in_range absent.place.0 absent.place.1);
      }
