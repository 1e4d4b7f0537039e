-- The places of rules sorted by priority.
use Rattle.std.proofs.Common.{◌≡◌, ◌≢◌, ◌<◌, ℕ, ℤ, zero, suc, true, false, List, [], ◌∷◌, map, length, get_or, Some, slice_get, pos}
use Rattle.std.proofs.Common.{Ordering, Less, Equal, Greater, refl, sym, ap, subst, ◌∙◌, arith}
use Rattle.std.specs.Prelude.{Contains, IsPermutation, IsSorted}
use Rattle.std.specs.List.{AllPairs}
use Rattle.std.specs.Ordering.{nat_cmp, int_cmp, ordering_then, ordering_reverse, is_lt}
use Rattle.std.specs.Cmp.{IsTotalOrder, then_total, on_total, nat_cmp_total, back_total}
use Rattle.std.specs.declared.cmp.Reverse.{Reverse}
use Rattle.std.proofs.Math.Dec.{eqb}
use Rattle.std.proofs.lemmas.Bool.Decides.{Decides-eqb}
use Rattle.std.proofs.lemmas.Cmp.{int_cmp_total, nat_eq_equiv}
use Rattle.std.proofs.lemmas.List.{length-map, get_or-map}
use Rattle.std.proofs.lemmas.List.Sorted.{sorted_far, Contains-permutation, IsPermutation-sym, IsPermutation-map}
use Rattle.std.proofs.lemmas.List.MinMax.{ranks_by}
use Rattle.std.proofs.lemmas.Map.Lookups.{exact_unsigned}
use Rattle.std.proofs.lemmas.Map.Keys.{IsDistinct-IsPermutation}
use Rattle.std.proofs.lemmas.Map.Made.{AllPairs-from_IsDistinct, IsDistinct-from_AllPairs}
use Rattle.std.proofs.lemmas.Option.{same_Some, slice_get_within, slice_get-get_or, get_or_from_slice_get}
use Rattle.isle_containers.proofs.RootedTables.{Contains-map}
use Rattle.isle_rules.specs.declared.rules.Rule.{Rule}
use Rattle.isle_program.specs.Plain.LaidOut.Rules.{priority_of, TriedBefore, AreByPriority}

-- a rule's priority, the greatest first, with the rule's place
abbrev pub Key : Type 0
Key = Reverse ℤ × ℕ

-- keys ascend by descending priority, then by the place
abbrev pub key_order : Key → Key → Ordering
key_order a b = ordering_then (int_cmp b.0.0 a.0.0) (nat_cmp a.1 b.1)

-- it is a total order
keys_total : IsTotalOrder key_order
keys_total =
    then_total (on_total (λ (k : Key). k.0) (on_total (λ (r : Reverse ℤ). r.0) (back_total int_cmp_total)))
    (on_total (λ (k : Key). k.1) nat_cmp_total)

-- where an item that is contained stands
place_of : {X : Type 0} (xs : List X) (x : X) → Contains xs x → (k : ℕ) × (slice_get xs k ≡ Some x)
place_of xs x (k, within, is) = (k, slice_get-get_or xs k x within ∙ ap Some is)

-- an item that stands at a place is contained
stands_at : {X : Type 0} (xs : List X) (k : ℕ) (x : X) → slice_get xs k ≡ Some x → Contains xs x
stands_at xs k x e = (k, slice_get_within xs k x e, get_or_from_slice_get xs k x x e)

-- a place within the rules has a rule
rule_there : (rules : List Rule) (i : ℕ) → i < length rules → (rule : Rule) × (slice_get rules i ≡ Some rule)
rule_there [] i within = absurd (omega arith)
rule_there (rule ∷ more) zero within = (rule, refl)
rule_there (rule ∷ more) (suc i) within = rule_there more i (omega arith)

-- a later key of another place is greater
later_greater : (a b : Key) → is_lt (key_order b a) ≡ false → (a.1 ≡ b.1 → ⊥) → key_order a b ≡ Less
later_greater a b not_less apart = by (key_order b a) refl
  where
    level : (p q : Ordering) → ordering_then p q ≡ Equal → q ≡ Equal
    level Less q e = absurd cc
    level Equal q e = e
    level Greater q e = absurd cc

    by : (r : Ordering) → key_order b a ≡ r → key_order a b ≡ Less
    by Less e = let f : is_lt (key_order b a) ≡ true = ap is_lt e in absurd (let g = not_less in cc)
    by Equal e =
        let f : key_order a b ≡ Equal = keys_total.antisymm a b ∙ ap ordering_reverse e in
        absurd (apart (exact_unsigned a.1 b.1 (level (int_cmp b.0.0 a.0.0) (nat_cmp a.1 b.1) f)))
    by Greater e = keys_total.antisymm a b ∙ ap ordering_reverse e

-- whether numbers are equal doesn't depend on their order
flips : (x y : ℕ) → eqb x y ≡ eqb y x
flips x y = nat_eq_equiv.symm x y

module _ (rules : List Rule) (made keys : List Key) (fits : length made ≡ length rules)
    (is : (i : ℕ) (rule : Rule) → slice_get rules i ≡ Some rule → slice_get made i ≡ Some (record { 0 = rule.prio }, i))
    (moved : IsPermutation made keys) (sorted : IsSorted key_order keys) where
  -- the numbers of the keys as they were made
  made_number : (i d : ℕ) → i < length made → get_or (map (λ (k : Key). k.1) made) i d ≡ i
  made_number i d within =
      let (rule, at) = rule_there rules i (omega (arith, within, fits)) in
      let key : Key = (record { 0 = rule.prio }, i) in
      get_or-map (λ (k : Key). k.1) made i key d within ∙ ap (λ (k : Key). k.1) (get_or_from_slice_get made i key key (is i rule at))

  -- each place once
  numbers_apart : AllPairs (λ x y. x ≢ y) (map (λ (k : Key). k.1) keys)
  numbers_apart =
      let of_key : Key → ℕ = λ k. k.1 in
      let once : AllPairs (λ x y. x ≢ y) (map of_key made) = λ i j d less within same.
      let more : j < length made = omega (arith, within, length-map made of_key) in
      let low = made_number i d (omega arith) in
      let high = made_number j d more in
      omega (arith, low, high, same, less) in
      AllPairs-from_IsDistinct Decides-eqb (map of_key keys)
      (IsDistinct-IsPermutation eqb flips (map of_key made) (map of_key keys) (IsPermutation-map of_key made keys moved)
      (IsDistinct-from_AllPairs Decides-eqb (map of_key made) once))

  -- each key tells the priority of its rule
  key_priority : (p : ℕ) (key : Key) → slice_get keys p ≡ Some key → priority_of (slice_get rules key.1) ≡ key.0.0
  key_priority p key at =
      let among : Contains made key =
      Contains-permutation keys made key (IsPermutation-sym made keys moved) (stands_at keys p key at) in
      let (i, there) = place_of made key among in
      let within = slice_get_within made i key there in
      let (rule, rule_at) = rule_there rules i (omega (arith, within, fits)) in
      let same : key ≡ (record { 0 = rule.prio }, i) = same_Some key (record { 0 = rule.prio }, i) (sym there ∙ is i rule rule_at) in
      ap (λ (k : Key). priority_of (slice_get rules k.1)) same ∙ ap priority_of rule_at ∙ sym (ap (λ (k : Key). k.0.0) same)

  -- of two keys the rule of the first is tried first
  keys_tried : (p q : ℕ) (a b : Key) → p < q → slice_get keys p ≡ Some a → slice_get keys q ≡ Some b → TriedBefore rules a.1 b.1
  keys_tried p q a b less at there =
      let within : q < length keys = slice_get_within keys q b there in
      let far = sorted_far (λ x y. is_lt (key_order x y)) (ranks_by keys_total (λ (k : Key). k)) keys sorted p q a (omega arith) within in
      let not_less : is_lt (key_order b a) ≡ false =
      subst (λ (x : Key). is_lt (key_order b x) ≡ false) (get_or_from_slice_get keys p a a at)
      (subst (λ (y : Key). is_lt (key_order y (get_or keys p a)) ≡ false) (get_or_from_slice_get keys q b a there) far) in
      let of_key : Key → ℕ = λ k. k.1 in
      let apart : a.1 ≡ b.1 → ⊥ = λ same.
      numbers_apart p q 0 less (omega (arith, length-map keys of_key, within))
      (get_or-map of_key keys p a 0 (omega arith) ∙ ap of_key (get_or_from_slice_get keys p a a at) ∙ same
      ∙ sym (get_or-map of_key keys q b 0 within ∙ ap of_key (get_or_from_slice_get keys q b b there))) in
      ap (λ (x : ℤ). ordering_then (int_cmp x (priority_of (slice_get rules a.1))) (nat_cmp a.1 b.1)) (key_priority q b there)
      ∙ ap (λ (y : ℤ). ordering_then (int_cmp b.0.0 y) (nat_cmp a.1 b.1)) (key_priority p a at)
      ∙ later_greater a b not_less apart

  -- the places of the sorted keys are those of all rules, in the order in which they are tried
  pub keys_by_priority : AreByPriority rules (map (λ (k : Key). k.1) keys)
  keys_by_priority = record {
    all = λ i within.
        let (rule, at) = rule_there rules i within in
        let key : Key = (record { 0 = rule.prio }, i) in
        Contains-map (λ (k : Key). k.1) keys key (Contains-permutation made keys key moved (stands_at made i key (is i rule at)));
    order = λ p q d less within.
        let of_key : Key → ℕ = λ k. k.1 in
        let inside : q < length keys = omega (arith, length-map keys of_key, within) in
        let none : Key = (record { 0 = pos 0 }, d) in
        let a : Key = get_or keys p none in
        let b : Key = get_or keys q none in
        let before : p < length keys = omega arith in
        let tried : TriedBefore rules a.1 b.1 =
        keys_tried p q a b less (slice_get-get_or keys p none before) (slice_get-get_or keys q none inside) in
        subst (λ (i : ℕ). TriedBefore rules i (get_or (map of_key keys) q d)) (sym (get_or-map of_key keys p none d before))
        (subst (λ (j : ℕ). TriedBefore rules a.1 j) (sym (get_or-map of_key keys q none d inside)) tried);
  }
