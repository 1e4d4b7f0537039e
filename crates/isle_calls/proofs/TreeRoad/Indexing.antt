-- That a map keeps where the sites of bindings stand, as bindings come and go.
use Rattle.std.proofs.Common.{◌≡◌, ℕ, ◌<◌, ◌≤◌, List, [], ◌∷◌, length, Option, Some, None, Result, Ok, Err, OnOk, OnErr, cond, eqb, ◌++◌, reverse, sym, subst, arith, nat_cmp}
use Rattle.std.specs.BTreeMap.{BTreeMap, Updates, is_at, get}
use Rattle.std.proofs.lemmas.List.{length-reverse, reverse-append}
use Rattle.isle_calls.specs.Inside.Blocks.Bounds.{few, undone, Indexes, at_number, AreIndexed}
use Rattle.isle_calls.specs.declared.machine.bound.BoundSite.{BoundSite}

-- a number compares equal to itself, and to no other
is_at-number : (a k : ℕ) → is_at (nat_cmp a) k ≡ eqb k a
is_at-number a k = grind arith

-- of bindings, the last first, and of what their sites have
module _ {T : Type 0} where
  -- what indexes bindings can be had in another form
  Indexes-same : (bs : List (BoundSite T)) (index other : ℕ → Option ℕ) → ((k : ℕ) → index k ≡ other k) → Indexes bs index → Indexes bs other
  Indexes-same bs index other same indexes = subst (Indexes bs) (λ i k. same k i) indexes

  -- of a few bindings no site has a number
  none_at_few : (bs : List (BoundSite T)) (index : ℕ → Option ℕ) → length bs ≤ few → Indexes bs index → (k : ℕ) → index k ≡ None
  none_at_few [] index short indexes k = indexes k
  none_at_few (b ∷ bs) index short indexes k = indexes.0 (omega arith) k

  -- and where no site has one, a few bindings are indexed
  Indexes-few : (bs : List (BoundSite T)) (index : ℕ → Option ℕ) → length bs ≤ few → ((k : ℕ) → index k ≡ None) → Indexes bs index
  Indexes-few [] index short none = none
  Indexes-few (b ∷ bs) index short none = (λ _. none, λ long. absurd (omega arith))

  -- one more binding behind the first few, whose site then has its place
  Indexes-push : (b : BoundSite T) (bs : List (BoundSite T)) (index after : ℕ → Option ℕ) → few ≤ length bs
      → b.before ≡ index b.site → ((k : ℕ) → after k ≡ cond (eqb k b.site) (Some (length bs)) (index k)) → Indexes bs index → Indexes (b ∷ bs) after
  Indexes-push b bs index after long before put indexes =
      (λ short. absurd (omega arith), λ _. (grind (arith, put b.site), Indexes-same bs index (undone b after) (λ k. grind (arith, put k)) indexes))

  -- one fewer behind the first few, whose site then has what it had before
  Indexes-pop : (b : BoundSite T) (bs : List (BoundSite T)) (index after : ℕ → Option ℕ) → few ≤ length bs
      → ((k : ℕ) → after k ≡ undone b index k) → Indexes (b ∷ bs) index → Indexes bs after
  Indexes-pop b bs index after long back indexes = Indexes-same bs (undone b index) after (λ k. sym (back k)) (indexes.1 long).1

-- of bindings as they stand, and of a map
module _ {T : Type 0} where
  -- the last binding comes first where the last are first
  reverse-push : (bindings : List (BoundSite T)) (b : BoundSite T) → reverse (bindings ++ b ∷ []) ≡ b ∷ reverse bindings
  reverse-push bindings b = reverse-append bindings (b ∷ [])

  -- the site of the last binding is in the map, if that is behind the first few
  AreIndexed-last : (bindings : List (BoundSite T)) (b : BoundSite T) (places : BTreeMap ℕ ℕ) → few ≤ length bindings
      → AreIndexed (bindings ++ b ∷ []) places → get nat_cmp places b.site ≡ Some (length bindings)
  AreIndexed-last bindings b places long indexed =
      let all : Indexes (b ∷ reverse bindings) (at_number places) = rw reverse-push at indexed in
      rw length-reverse at (all.1 (rw length-reverse long)).0

  -- one more binding among the first few leaves the map as it is
  pub AreIndexed-push_few : (bindings : List (BoundSite T)) (b : BoundSite T) (places : BTreeMap ℕ ℕ) → length bindings < few
      → AreIndexed bindings places → AreIndexed (bindings ++ b ∷ []) places
  AreIndexed-push_few bindings b places short indexed =
      let fewer : length (reverse bindings) < few = rw length-reverse short in
      rw reverse-push (Indexes-few (b ∷ reverse bindings) (at_number places) (omega arith)
      (none_at_few (reverse bindings) (at_number places) (omega arith) indexed))

  -- one fewer among the first few does too
  pub AreIndexed-pop_few : (bindings : List (BoundSite T)) (b : BoundSite T) (places : BTreeMap ℕ ℕ) → length bindings < few
      → AreIndexed (bindings ++ b ∷ []) places → AreIndexed bindings places
  AreIndexed-pop_few bindings b places short indexed =
      let fewer : length (reverse bindings) < few = rw length-reverse short in
      let all : Indexes (b ∷ reverse bindings) (at_number places) = rw reverse-push at indexed in
      Indexes-few (reverse bindings) (at_number places) (omega arith) (all.0 fewer)

  -- one more binding behind the first few, whose place the map takes in
  pub AreIndexed-push : (bindings : List (BoundSite T)) (b : BoundSite T) (places after : BTreeMap ℕ ℕ) (place : ℕ)
      → few ≤ place → place ≡ length bindings → b.before ≡ get nat_cmp places b.site → Updates nat_cmp places after b.site (Some place)
      → AreIndexed bindings places → AreIndexed (bindings ++ b ∷ []) after
  AreIndexed-push bindings b places after place long last before updates indexed =
      rw reverse-push
      (Indexes-push b (reverse bindings) (at_number places) (at_number after) (rw (length-reverse, ← last) long) before
      (λ k. rw (length-reverse, ← last, ← is_at-number b.site k) (updates.0 k)) indexed)

  -- one fewer behind the first few, for which the map takes in where its site stood before
  pub AreIndexed-pop : (bindings : List (BoundSite T)) (b : BoundSite T) (places after : BTreeMap ℕ ℕ) (before : Option ℕ)
      → few ≤ length bindings → b.before ≡ before → Updates nat_cmp places after b.site before → AreIndexed (bindings ++ b ∷ []) places
      → AreIndexed bindings after
  AreIndexed-pop bindings b places after before long is updates indexed =
      Indexes-pop b (reverse bindings) (at_number places) (at_number after) (rw length-reverse long)
      (λ k. rw (is, ← is_at-number b.site k) (updates.0 k)) (rw reverse-push at indexed)

  -- taking that in cannot fail where the site stood somewhere, since the site is in the map
  pub AreIndexed-pop_put : {X E : Type 0} (bindings : List (BoundSite T)) (b : BoundSite T) (places after : BTreeMap ℕ ℕ)
      (before : Option ℕ) (result : Result X E) → few ≤ length bindings → b.before ≡ before → OnOk result (Updates nat_cmp places after b.site before)
      → OnErr result (get nat_cmp places b.site ≡ None) → AreIndexed (bindings ++ b ∷ []) places → AreIndexed bindings after
  AreIndexed-pop_put bindings b places after before (Ok _) long is updates absent indexed =
      AreIndexed-pop bindings b places after before long is updates indexed
  AreIndexed-pop_put bindings b places after before (Err _) long is updates absent indexed = let last =
      AreIndexed-last bindings b places long indexed in absurd cc
