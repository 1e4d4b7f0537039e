-- Where the last binding of a site stands, and what it holds.
use Rattle.std.proofs.Common.{◌≡◌, ℕ, ◌<◌, ◌≤◌, ◌≢◌, ⊎_elim, List, [], ◌∷◌, ◌++◌, length, map, reverse, take, drop, get_or, min, nat_cmp, Option, Some, None, refl, sym, ap, subst, ◌∙◌, arith, length-append}
use Rattle.std.proofs.lemmas.Bool.{cases_lt, cases_eq}
use Rattle.std.proofs.lemmas.List.{length-reverse, reverse-append, take-append-drop, get_or_append_left, get_or_at, take_all, length-take}
use Rattle.std.proofs.lemmas.Grind.{reverse_onto}
use Rattle.std.specs.BTreeMap.{BTreeMap, get}
use Rattle.isle_calls.specs.Inside.Blocks.Bounds.{few, undone, Indexes, place_in, held_at, shown_site, at_number, AreIndexed}
use Rattle.isle_calls.specs.declared.machine.bound.BoundSite.{BoundSite}

-- of one binding and those before it
module _ {T : Type 0} (b : BoundSite T) (bs : List (BoundSite T)) (k : ℕ) where
  -- a binding of the site is its last one
  place_in-here : b.site ≡ k → place_in k (b ∷ bs) ≡ Some (length bs)
  place_in-here here = grind arith

  -- one of another site is passed over
  place_in-apart : b.site ≢ k → place_in k (b ∷ bs) ≡ place_in k bs
  place_in-apart apart = grind arith

  -- a binding of the site has what the site holds
  held_at-here : b.site ≡ k → held_at k (map shown_site (b ∷ bs)) ≡ Some b.held
  held_at-here here = grind arith

  -- one of another site says nothing of that
  held_at-apart : b.site ≢ k → held_at k (map shown_site (b ∷ bs)) ≡ held_at k (map shown_site bs)
  held_at-apart apart = grind arith

-- of bindings, the last first, and of what their sites have
module _ {T : Type 0} where
  -- what a site has is where its last binding stands
  place_in-some : (bs : List (BoundSite T)) (index : ℕ → Option ℕ) (k place : ℕ) → Indexes bs index → index k ≡ Some place
      → place_in k bs ≡ Some place
  place_in-some [] index k place indexes found = cc (indexes k)
  place_in-some (b ∷ bs) index k place indexes found =
      ⊎_elim
      (λ short. let none = indexes.0 short k in cc)
      (λ long.
      let last = (indexes.1 long).0 in
      ⊎_elim
      (λ here. place_in-here b bs k here ∙ sym last ∙ ap index here ∙ found)
      (λ apart. place_in-apart b bs k apart ∙ place_in-some bs (undone b index) k place (indexes.1 long).1 (grind arith))
      (cases_eq b.site k))
      (cases_lt (length bs) few)

  -- where it has nothing, its last binding is among the first few
  place_in-none : (later first : List (BoundSite T)) (index : ℕ → Option ℕ) (k : ℕ) → few ≤ length first → Indexes (later ++ first) index
      → index k ≡ None → place_in k (later ++ first) ≡ place_in k first
  place_in-none [] first index k long indexes none = refl
  place_in-none (b ∷ later) first index k long indexes none =
      let behind : few ≤ length (later ++ first) = omega (arith, length-append later first) in
      let last = (indexes.1 behind).0 in
      ⊎_elim
      (λ here. let same = ap index here in absurd cc)
      (λ apart. place_in-apart b (later ++ first) k apart ∙ place_in-none later first (undone b index) k long (indexes.1 behind).1 (grind arith))
      (cases_eq b.site k)

  -- where a binding is found, there is one
  pub place_in-within : (bs : List (BoundSite T)) (k place : ℕ) → place_in k bs ≡ Some place → place < length bs
  place_in-within [] k place found = absurd cc
  place_in-within (b ∷ bs) k place found =
      ⊎_elim
      (λ here. let same : length bs ≡ place = let last = place_in-here b bs k here in cc in omega arith)
      (λ apart. let rest = place_in-within bs k place (sym (place_in-apart b bs k apart) ∙ found) in omega arith)
      (cases_eq b.site k)

  -- it has what the site holds
  pub held_at-some : (bs : List (BoundSite T)) (k place : ℕ) (default : BoundSite T) → place_in k bs ≡ Some place
      → held_at k (map shown_site bs) ≡ Some (get_or (reverse bs) place default).held
  held_at-some [] k place default found = absurd cc
  held_at-some (b ∷ bs) k place default found =
      ⊎_elim
      (λ here.
      let same : length bs ≡ place = let last = place_in-here b bs k here in cc in
      let read = get_or_at (reverse bs) b [] default place (length-reverse bs ∙ same) in
      rw (reverse_onto bs b [], read) (held_at-here b bs k here))
      (λ apart.
      let rest = sym (place_in-apart b bs k apart) ∙ found in
      let inside : place < length (reverse bs) = rw length-reverse (place_in-within bs k place rest) in
      let read = get_or_append_left (reverse bs) (b ∷ []) default place inside in
      rw (reverse_onto bs b [], read) (held_at-apart b bs k apart ∙ held_at-some bs k place default rest))
      (cases_eq b.site k)

  -- where none is found, the site holds nothing
  pub held_at-none : (bs : List (BoundSite T)) (k : ℕ) → place_in k bs ≡ None → held_at k (map shown_site bs) ≡ None
  held_at-none [] k none = refl
  held_at-none (b ∷ bs) k none =
      ⊎_elim
      (λ here. let last = place_in-here b bs k here in absurd cc)
      (λ apart. held_at-apart b bs k apart ∙ held_at-none bs k (sym (place_in-apart b bs k apart) ∙ none))
      (cases_eq b.site k)

-- of bindings as they stand, and of a map
module _ {T : Type 0} (bindings : List (BoundSite T)) (places : BTreeMap ℕ ℕ) (k : ℕ) (indexed : AreIndexed bindings places) where
  -- what the map has is where the last binding of a site stands
  pub place_of-map : (place : ℕ) → Some place ≡ get nat_cmp places k → Some place ≡ place_in k (reverse bindings)
  place_of-map place found = sym (place_in-some (reverse bindings) (at_number places) k place indexed (sym found))

  -- where it has nothing, the first few bindings tell
  pub place_of-few : (count : ℕ) → count ≡ min (length bindings) few → None ≡ get nat_cmp places k
      → place_in k (reverse (take count bindings)) ≡ place_in k (reverse bindings)
  place_of-few count least none =
      ⊎_elim
      (λ (short : length bindings < few). let all : length bindings ≤ count = omega arith in rw take_all refl)
      (λ (long : few ≤ length bindings).
      let first = reverse (take count bindings) in
      let later = reverse (drop count bindings) in
      let parts : reverse bindings ≡ later ++ first = ap reverse (sym (take-append-drop count bindings)) ∙ reverse-append
      (take count bindings) (drop count bindings) in
      let enough : few ≤ length first = simp (length-reverse, length-take) (omega arith) in
      let whole = place_in-none later first (at_number places) k enough (subst (λ bs. Indexes bs (at_number places)) parts indexed) (sym none) in
      sym (ap (place_in k) parts ∙ whole))
      (cases_lt (length bindings) few)
