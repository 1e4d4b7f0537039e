-- What is read of a rule set.
use Rattle.std.proofs.Common.{◌≡◌, ◌⊎◌, inl, inr, ℕ, zero, suc, Bool, true, false, List, [], ◌∷◌, ◌++◌, map, Option, Some, None}
use Rattle.std.proofs.Common.{slice_get, refl, ap, sym, subst}
use Rattle.std.proofs.Common.{◌∙◌, eqb-true, arith}
use Rattle.std.specs.Prelude.{Contains, if◌then◌else◌}
use Rattle.std.specs.BTreeMap.{is_at}
use Rattle.std.specs.Option.{option_map}
use Rattle.std.specs.Map.{keys_of}
use Rattle.std.specs.List.Sorted.{IsStrictlySortedBy}
use Rattle.std.specs.Cmp.{IsEquivalence}
use Rattle.std.proofs.lemmas.Cmp.{nat_eq_equiv, nat_cmp_total, eq_by_cmp_equiv, on_equiv}
use Rattle.std.proofs.lemmas.Bool.Decides.{nat_tests}
use Rattle.std.proofs.lemmas.Map.Keys.{IsDistinct-from_sorted}
use Rattle.std.proofs.lemmas.Map.Views.{Contains-from_lookup, lookup-from_Contains, Contains-from_any, list_any-from_Contains}
use Rattle.std.proofs.lemmas.Option.{same_Some, none-some}
use Rattle.isle_types.specs.Names.{AreDistinct}
use Rattle.isle_blocks.specs.declared.ids.BindingId.{BindingId}
use Rattle.isle_blocks.specs.declared.binding.Binding.{Binding}
use Rattle.isle_blocks.specs.declared.constraint.Constraint.{Constraint}
use Rattle.isle_blocks.specs.declared.rule.Rule.{Rule}
use Rattle.isle_blocks.specs.Rules.{site_cmp}
use Rattle.isle_blocks.specs.ClosedRules.{same_site}
use Rattle.isle_blocks.proofs.ClosedRules.{same_id}
use Rattle.isle_blocks.proofs.EqualSites.{binding-decides}
use Rattle.isle_trees.specs.Rules.{has, one_value, Elem}
use Rattle.isle_trees.proofs.Basics.{true_or, none_or}
use Rattle.isle_blocks.specs.Trees.View.{id_of, same_binding, read_or, or_else, keep, test_at, has_loop, want_or, place_of}
use Rattle.isle_blocks.specs.Trees.View.{opens_field, first_opening}

-- What is read is read of something.
pub read_some : {A B : Type 0} (f : A → Option B) (o : Option A) (y : B) → read_or None f o ≡ Some y → (x : A) × (o ≡ Some x) × (f x ≡ Some y)
read_some f None y e = absurd cc
read_some f (Some x) y e = (x, refl, e)

-- What is true of something is read of it.
pub read_true : {A : Type 0} (f : A → Bool) (o : Option A) → read_or false f o ≡ true → (x : A) × (o ≡ Some x) × (f x ≡ true)
read_true f None e = absurd cc
read_true f (Some x) e = (x, refl, e)

-- A test that is wanted is the rule's.
pub want_test : (b : Bool) (o : Option Constraint) (c : Constraint) → want_or b o ≡ Some (has c) → o ≡ Some c
want_test true (Some d) c e = cc
want_test false (Some d) c e = cc
want_test true None c e = absurd cc
want_test false None c e = absurd cc

-- One value that is wanted is of a multi call without a test.
pub want_one : (b : Bool) (o : Option Constraint) → want_or b o ≡ Some one_value → (o ≡ None) × (b ≡ true)
want_one true (Some d) e = absurd cc
want_one false (Some d) e = absurd cc
want_one true None e = (refl, refl)
want_one false None e = absurd cc

-- A rule's test is wanted.
pub test_want : (b : Bool) (o : Option Constraint) (c : Constraint) → o ≡ Some c → want_or b o ≡ Some (has c)
test_want true o c e = rw e refl
test_want false o c e = rw e refl

-- sites that are found alike are one
exact_at : (q k : BindingId) → is_at (site_cmp q) k ≡ true → q ≡ k
exact_at q k e = same_id q k (grind (arith, nat_tests))

-- being found alike is an equivalence
at_order : IsEquivalence (λ (q k : BindingId). is_at (site_cmp q) k)
at_order = on_equiv (λ (q : BindingId). q.0) (eq_by_cmp_equiv nat_cmp_total)

-- A test that is found stands in the rule.
pub found_test : (rule : Rule) (s : ℕ) (c : Constraint) → test_at s rule ≡ Some c → Contains rule.constraints (id_of s, c)
found_test rule s c e = Contains-from_lookup {eq = λ q k. is_at (site_cmp q) k} exact_at (id_of s) c rule.constraints e

-- One that stands there is found.
pub test_found : (rule : Rule) (s : ℕ) (c : Constraint) → IsStrictlySortedBy site_cmp (keys_of rule.constraints)
    → Contains rule.constraints (id_of s, c) → test_at s rule ≡ Some c
test_found rule s c sorted h =
    lookup-from_Contains {eq = λ q k. is_at (site_cmp q) k} at_order (id_of s) c rule.constraints (IsDistinct-from_sorted site_cmp _ sorted) h

-- sites that are the same are one
exact_site : (q k : BindingId) → same_site q k ≡ true → q ≡ k
exact_site q k e = same_id q k (eqb-true q.0 k.0 e)

-- being the same is an equivalence
site_order : IsEquivalence same_site
site_order = on_equiv (λ (q : BindingId). q.0) nat_eq_equiv

-- A multi call that is found stands in the rule.
pub found_loop : (rule : Rule) (s : ℕ) → has_loop s rule ≡ true → Contains rule.iterators (id_of s)
found_loop rule s e = Contains-from_any exact_site (id_of s) rule.iterators e

-- One that stands there is found.
pub loop_found : (rule : Rule) (s : ℕ) → Contains rule.iterators (id_of s) → has_loop s rule ≡ true
loop_found rule s h = list_any-from_Contains site_order (id_of s) rule.iterators h

-- a number behind another
some_suc : (o : Option ℕ) (k : ℕ) → option_map suc o ≡ Some k → (j : ℕ) × (o ≡ Some j) × (k ≡ suc j)
some_suc None k e = absurd (none-some k e)
some_suc (Some j) k e = (j, refl, sym (same_Some (suc j) k e))

-- A site stands at its place.
pub place_sound : (b : Binding) (table : List Binding) (k : ℕ) → place_of b table ≡ Some k → slice_get table k ≡ Some b
place_sound b [] k e = absurd (none-some k e)
place_sound b (x ∷ xs) k e = elim (true_or (same_binding x b)) [
  | inl p ↦
      let q : Some 0 ≡ Some k = subst (λ (t : Bool). (if t then Some 0 else option_map suc (place_of b xs)) ≡ Some k) p e in
      subst (λ (j : ℕ). slice_get (x ∷ xs) j ≡ Some b) (same_Some 0 k q) (ap Some ((binding-decides x b).0 p))
  | inr p ↦
      let q : option_map suc (place_of b xs) ≡ Some k = subst (λ (t : Bool). (if t then Some 0 else option_map suc (place_of b xs)) ≡ Some k) p e in
      let (j, r, l) = some_suc (place_of b xs) k q in
      subst (λ (i : ℕ). slice_get (x ∷ xs) i ≡ Some b) (sym l) (place_sound b xs j r)
]

-- A site that stands somewhere has a place.
pub place_full : (b : Binding) (table : List Binding) (k : ℕ) → slice_get table k ≡ Some b → (j : ℕ) × (place_of b table ≡ Some j)
place_full b [] k e = absurd (none-some b e)
place_full b (x ∷ xs) zero e = (0, rw ((binding-decides x b).1 (same_Some x b e)) refl)
place_full b (x ∷ xs) (suc k) e =
    let rest = place_full b xs k e in
    elim (true_or (same_binding x b)) [
      | inl p ↦ (0, rw p refl)
      | inr p ↦ (suc (rest.0), rw p (ap (option_map suc) (rest.1)))
    ]

-- The place of a site that stands once is where it stands.
pub place_found : (b : Binding) (table : List Binding) (k : ℕ) → AreDistinct table → slice_get table k ≡ Some b → place_of b table ≡ Some k
place_found b table k once e =
    let (j, p) = place_full b table k e in
    let h : j ≡ k = once b j k (place_sound b table j p) e in p ∙ ap Some h

-- What is kept was there, and passes.
pub keep_some : {A : Type 0} (p : A → Bool) (o : Option A) (x : A) → keep p o ≡ Some x → (o ≡ Some x) × (p x ≡ true)
keep_some p None x e = absurd (none-some x e)
keep_some p (Some y) x e = go (p y) refl e
  where
    go : (b : Bool) → p y ≡ b → (if b then Some y else None) ≡ Some x → (Some y ≡ Some x) × (p x ≡ true)
    go true h q = (q, subst (λ (z : _). p z ≡ true) (same_Some y x q) h)
    go false h q = absurd (none-some x q)

-- the first of two, or the second where the first is nothing
or_some : {A : Type 0} (o q : Option A) (x : A) → or_else o q ≡ Some x → (o ≡ Some x) ⊎ ((o ≡ None) × (q ≡ Some x))
or_some None q x e = inr (refl, e)
or_some (Some y) q x e = inl e

-- The first test that opens a field is a rule's.
pub opening_found : (kind : Option ℕ) (i s : ℕ) (rules : List Rule) (c : Constraint) → first_opening kind i s rules ≡ Some c
    → (j : ℕ) × (rule : Rule) × (slice_get rules j ≡ Some rule) × (test_at s rule ≡ Some c) × (opens_field kind i c ≡ true)
opening_found kind i s [] c e = absurd (none-some c e)
opening_found kind i s (rule ∷ rules) c e = elim (or_some (keep (opens_field kind i) (test_at s rule)) (first_opening kind i s rules) c e) [
  | inl p ↦ let h = keep_some (opens_field kind i) (test_at s rule) c p in (0, rule, refl, h.0, h.1)
  | inr p ↦ let (j, r, at, t, o) = opening_found kind i s rules c (p.1) in (suc j, r, at, t, o)
]

-- Where a rule's test opens it there is a first.
pub opening_there : (kind : Option ℕ) (i s : ℕ) (rules : List Rule) (j : ℕ) (rule : Rule) (c : Constraint) → slice_get rules j ≡ Some rule
    → test_at s rule ≡ Some c → opens_field kind i c ≡ true → (d : Constraint) × (first_opening kind i s rules ≡ Some d)
opening_there kind i s [] j rule c at t o = absurd (none-some rule at)
opening_there kind i s (r ∷ rules) zero rule c at t o =
    let same : r ≡ rule = same_Some r rule at in
    let here : keep (opens_field kind i) (test_at s r) ≡ Some c = rw (same, t, o) refl in
    (c, rw here refl)
opening_there kind i s (r ∷ rules) (suc j) rule c at t o =
    let rest = opening_there kind i s rules j rule c at t o in
    elim (none_or (keep (opens_field kind i) (test_at s r))) [
      | inl p ↦ (rest.0, rw p (rest.1))
      | inr p ↦ (p.0, rw (p.1) refl)
    ]

-- A number of a list is that of something in it.
pub numbered : {X : Type 0} (f : X → ℕ) (xs : List X) (k : ℕ) → Elem k (map f xs) → (x : X) × Contains xs x × (f x ≡ k)
numbered f [] k h = absurd h
numbered f (x ∷ xs) k (inl e) = (x, (0, omega arith, refl), sym e)
numbered f (x ∷ xs) k (inr h) = let (y, (j, within, is), e) = numbered f xs k h in (y, (suc j, omega arith, is), e)

-- The number of something in a list is one of it.
pub number_in : {X : Type 0} (f : X → ℕ) (xs : List X) (x : X) → Contains xs x → Elem (f x) (map f xs)
number_in f [] x (j, within, is) = absurd (omega arith)
number_in f (y ∷ xs) x (zero, within, is) = inl (sym (ap f is))
number_in f (y ∷ xs) x (suc j, within, is) = inr (number_in f xs x (j, omega arith, is))

-- One of the first list.
pub elem_left : {X : Type 0} (x : X) (xs ys : List X) → Elem x xs → Elem x (xs ++ ys)
elem_left x [] ys h = absurd h
elem_left x (y ∷ xs) ys (inl e) = inl e
elem_left x (y ∷ xs) ys (inr h) = inr (elem_left x xs ys h)

-- One of the second.
pub elem_right : {X : Type 0} (x : X) (xs ys : List X) → Elem x ys → Elem x (xs ++ ys)
elem_right x [] ys h = h
elem_right x (y ∷ xs) ys h = inr (elem_right x xs ys h)

-- What passes is kept.
pub keep_full : {A : Type 0} (p : A → Bool) (o : Option A) (x : A) → o ≡ Some x → p x ≡ true → keep p o ≡ Some x
keep_full p o x e q = rw (e, q) refl

-- What is made of one of a list.
pub elem_map : {X Y : Type 0} (f : X → Y) (xs : List X) (x : X) → Elem x xs → Elem (f x) (map f xs)
elem_map f [] x h = absurd h
elem_map f (y ∷ xs) x (inl e) = inl (ap f e)
elem_map f (y ∷ xs) x (inr h) = inr (elem_map f xs x h)

-- One of what is made of a list.
pub map_elem : {X Y : Type 0} (f : X → Y) (xs : List X) (y : Y) → Elem y (map f xs) → (x : X) × Elem x xs × (f x ≡ y)
map_elem f [] y h = absurd h
map_elem f (x ∷ xs) y (inl e) = (x, inl refl, sym e)
map_elem f (x ∷ xs) y (inr h) = let (z, m, e) = map_elem f xs y h in (z, inr m, e)
