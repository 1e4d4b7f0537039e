-- What a path knows is true, and what a step binds is available and asked.
use Rattle.std.proofs.Common.{◌≡◌, ◌≢◌, ◌⊎◌, inl, inr, ℕ, ◌==◌, List, [], ◌∷◌, true, Option, Some, refl, sym, ◌∙◌, ap, subst, eqb-true}
use Rattle.std.specs.Prelude.{if◌then◌else◌}
use Rattle.std.proofs.lemmas.Bool.{eqb-false}
use Rattle.isle_trees.specs.Answers.{Answers, HasValue}
use Rattle.isle_trees.specs.Rules.{Want, has, one_value, Source, Rules, Elem, Asked, IsPartOf, Meets}
use Rattle.isle_trees.specs.Premises.{IsWellMade}
use Rattle.isle_trees.specs.Scopes.{Scope, join, emit, emit_all, inside, IsAvailable, Test, on_match, on_equal, on_loop, sites_of, has_test, counted, IsReady}
use Rattle.isle_trees.specs.Builds.{IsBest, Binds, wanting}
use Rattle.isle_trees.proofs.Basics.{true_or, some_elem, from_filter, SameIs, JoinsBothWays, is_want_is, test_of, one_of, counted_has, or_right}
use Rattle.isle_trees.proofs.Progress.{Carries}

-- what the path knows is true
pub record Holds {C V : Type 0} (R : Rules C V) (v : Answers V) (sc : Scope C) : Type 0 where
  pub wants : (s : ℕ) (w : Want C) → sc.passed s ≡ Some w → Meets R w (v s)
  pub same : (a b : ℕ) → sc.label a ≡ sc.label b → v a ≡ v b
  pub there : (a b : ℕ) → sc.label a ≡ sc.label b → a ≢ b → HasValue (v a)

-- binding changes neither what was met nor what was joined
pub holds_bound : {C V : Type 0} (R : Rules C V) (v : Answers V) (sc : Scope C) (xs : List ℕ) → Holds R v sc → Holds R v (emit_all sc xs)
holds_bound R v sc [] h = h
holds_bound R v sc (x ∷ xs) h = holds_bound R v (emit sc x) xs (record { wants = h.wants; same = h.same; there = h.there })

pub carries_bound : {C V : Type 0} (R : Rules C V) (left : List ℕ) (sc : Scope C) (xs : List ℕ) → Carries R left sc → Carries R left (emit_all sc xs)
carries_bound R left sc [] c = c
carries_bound R left sc (x ∷ xs) c = carries_bound R left (emit sc x) xs c

pub fewer_carry : {C V : Type 0} (R : Rules C V) (left less : List ℕ) (sc : Scope C) → ((i : ℕ) → Elem i less → Elem i left)
    → Carries R left sc → Carries R less sc
fewer_carry R left less sc f c = λ i s w m e. c i s w (f i m) e

passed_inside : {C : Type 0} (x s : ℕ) (w u : Want C) (o : Option (Want C)) → (if x == s then Some w else o) ≡ Some u
    → ((x ≡ s) × (w ≡ u)) ⊎ (o ≡ Some u)
passed_inside x s w u o e = elim (true_or (x == s)) [
  | inl y ↦ let f : Some w ≡ Some u = rw y at e in inl (eqb-true x s y, cc)
  | inr n ↦ let f : o ≡ Some u = rw n at e in inr f
]

pub holds_inside : {C V : Type 0} (R : Rules C V) (v : Answers V) (sc : Scope C) (s : ℕ) (w : Want C) → Holds R v sc
    → Meets R w (v s) → Holds R v (inside R sc s w)
holds_inside {C} R v sc s w h p = record {
  wants = λ x u e. elim (passed_inside x s w u (sc.passed x) e) [
    | inl f ↦ subst (λ (y : Want C). Meets R y (v x)) (f.1) (subst (λ (y : ℕ). Meets R w (v y)) (sym (f.0)) p)
    | inr g ↦ h.wants x u g
  ];
  same = h.same;
  there = h.there;
}

pub carries_inside : {C V : Type 0} (R : Rules C V) (left less : List ℕ) (sc : Scope C) (s : ℕ) (w : Want C) → Carries R left sc
    → ((i : ℕ) → Elem i less → Elem i left × (R.at i s ≡ Some w)) → Carries R less (inside R sc s w)
carries_inside R left less sc s w c f = λ i x u m e.
    let both = f i m in
    elim (passed_inside x s w u (sc.passed x) e) [
      | inl g ↦ ap (R.at i) (g.0) ∙ both.1 ∙ ap Some (g.1)
      | inr g ↦ c i x u (both.0) g
    ]

pub wanting_is : {C V : Type 0} (R : Rules C V) (left : List ℕ) (s : ℕ) (c : C) → SameIs R.tests → (i : ℕ)
    → Elem i (wanting R s c left) → Elem i left × (R.at i s ≡ Some (has c))
wanting_is R left s c k i m = let f = from_filter _ left i m in (f.0, is_want_is R.tests (has c) _ k (f.1))

pub wanting_has : {C V : Type 0} (R : Rules C V) (left : List ℕ) (s : ℕ) (c : C) → IsWellMade R → (i : ℕ)
    → Elem i (wanting R s c left) → Elem i left × (R.at i s ≡ Some (has c))
wanting_has R left s c w = wanting_is R left s c w.exact.same

-- after a join, a site is labelled as before, or stood with the one and now with the other
pub label_cases : (l m n : ℕ) → ((l ≡ m) × ((if l == m then n else l) ≡ n)) ⊎ ((l ≢ m) × ((if l == m then n else l) ≡ l))
label_cases l m n = elim (true_or (l == m)) [
  | inl y ↦ inl (eqb-true l m y, rw y refl)
  | inr f ↦ inr (eqb-false l m f, rw f refl)
]

same_join : {C V : Type 0} (R : Rules C V) (v : Answers V) (sc : Scope C) (a b : ℕ) → Holds R v sc → v a ≡ v b
    → (x y : ℕ) → (join sc a b).label x ≡ (join sc a b).label y → v x ≡ v y
same_join R v sc a b h e x y l = elim (label_cases (sc.label x) (sc.label a) (sc.label b)) [
  | inl p ↦ elim (label_cases (sc.label y) (sc.label a) (sc.label b)) [
    | inl q ↦ h.same x a (p.0) ∙ sym (h.same y a (q.0))
    | inr q ↦ h.same x a (p.0) ∙ e ∙ h.same b y (sym (p.1) ∙ l ∙ q.1)
  ]
  | inr p ↦ elim (label_cases (sc.label y) (sc.label a) (sc.label b)) [
    | inl q ↦ h.same x b (sym (p.1) ∙ l ∙ q.1) ∙ sym e ∙ h.same a y (sym (q.0))
    | inr q ↦ h.same x y (sym (p.1) ∙ l ∙ q.1)
  ]
]

there_join : {C V : Type 0} (R : Rules C V) (v : Answers V) (sc : Scope C) (a b : ℕ) → Holds R v sc → v a ≡ v b → HasValue (v a)
    → (x y : ℕ) → (join sc a b).label x ≡ (join sc a b).label y → x ≢ y → HasValue (v x)
there_join R v sc a b h e given x y l n = elim (label_cases (sc.label x) (sc.label a) (sc.label b)) [
  | inl p ↦ subst HasValue (sym (h.same x a (p.0))) given
  | inr p ↦ elim (label_cases (sc.label y) (sc.label a) (sc.label b)) [
    | inl q ↦ subst HasValue (sym (h.same x b (sym (p.1) ∙ l ∙ q.1) ∙ sym e)) given
    | inr q ↦ h.there x y (sym (p.1) ∙ l ∙ q.1) n
  ]
]

pub holds_join : {C V : Type 0} (R : Rules C V) (v : Answers V) (sc : Scope C) (a b : ℕ) → Holds R v sc → v a ≡ v b
    → HasValue (v a) → Holds R v (join sc a b)
holds_join R v sc a b h e given = record { wants = h.wants; same = same_join R v sc a b h e; there = there_join R v sc a b h e given }

-- what an available site is made of is available, and its test passed
pub available_parts : {C V : Type 0} (R : Rules C V) (sc : Scope C) (s : ℕ) → IsAvailable R sc s
    → ((p : ℕ) → Elem p (R.parts s) → IsAvailable R sc p) × ((m : Source C) → R.made s ≡ Some m → sc.passed m.site ≡ Some m.want)
available_parts R sc _ (IsAvailable.from_parts s parts tested) = (parts, tested)

-- a part of an available site is available, and of an asked one asked
part_there : {C V : Type 0} (R : Rules C V) (sc : Scope C) (i : ℕ) (sites : List ℕ) (x : ℕ)
    → ((s : ℕ) → Elem s sites → IsAvailable R sc s × Asked R i s)
    → IsPartOf R sites x → IsAvailable R sc x × Asked R i x
part_there R sc i sites _ f (IsPartOf.itself s m) = f s m
part_there R sc i sites _ f (IsPartOf.of_part s p h m) =
    let one = part_there R sc i sites s f h in
    ((available_parts R sc s (one.0)).0 p m, Asked.by_part s p (one.1) m)

-- a rule that has a test asks its sites
pub asks : {C V : Type 0} (R : Rules C V) (i : ℕ) (t : Test) → JoinsBothWays R → has_test R i t ≡ true → (s : ℕ) → Elem s (sites_of t) → Asked R i s
asks R i (on_match s) w h x (inl e) = let k = test_of _ h in subst (Asked R i) (sym e) (Asked.by_demand s (has (k.0)) (k.1))
asks R i (on_match s) w h x (inr m) = absurd m
asks R i (on_loop s) w h x (inl e) = subst (Asked R i) (sym e) (Asked.by_demand s one_value (one_of _ h))
asks R i (on_loop s) w h x (inr m) = absurd m
asks R i (on_equal a b) w h x (inl e) = subst (Asked R i) (sym e) (Asked.by_class a b h)
asks R i (on_equal a b) w h x (inr (inl e)) = subst (Asked R i) (sym e) (Asked.by_class b a (w i a b h))
asks R i (on_equal a b) w h x (inr (inr m)) = absurd m

-- a ready test's sites are available
available_sites : {C V : Type 0} (R : Rules C V) (sc : Scope C) (t : Test) → IsReady R sc t → (s : ℕ) → Elem s (sites_of t) → IsAvailable R sc s
available_sites R sc (on_match s) r x (inl e) = subst (IsAvailable R sc) (sym e) (r.0)
available_sites R sc (on_match s) r x (inr m) = absurd m
available_sites R sc (on_loop s) r x (inl e) = subst (IsAvailable R sc) (sym e) (r.0)
available_sites R sc (on_loop s) r x (inr m) = absurd m
available_sites R sc (on_equal a b) r x (inl e) = subst (IsAvailable R sc) (sym e) (r.1)
available_sites R sc (on_equal a b) r x (inr (inl e)) = subst (IsAvailable R sc) (sym e) (r.2)
available_sites R sc (on_equal a b) r x (inr (inr m)) = absurd m

pub some_counted : {C V : Type 0} (R : Rules C V) (left : List ℕ) (sc : Scope C) (t : Test) → IsBest R left sc t
    → (i : ℕ) × Elem i left × (has_test R i t ≡ true)
some_counted R left sc t best =
    let one = some_elem (counted R t left) best.useful in
    let its = counted_has R t left (one.0) (one.1) in
    (one.0, its.0, its.1)

-- what comes before a step's test is available, and a rule left asks it
pub step_there : {C V : Type 0} (R : Rules C V) (left : List ℕ) (sc from after : Scope C) (t : Test) (binds : List ℕ)
    → JoinsBothWays R → IsBest R left sc t
    → (bs : Binds R from (sites_of t) binds after) → (x : ℕ) → Elem x bs.all → IsAvailable R sc x × ((i : ℕ) × Elem i left × Asked R i x)
step_there R left sc from after t binds w best bs x m =
    let its = some_counted R left sc t best in
    let both = part_there R sc (its.0) (sites_of t) x (λ s n. (available_sites R sc t best.ready s n, asks R (its.0) t w (its.2) s n))
    (bs.only x m) in
    (both.0, (its.0, its.1, both.1))

-- what binding leaves bound
pub emitted_or : {C : Type 0} (sc : Scope C) (xs : List ℕ) (x : ℕ) → (emit_all sc xs).emitted x ≡ true → Elem x xs ⊎ (sc.emitted x ≡ true)
emitted_or sc [] x e = inr e
emitted_or sc (y ∷ ys) x e = elim (emitted_or (emit sc y) ys x e) [
  | inl m ↦ inl (inr m)
  | inr f ↦ elim (true_or (x == y)) [ inl p ↦ inl (inl (eqb-true x y p)) | inr n ↦ inr (rw n at f) ]
]

pub still_emitted : {C : Type 0} (sc : Scope C) (xs : List ℕ) (x : ℕ) → sc.emitted x ≡ true → (emit_all sc xs).emitted x ≡ true
still_emitted sc [] x e = e
still_emitted sc (y ∷ ys) x e = still_emitted (emit sc y) ys x (or_right (x == y) (sc.emitted x) e)

pub passed_bound : {C : Type 0} (sc : Scope C) (xs : List ℕ) (s : ℕ) → (emit_all sc xs).passed s ≡ sc.passed s
passed_bound sc [] s = refl
passed_bound sc (x ∷ xs) s = passed_bound (emit sc x) xs s

pub label_bound : {C : Type 0} (sc : Scope C) (xs : List ℕ) (s : ℕ) → (emit_all sc xs).label s ≡ sc.label s
label_bound sc [] s = refl
label_bound sc (x ∷ xs) s = label_bound (emit sc x) xs s
