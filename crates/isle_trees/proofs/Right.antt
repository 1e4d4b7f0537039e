-- A walk of a tree that the rules build chooses the matching rule of greatest priority, under what a run knows and all that extends it.
use Rattle.std.proofs.Common.{◌≡◌, ◌≢◌, ◌⊎◌, inl, inr, ℕ, ℤ, ◌+◌, ◌<◌, ◌≤◌, ◌≤ℤ◌, ◌<ℤ◌, not, List, [], ◌∷◌, true, false, Some, refl, sym, ◌∙◌, ap, subst, arith}
use Rattle.std.proofs.lemmas.Int.{ints}
use Rattle.std.specs.Prelude.{if◌then◌else◌}
use Rattle.isle_trees.specs.Got.{unknown}
use Rattle.isle_trees.specs.Answers.{Answers, HasValue, Extends, Agree}
use Rattle.isle_trees.specs.Builds.{IsBest, HasNoTest, IsOrder, Binds, BindsEach, IsFirst, wanting, not_wanting, Builds, BuildsArms}
use Rattle.isle_trees.specs.Choice.{IsOpen, IsAskedBy, LeavesOffIn, LeavesOff, ReturnsInOrder, IsEnd, IsSure, IsKept, AreKept}
use Rattle.isle_trees.specs.Counting.{after, if_bound, reached, reached_arms}
use Rattle.isle_trees.specs.Premises.{IsWellMade, IsSingle, UsesNoMulti, Respects, IsStrict}
use Rattle.isle_trees.specs.Rules.{has, Rules, rights, Elem, Asked, passes_got, alike_got, Meets, Matches}
use Rattle.isle_trees.specs.Scopes.{Scope, join, emit, emit_all, is_want, is_source, inside, Test, on_match, on_equal, on_loop, sites_of, counted, others}
use Rattle.isle_trees.specs.Tree.{Steps, done, «match», equal, loop, give, Arms, no_arm, arm}
use Rattle.isle_trees.specs.Walk.{Bound, goes, opens, breaks, Outcome, chooses, ends, waits, stops, bind, events, and_then, after_bound, walk, walk_arms}
use Rattle.isle_trees.proofs.Basics.{true_or, or_holds, or_right, clash, from_filter, to_filter, given_known, met_value, same_test, alike_sound, alike_full, is_want_sound, is_want_full, source_made, test_of, one_of, counted_has, counted_left, others_left, counted_or, counted_above}
use Rattle.isle_trees.proofs.Leaf.{bind_kept, AllValued, step_ends, Ends, OnlySeen, leaf}
use Rattle.isle_trees.proofs.Path.{Holds, holds_bound, carries_bound, fewer_carry, holds_inside, carries_inside, wanting_has, holds_join, some_counted, step_there, emitted_or, still_emitted}
use Rattle.isle_trees.proofs.Progress.{Carries, IsKnown, IsLast, first_known}

-- what a run knows, and other answers, which have it of what the rules' tests ask, and agree with it elsewhere
pub record IsRun {C V : Type 0} (R : Rules C V) (r v : Answers V) : Type 0 where
  pub made : IsWellMade R
  pub single : IsSingle R
  pub respects : Respects R r
  pub strict : IsStrict R v
  pub asked : (i s : ℕ) → Asked R i s → r s ≢ unknown → v s ≡ r s
  pub agree : Agree r v

-- what a walk keeps: what the path knows is true, what is bound has values and is no impure call
pub record IsOn {C V : Type 0} (R : Rules C V) (r : Answers V) (left : List ℕ) (sc : Scope C) : Type 0 where
  pub carries : Carries R left sc
  pub holds : Holds R r sc
  pub valued : AllValued r sc
  pub calm : OnlySeen R sc []
  pub closed : (x p : ℕ) → sc.emitted x ≡ true → Elem p (R.parts x) → sc.emitted p ≡ true
  pub no_multi : UsesNoMulti R left

-- what an order binds has its parts bound
order_parts : {C V : Type 0} (R : Rules C V) (sc : Scope C) (xs : List ℕ) (x p : ℕ) → IsOrder R sc xs → Elem x xs
    → Elem p (R.parts x) → (emit_all sc xs).emitted p ≡ true
order_parts R sc [] x p o m n = absurd m
order_parts R sc (y ∷ ys) x p o (inl e) n = still_emitted sc (y ∷ ys) p (o.1 p (subst (λ (z : ℕ). Elem p (R.parts z)) e n))
order_parts R sc (y ∷ ys) x p o (inr m) n = order_parts R (emit sc y) ys x p (o.2) m n

on_fewer : {C V : Type 0} (R : Rules C V) (r : Answers V) (left less : List ℕ) (sc : Scope C) → ((i : ℕ) → Elem i less → Elem i left)
    → IsOn R r left sc → IsOn R r less sc
on_fewer R r left less sc f o = record {
  carries = fewer_carry R left less sc f o.carries;
  holds = o.holds;
  valued = o.valued;
  calm = o.calm;
  closed = o.closed;
  no_multi = λ i s m. o.no_multi i s (f i m);
}

on_bound : {C V : Type 0} (R : Rules C V) (r v : Answers V) (left : List ℕ) (sc after : Scope C) (t : Test) (binds : List ℕ)
    → IsRun R r v → IsOn R r left sc
    → IsBest R left sc t → Binds R sc (sites_of t) binds after → AllValued r after → IsOn R r left after
on_bound {C} R r v left sc after t binds u o best bs valued = record {
  carries = subst (λ (c : Scope C). Carries R left c) (sym bs.ending) (carries_bound R left sc bs.all o.carries);
  holds = subst (λ (c : Scope C). Holds R r c) (sym bs.ending) (holds_bound R r sc bs.all o.holds);
  valued = valued;
  calm = λ x f e. elim (emitted_or sc bs.all x (subst (λ (c : Scope C). c.emitted x ≡ true) bs.ending e)) [
    | inl m ↦ let p = step_there R left sc sc after t binds u.made.both best bs x m in absurd (clash (R.effect x) f (u.single.pure (p.1.0) x (p.1.2)))
    | inr g ↦ o.calm x f g
  ];
  closed = λ x p e m. subst (λ (c : Scope C). c.emitted p ≡ true) (sym bs.ending)
      (elim (emitted_or sc bs.all x (subst (λ (c : Scope C). c.emitted x ≡ true) bs.ending e)) [
        | inl n ↦ order_parts R sc bs.all x p bs.order n m
        | inr g ↦ still_emitted sc bs.all p (o.closed x p g m)
      ]);
  no_multi = o.no_multi;
}

on_inside : {C V : Type 0} (R : Rules C V) (r v : Answers V) (left : List ℕ) (sc : Scope C) (s : ℕ) (c : C)
    → IsRun R r v → sc.emitted s ≡ true → passes_got R c (r s) ≡ true → IsOn R r left sc
    → IsOn R r (wanting R s c left) (inside R sc s (has c))
on_inside R r v left sc s c u there p o = record {
  carries = carries_inside R left _ sc s (has c) o.carries (wanting_has R left s c u.made);
  holds = holds_inside R r sc s (has c) o.holds p;
  valued = λ x e. elim (or_holds (is_source R.tests s (has c) (R.made x)) (sc.emitted x) e) [
    | inl f ↦ u.respects.field x _ (source_made R s (has c) _ u.made f) p
    | inr f ↦ o.valued x f
  ];
  calm = λ x g e. elim (or_holds (is_source R.tests s (has c) (R.made x)) (sc.emitted x) e) [
    | inl f ↦ absurd (clash (R.effect x) g (u.made.field_pure x _ (source_made R s (has c) _ u.made f)))
    | inr f ↦ o.calm x g f
  ];
  closed = λ x q e m. or_right (is_source R.tests s (has c) (R.made q)) (sc.emitted q)
      (elim (or_holds (is_source R.tests s (has c) (R.made x)) (sc.emitted x) e) [
        | inl f ↦ let n : Elem q (s ∷ []) = subst (λ (l : List ℕ). Elem q l) (u.made.source x _ (source_made R s (has c) _ u.made f)) m in
            elim n [ inl k ↦ ap sc.emitted k ∙ there | inr b ↦ absurd b ]
        | inr f ↦ o.closed x q f m
      ]);
  no_multi = λ i t m. o.no_multi i t ((from_filter _ left i m).0);
}

on_join : {C V : Type 0} (R : Rules C V) (r : Answers V) (left : List ℕ) (sc : Scope C) (a b : ℕ) → r a ≡ r b
    → HasValue (r a) → IsOn R r left sc → IsOn R r left (join sc a b)
on_join R r left sc a b e g o = record {
  carries = o.carries;
  holds = holds_join R r sc a b o.holds e g;
  valued =
      o.valued;
  calm = o.calm;
  closed = o.closed;
  no_multi = o.no_multi;
}

-- what an outcome under what a run knows says
abbrev pub Finds : {C V : Type 0} → Rules C V → (r v : Answers V) → List ℕ → Outcome → Type 0
Finds R r v left o = LeavesOff R r left o × ReturnsInOrder R r o × IsSure R v left o

-- the outcome and the steps under answers that know more
abbrev pub Stays : {V : Type 0} → (r v : Answers V) → (o p : Outcome) → (m n : ℕ) → Type 0
Stays r v o p m n = Extends r v → IsKept v o p × AreKept v o m n

abbrev pub Says : {C V : Type 0} → Rules C V → (r v : Answers V) → List ℕ → (o p : Outcome) → (m n : ℕ) → Type 0
Says R r v left o p m n = Finds R r v left o × Stays r v o p m n

-- where it leaves off, more rules may be left
more_off : {C V : Type 0} (R : Rules C V) (r : Answers V) (less left : List ℕ) (o : Outcome) → ((i : ℕ) → Elem i less → Elem i left)
    → LeavesOff R r less o → LeavesOff R r left o
more_off R r less left (chooses i b e) f (m, w, h) = (f i m, w, h)
more_off R r less left ends f h = h
more_off R r less left (waits s) f ((i, m, a), h) = ((i, f i m, a), h)
more_off R r less left stops f h = h

-- the rules among which the outcome is known may be more, where none of the others matches
more_sure : {C V : Type 0} (R : Rules C V) (v : Answers V) (less left : List ℕ) (o : Outcome) → ((i : ℕ) → Elem i less → Elem i left)
    → ((j : ℕ) → Elem j left → Matches R v j → Elem j less) → IsSure R v less o → IsSure R v left o
more_sure R v less left (chooses i b e) f g (h, w, top, end) = (f i h, w, (λ j q x. top j (g j q x) x), end)
more_sure R v less left ends f g h = λ j q x. h j (g j q x) x
more_sure R v less left (waits s) f g h = h
more_sure R v less left stops f g h = h

more_says : {C V : Type 0} (R : Rules C V) (r v : Answers V) (less left : List ℕ) (o p : Outcome) (m n : ℕ) → ((i : ℕ) → Elem i less → Elem i left)
    → ((j : ℕ) → Elem j left → Matches R v j → Elem j less) → Says R r v less o p m n → Says R r v left o p m n
more_says R r v less left o p m n f g ((h, b, k), x) = ((more_off R r less left o f h, b, more_sure R v less left o f g k), x)

-- two parts of the rules, the first above the second
both_find : {C V : Type 0} (R : Rules C V) (r v : Answers V) (t : Test) (left : List ℕ) (o q : Outcome) → Finds R r v (counted R t left) o
    → Finds R r v (others R t left) q
    → Finds R r v left (and_then o q)
both_find R r v t left (chooses i b e) q (op, in_order, (h, w, top, end)) x = (
  more_off R r (counted R t left) left (chooses i b e) (counted_left R t left) op,
  in_order,
  (counted_left R t left i h, w, (λ j d wj. elim (counted_or R t left j d) [ inl y ↦ top j y wj | inr y ↦ counted_above R t left i j h y ]), end),
)
both_find R r v t left ends q (op, b, h) (off, in_order, x) = (more_off R r (others R t left) left q (others_left R t left) off, in_order, later q x)
  where
    later : (q : Outcome) → IsSure R v (others R t left) q → IsSure R v left q
    later (chooses i b e) (d, w, top, end) = (
      others_left R t left i d,
      w,
      (λ j a wj. elim (counted_or R t left j a) [ inl y ↦ absurd (h j y wj) | inr y ↦ top j y wj ]),
      end,
    )
    later ends g = λ j a wj. elim (counted_or R t left j a) [ inl y ↦ h j y wj | inr y ↦ g j y wj ]
    later (waits d) g = g
    later stops g = g
both_find R r v t left (waits d) q (op, b, h) x = (more_off R r (counted R t left) left (waits d) (counted_left R t left) op, b, h)
both_find R r v t left stops q (op, b, h) x = absurd h

more_steps : {V : Type 0} (v : Answers V) (o : Outcome) (k m n : ℕ) → AreKept v o m n → AreKept v o (k + m) (k + n)
more_steps v (chooses i b e) k m n h = ap (λ (y : ℕ). k + y) h
more_steps v ends k m n h = ap (λ (y : ℕ). k + y) h
more_steps v (waits s) k m n h = λ u. ap (λ (y : ℕ). k + y) (h u)
more_steps v stops k m n h = ap (λ (y : ℕ). k + y) h

both_stay : {V : Type 0} (r v : Answers V) (o p q s : Outcome) (k l m n : ℕ) → Stays r v o p k l → Stays r v q s m n
    → Stays r v (and_then o q) (and_then p s) (k + after o m) (l + after p n)
both_stay r v (chooses i b e) p q s k l m n f g = λ ext. let ((c, more, is, same), steps) = f ext in
    ((c, more, ap (λ (y : Outcome). and_then y s) is, same), rw (is, steps) refl)
both_stay r v ends p q s k l m n f g = λ ext. let (is, steps) = f ext in rw (is, steps) (let (x, y) = g ext in (x, more_steps v q k m n y))
both_stay r v (waits d) p q s k l m n f g = λ ext. let (is, steps) = f ext in
    ((λ u. ap (λ (y : Outcome). and_then y s) (is u)), λ u. rw (is u, steps u) refl)
both_stay r v stops p q s k l m n f g = λ ext. let (is, steps) = f ext in (ap (λ (y : Outcome). and_then y s) is, rw (is, steps) refl)

both_say : {C V : Type 0} (R : Rules C V) (r v : Answers V) (t : Test) (left : List ℕ) (o p q s : Outcome) (k l m n : ℕ)
    → Says R r v (counted R t left) o p k l
    → Says R r v (others R t left) q s m n → Says R r v left (and_then o q) (and_then p s) (k + after o m) (l + after p n)
both_say R r v t left o p q s k l m n (f, g) (x, y) = (both_find R r v t left o q f x, both_stay r v o p q s k l m n g y)

-- where the test of an equality fails, no rule that has it matches
pub unequal : {C V : Type 0} (R : Rules C V) (v : Answers V) (a b i : ℕ) → IsWellMade R → a < b → R.joins i a b ≡ true
    → alike_got R (v a) (v b) ≡ false → Matches R v i → ⊥
unequal R v a b i w l j e m =
    let eq = m.equals a b j (λ p. omega arith) in
    clash (alike_got R (v a) (v b)) (alike_full R (v a) (v b) w (eq.0) (eq.1)) e

at_most : (m n : ℤ) (i j : ℕ) → (m <ℤ n) ⊎ ((m ≡ n) × (i ≤ j)) → m ≤ℤ n
at_most m n i j (inl l) = omega (arith, ints)
at_most m n i j (inr p) = let e : m ≡ n = p.0 in omega (arith, ints)

pub first_last : {C V : Type 0} (R : Rules C V) (left : List ℕ) (sc : Scope C) (i : ℕ) → Carries R left sc
    → HasNoTest R left sc → IsFirst R left i → IsLast R left sc i
first_last R left sc i c none f = record { carries = c; none = none; there = f.0; top = λ j m. at_most _ _ _ _ (f.1 j m) }

-- what a rule's tests ask and a run knows is so under the other answers
asked_value : {C V : Type 0} (R : Rules C V) (r v : Answers V) (i s : ℕ) → IsRun R r v → Asked R i s → HasValue (r s) → v s ≡ r s
asked_value R r v i s u a g = u.asked i s a (given_known _ g)

pub known_matches : {C V : Type 0} (R : Rules C V) (r : Answers V) (sc : Scope C) (i : ℕ) → Holds R r sc → IsKnown R sc i → Matches R r i
known_matches R r sc i h k = record {
  wants = λ s w e. h.wants s w (k.wants s w e);
  equals = λ a b j n. let l = k.equals a b j n in (h.there a b l n, h.same a b l);
}

matches_more : {C V : Type 0} (R : Rules C V) (r v : Answers V) (i : ℕ) → IsRun R r v → Matches R r i → Matches R v i
matches_more R r v i u m = record {
  wants = λ s w e. let k = m.wants s w e in subst (Meets R w) (sym (asked_value R r v i s u (Asked.by_demand s w e) (met_value R w _ k))) k;
  equals = λ a b j n.
      let k = m.equals a b j n in
      let ea : v a ≡ r a = asked_value R r v i a u (Asked.by_class a b j) (k.0) in
      let eb : v b ≡ r b = asked_value R r v i b u (Asked.by_class b a (u.made.both i a b j)) (subst HasValue (k.1) (k.0)) in
      (subst HasValue (sym ea) (k.0), ea ∙ k.1 ∙ sym eb);
}

-- how the first return ends
end_finds : {C V : Type 0} (R : Rules C V) (r v : Answers V) (i : ℕ) (b : Bound) (e : List ℕ) → Ends R r v (R.calls i) (R.result i) b e
    → LeavesOffIn R r i b e × IsEnd R v i b e
end_finds R r v i (opens s) e h = (h, tt)
end_finds R r v i goes e h = h
end_finds R r v i breaks e h = h

-- the first return
first_says : {C V : Type 0} (R : Rules C V) (r v : Answers V) (left : List ℕ) (sc after : Scope C) (i : ℕ) (binds : List ℕ)
    → IsRun R r v → IsOn R r left sc
    → HasNoTest R left sc → IsFirst R left i → BindsEach R sc (rights R i) binds after
    → Says R r v left (chooses i (bind r binds) (events R r binds)) (chooses i (bind v binds) (events R v binds)) 1 1
first_says R r v left sc after i binds u o none f b =
    let last = first_last R left sc i o.carries none f in
    let w = known_matches R r sc i o.holds (first_known R left sc i u.made u.single.tested last) in
    let end = end_finds R r v i (bind r binds) (events R r binds)
    (leaf (R.calls i) R r v (R.result i) sc [] binds after u.made u.respects u.agree u.strict o.valued o.calm
    (λ x m. absurd m) (u.single.first i) b) in (
      (
        (f.0, w, end.0),
        record {
          before = sc;
          after = after;
          binds = binds;
          order = b;
          valued = o.valued;
          closed = o.closed;
          calm = λ x e. elim (true_or (R.effect x)) [ inl y ↦ absurd (o.calm x y e) | inr n ↦ n ];
          bound = refl;
          calls = refl;
        },
        (f.0, matches_more R r v i u w, (λ j m _. last.top j m), end.1),
      ),
      λ ext. let k = bind_kept binds R r v ext in ((bind v binds, k.0, ap (chooses i (bind v binds)) (k.1), k.2), refl),
    )

-- each rule wants a test of the site
abbrev pub AllWant : {C V : Type 0} → Rules C V → List ℕ → ℕ → Type 0
AllWant {C} R left s = (i : ℕ) → Elem i left → (c : C) × (R.at i s ≡ Some (has c))

pub match_wants : {C V : Type 0} (R : Rules C V) (left : List ℕ) (s : ℕ) → AllWant R (counted R (on_match s) left) s
match_wants R left s i m = test_of _ ((counted_has R (on_match s) left i m).1)

-- a rule that wants another test doesn't match, nor one that wants this one where it fails
pub wants_this : {C V : Type 0} (R : Rules C V) (v : Answers V) (left : List ℕ) (s : ℕ) (c : C) → IsWellMade R
    → AllWant R left s → ((i : ℕ) × Elem i left × (R.at i s ≡ Some (has c)))
    → passes_got R c (v s) ≡ true → (j : ℕ) → Elem j left → Matches R v j → Elem j (wanting R s c left)
wants_this {C} R v left s c w want (i, mi, at_i) p j m k =
    let d = want j m in
    let same : d.0 ≡ c = same_test R (v s) j i s (d.0) c w (d.1) at_i (k.wants s (has (d.0)) (d.1)) p in
    to_filter _ left j m (is_want_full R (has c) _ w (d.1 ∙ ap (λ (x : C). Some (has x)) same))

wants_other : {C V : Type 0} (R : Rules C V) (v : Answers V) (left : List ℕ) (s : ℕ) (c : C) → IsWellMade R → passes_got R c (v s) ≡ false
    → (j : ℕ) → Elem j left → Matches R v j → Elem j (not_wanting R s c left)
wants_other R v left s c w p j m k = to_filter _ left j m (elim (true_or (is_want R.tests (has c) (R.at j s))) [
  | inl y ↦ clash (passes_got R c (v s)) (k.wants s (has c) (is_want_sound R (has c) _ w y)) p
  | inr n ↦ ap not n
])

no_loop : {C V : Type 0} (R : Rules C V) (r : Answers V) (left : List ℕ) (sc : Scope C) (s : ℕ) → IsOn R r left sc → IsBest R left sc (on_loop s) → ⊥
no_loop R r left sc s o best = let one = some_counted R left sc (on_loop s) best in o.no_multi (one.0) s (one.1) (one_of _ (one.2))

-- a step that opens
step_opens : {C V : Type 0} (R : Rules C V) (r v : Answers V) (left binds : List ℕ) (s : ℕ) → bind r binds ≡ opens s
    → IsAskedBy R left s → IsOpen R r s
    → (o p : Outcome) (m n : ℕ) → Says R r v left (after_bound (bind r binds) o) (after_bound (bind v binds) p)
    (1 + if_bound (bind r binds) m) (1 + if_bound (bind v binds) n)
step_opens R r v left binds s e a op o p m n =
    let same : Extends r v → v s ≡ unknown → bind v binds ≡ opens s = λ ext k. ((bind_kept binds R r v ext).2 (rw e k)).0 ∙ e in
    rw e (((a, op), tt, tt), λ ext. ((λ k. rw (same ext k) refl), λ k. rw (same ext k) refl))

-- and one that goes on
step_goes : {C V : Type 0} (R : Rules C V) (r v : Answers V) (left binds : List ℕ) → bind r binds ≡ goes → (o p : Outcome) (m n : ℕ)
    → Says R r v left o p m n
    → Says R r v left (after_bound (bind r binds) o) (after_bound (bind v binds) p) (1 + if_bound (bind r binds) m) (1 + if_bound (bind v binds) n)
step_goes R r v left binds e o p m n (h, k) = (
  rw e h,
  λ ext.
      let same : bind v binds ≡ goes = ((bind_kept binds R r v ext).2 (rw e tt)).0 ∙ e in
      let both = k ext in rw (e, same) (both.0, more_steps v o 1 m n (both.1)),
)

mutual
  pub says : {C V : Type 0} (t : Steps C) (R : Rules C V) (r v : Answers V) (left : List ℕ) (sc : Scope C)
      → IsRun R r v → IsOn R r left sc → Builds R left sc t
      → Says R r v left (walk R r t) (walk R v t) (reached R r t) (reached R v t)
  says done R r v left sc u o b = ((tt, tt, (λ j m _. rw b at m)), λ ext. (refl, refl))
  says (give binds i next) R r v left sc u o b = first_says R r v left sc (b.1.1.0) i binds u o (b.0) (b.1.0) (b.1.1.1)
  says (loop binds x body next) R r v left sc u o (s, made, best, rest) = absurd (no_loop R r left sc s o best)
  says («match» binds s arms next) R r v left sc u o (best, (after, bs, inner, rest)) =
      elim (step_ends R r left sc sc after (on_match s) binds u.made u.respects o.holds o.valued best bs) [
        | inr n ↦ step_opens R r v left binds (n.0) (n.1) (n.2) (n.3) _ _ _ _
        | inl g ↦
            let on = on_bound R r v left sc after (on_match s) binds u o best bs (g.1) in
            step_goes R r v left binds (g.0) _ _ _ _ (both_say R r v (on_match s) left _ _ _ _ _ _ _ _
            (arms_say arms R r v (counted R (on_match s) left) after s u (on_fewer R r left _ after (counted_left R (on_match s) left) on)
            (bs.bound s (inl refl)) (match_wants R left s) inner)
            (says next R r v (others R (on_match s) left) after u (on_fewer R r left _ after (others_left R (on_match s) left) on) rest))
      ]
  says (equal binds a b body next) R r v left sc u o (best, (after, bs, inner, rest)) =
      elim (step_ends R r left sc sc after (on_equal a b) binds u.made u.respects o.holds o.valued best bs) [
        | inr n ↦ step_opens R r v left binds (n.0) (n.1) (n.2) (n.3) _ _ _ _
        | inl g ↦
            let on = on_bound R r v left sc after (on_equal a b) binds u o best bs (g.1) in
            let its = some_counted R left sc (on_equal a b) best in
            let ga : HasValue (r a) = g.1 a (bs.bound a (inl refl)) in
            let ea : v a ≡ r a = asked_value R r v (its.0) a u (Asked.by_class a b (its.2)) ga in
            let eb : v b ≡ r b = asked_value R r v (its.0) b u (Asked.by_class b a (u.made.both (its.0) a b (its.2)))
            (g.1 b (bs.bound b (inr (inl refl)))) in
            let one : Says R r v (counted R (on_equal a b) left) (if alike_got R (r a) (r b) then walk R r body else ends)
            (if alike_got R (v a) (v b) then walk R v body else ends)
            (if alike_got R (r a) (r b) then reached R r body else 0) (if alike_got R (v a) (v b) then reached R v body else 0) =
            elim (true_or (alike_got R (r a) (r b))) [
              | inl y ↦ rw (ea, eb, y) (
                  says body R r v (counted R (on_equal a b) left) (join after a b) u
                  (on_join R r (counted R (on_equal a b) left) after a b (alike_sound R (r a) (r b) u.made y) ga
                  (on_fewer R r left _ after (counted_left R (on_equal a b) left) on)) inner)
              | inr n ↦ rw (ea, eb, n) (
                (tt, tt, (λ j m mj. unequal R v a b j u.made (best.ready.0) ((counted_has R (on_equal a b) left j m).1) (rw (ea, eb) n) mj)),
                λ ext. (refl, refl),
              )
            ] in
            step_goes R r v left binds (g.0) _ _ _ _ (both_say R r v (on_equal a b) left _ _ _ _ _ _ _ _ one
            (says next R r v (others R (on_equal a b) left) after u (on_fewer R r left _ after (others_left R (on_equal a b) left) on) rest))
      ]

  pub arms_say : {C V : Type 0} (arms : Arms C) (R : Rules C V) (r v : Answers V) (left : List ℕ) (sc : Scope C) (s : ℕ)
      → IsRun R r v → IsOn R r left sc → sc.emitted s ≡ true
      → AllWant R left s → BuildsArms R left sc s arms → Says R r v left (walk_arms R r s arms) (walk_arms R v s arms)
      (reached_arms R r s arms) (reached_arms R v s arms)
  arms_say no_arm R r v left sc s u o there want b = ((tt, tt, (λ j m _. rw b at m)), λ ext. (refl, refl))
  arms_say (arm c bindings body more) R r v left sc s u o there want b =
      let e : v s ≡ r s = asked_value R r v (b.0.0.0) s u (Asked.by_demand s (has c) (b.0.0.2)) (o.valued s there) in
      elim (true_or (passes_got R c (r s))) [
        | inl y ↦ rw (e, y) (more_says R r v (wanting R s c left) left (walk R r body) (walk R v body) (reached R r body)
            (reached R v body) (λ i m. (from_filter _ left i m).0)
            (wants_this R v left s c u.made want (b.0.0) (rw e y))
            (says body R r v (wanting R s c left) (inside R sc s (has c)) u (on_inside R r v left sc s c u there y o) (b.2)))
        | inr n ↦ rw (e, n) (more_says R r v (not_wanting R s c left) left (walk_arms R r s more) (walk_arms R v s more)
            (reached_arms R r s more) (reached_arms R v s more)
            (λ i m. (from_filter _ left i m).0)
            (wants_other R v left s c u.made (rw e n))
            (arms_say more R r v (not_wanting R s c left) sc s u (on_fewer R r left _ sc (λ i m. (from_filter _ left i m).0) o) there
            (λ i m. want i ((from_filter _ left i m).0)) (b.3)))
      ]
