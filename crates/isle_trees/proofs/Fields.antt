-- What a test makes is bound by it alone.
use Rattle.std.proofs.Common.{◌≡◌, inl, inr, ℕ, ◌==◌, ◌++◌, List, [], ◌∷◌, true, false, Some, None, sym, ◌∙◌, ap, subst, eqb-true}
use Rattle.isle_trees.specs.Asks.{AreWhole, AreWholeOrContent, BindsNoField, ArmsBindNoField}
use Rattle.isle_trees.specs.Builds.{IsBest, HasNoTest, Binds, own, BindsEach, IsFirst, wanting, not_wanting, Builds, BuildsArms}
use Rattle.isle_trees.specs.Premises.{IsWellMade, HasItsTests}
use Rattle.isle_trees.specs.Rules.{Want, has, one_value, Source, Rules, rights, Elem}
use Rattle.isle_trees.specs.Scopes.{Scope, join, emit, emit_all, release, is_source, inside, Test, on_match, on_equal, on_loop, sites_of, counted, others}
use Rattle.isle_trees.specs.Tree.{Steps, done, «match», equal, loop, give, Arms, no_arm, arm}
use Rattle.isle_trees.proofs.Asking.{used_part, elem_append, own_is, each_part}
use Rattle.isle_trees.proofs.Basics.{true_or, none_or, or_left, or_right, or_fails, clash, from_filter, by_made, one_of, counted_has, counted_left, others_left}
use Rattle.isle_trees.proofs.Leaf.{order_new, in_all}
use Rattle.isle_trees.proofs.Path.{carries_bound, fewer_carry, carries_inside, wanting_has, available_parts, step_there, still_emitted, passed_bound}
use Rattle.isle_trees.proofs.Progress.{Carries, first_known}
use Rattle.isle_trees.proofs.Right.{first_last}

-- what passed tests make is bound
abbrev pub IsFilled : {C V : Type 0} → Rules C V → Scope C → Type 0
IsFilled {C} R sc = (x : ℕ) (m : Source C) → R.made x ≡ Some m → sc.passed m.site ≡ Some m.want → sc.emitted x ≡ true

filled_bound : {C V : Type 0} (R : Rules C V) (sc : Scope C) (xs : List ℕ) → IsFilled R sc → IsFilled R (emit_all sc xs)
filled_bound R sc xs f x m e p = still_emitted sc xs x (f x m e (sym (passed_bound sc xs m.site) ∙ p))

filled_release : {C V : Type 0} (R : Rules C V) (sc : Scope C) (s : ℕ) → R.made s ≡ None → IsFilled R sc → IsFilled R (release sc s)
filled_release R sc s none f x m e p = elim (true_or (x == s)) [
  | inl q ↦ let g : None ≡ Some m = sym none ∙ sym (ap R.made (eqb-true x s q)) ∙ e in cc
  | inr n ↦ rw n (f x m e p)
]

filled_inside : {C V : Type 0} (R : Rules C V) (sc : Scope C) (s : ℕ) (w : Want C) → IsWellMade R → IsFilled R sc → IsFilled R (inside R sc s w)
filled_inside R sc s w k f x m e p = elim (true_or (m.site == s)) [
  | inl y ↦
      let q : Some w ≡ Some m.want = rw y at p in
      let v : m.want ≡ w = cc in
      or_left (is_source R.tests s w (R.made x)) (sc.emitted x)
      (by_made R s w _ k (e ∙ ap Some (λ i. record { site = eqb-true m.site s y i; want = v i })))
  | inr n ↦ let q : sc.passed m.site ≡ Some m.want = rw n at p in or_right (is_source R.tests s w (R.made x)) (sc.emitted x) (f x m e q)
]

-- what a step binds before its test, no test makes
step_whole : {C V : Type 0} (R : Rules C V) (left : List ℕ) (sc from after : Scope C) (t : Test) (binds : List ℕ) → IsWellMade R
    → ((x : ℕ) (m : Source C) → R.made x ≡ Some m → sc.passed m.site ≡ Some m.want → from.emitted x ≡ true) → IsBest R left sc t
    → Binds R from (sites_of t) binds after → AreWhole R binds
step_whole R left sc from after t binds w f best bs x m =
    let n = in_all R from after (sites_of t) binds bs x m in
    let av = (step_there R left sc from after t binds w.both best bs x n).0 in
    elim (none_or (R.made x)) [
      | inl e ↦ e
      | inr k ↦ clash (from.emitted x) (f x (k.0) (k.1) ((available_parts R sc x av).1 (k.0) (k.1))) (order_new R from bs.all x bs.order n)
    ]

was_new : {C : Type 0} (sc : Scope C) (xs : List ℕ) (x : ℕ) → (emit_all sc xs).emitted x ≡ false → sc.emitted x ≡ false
was_new sc xs x e = elim (true_or (sc.emitted x)) [ inl y ↦ let f : (emit_all sc xs).emitted x ≡ true = still_emitted sc xs x y in cc | inr n ↦ n ]

each_new : {C V : Type 0} (us : List ℕ) (R : Rules C V) (sc : Scope C) (binds : List ℕ) (after : Scope C)
    → BindsEach R sc us binds after → (x : ℕ) → Elem x binds → sc.emitted x ≡ false
each_new [] R sc binds after (e, same) x m = absurd (subst (λ (l : List ℕ). Elem x l) e m)
each_new (u ∷ us) R sc binds after (inl (e, b)) x m = each_new us R sc binds after b x m
each_new {C = C} (u ∷ us) R sc binds after (inr (e, (front, rest, mid, bs, b, written))) x m =
    elim (elem_append x front (own R u ++ rest) (subst (λ (l : List ℕ). Elem x l) written m)) [
      | inl n ↦ order_new R sc bs.all x bs.order (in_all R sc mid (R.parts u) front bs x n)
      | inr n ↦ elim (elem_append x (own R u) rest n) [
        | inl q ↦ ap sc.emitted (own_is R u x q) ∙ e
        | inr q ↦
            let f = (or_fails (x == u) (mid.emitted x) (each_new us R (emit mid u) rest after b x q)).1 in
            was_new sc bs.all x (subst (λ (c : Scope C). c.emitted x ≡ false) bs.ending f)
      ]
    ]

return_whole : {C V : Type 0} (R : Rules C V) (left : List ℕ) (sc after : Scope C) (i : ℕ) (binds : List ℕ)
    → IsWellMade R → HasItsTests R → Carries R left sc → IsFilled R sc
    → HasNoTest R left sc → IsFirst R left i → BindsEach R sc (rights R i) binds after → AreWholeOrContent R binds
return_whole R left sc after i binds w its c f none first each x m =
    let k = first_known R left sc i w its.tested (first_last R left sc i c none first) in
    elim (none_or (R.made x)) [
      | inl e ↦ inl e
      | inr s ↦ elim (its.contents i x (s.0) (used_part R i x (each_part (rights R i) R sc binds after each x m)) (s.1)) [
        | inl d ↦ clash (sc.emitted x) (f x (s.0) (s.1) (k.wants s.0.site s.0.want d)) (each_new (rights R i) R sc binds after each x m)
        | inr content ↦ inr content
      ]
    ]

mutual
  pub no_field : {C V : Type 0} (T : Steps C) (R : Rules C V) (left : List ℕ) (sc : Scope C) → IsWellMade R
      → HasItsTests R → Carries R left sc → IsFilled R sc → Builds R left sc T → BindsNoField R T
  no_field done R left sc w its c f b = tt
  no_field (give binds i next) R left sc w its c f b = return_whole R left sc (b.1.1.0) i binds w its c f (b.0) (b.1.0) (b.1.1.1)
  no_field («match» binds s arms next) R left sc w its c f (best, (after, bs, inner, rest)) =
      let c2 : Carries R left after = subst (Carries R left) (sym bs.ending) (carries_bound R left sc bs.all c) in
      let f2 : IsFilled R after = subst (IsFilled R) (sym bs.ending) (filled_bound R sc bs.all f) in (
        step_whole R left sc sc after (on_match s) binds w f best bs,
        (
          no_field_arms arms R (counted R (on_match s) left) after s w its
              (fewer_carry R left _ after (counted_left R (on_match s) left) c2) f2 inner,
          no_field next R (others R (on_match s) left) after w its (fewer_carry R left _ after (others_left R (on_match s) left) c2) f2 rest,
        ),
      )
  no_field (equal binds a b body next) R left sc w its c f (best, (after, bs, inner, rest)) =
      let c2 : Carries R left after = subst (Carries R left) (sym bs.ending) (carries_bound R left sc bs.all c) in
      let f2 : IsFilled R after = subst (IsFilled R) (sym bs.ending) (filled_bound R sc bs.all f) in (
        step_whole R left sc sc after (on_equal a b) binds w f best bs,
        (
          no_field body R (counted R (on_equal a b) left) (join after a b) w its
              (fewer_carry R left _ after (counted_left R (on_equal a b) left) c2) f2 inner,
          no_field next R (others R (on_equal a b) left) after w its (fewer_carry R left _ after (others_left R (on_equal a b) left) c2) f2 rest,
        ),
      )
  no_field {C = C} (loop binds x body next) R left sc w its c f (s, value, best, (after, bs, inner, rest)) =
      let none = its.call_whole s x value in
      let c2 : Carries R left after = subst (λ (y : Scope C). Carries R left y) (sym bs.ending) (carries_bound R left (release sc s) bs.all c) in
      let f1 : IsFilled R (release sc s) = filled_release R sc s none f in
      let f2 : IsFilled R after = subst (λ (y : Scope C). IsFilled R y) (sym bs.ending) (filled_bound R (release sc s) bs.all f1) in (
        step_whole R left sc (release sc s) after (on_loop s) binds w f1 best bs,
        (
          no_field body R (counted R (on_loop s) left) (inside R after s one_value) w its
              (carries_inside R left (counted R (on_loop s) left) after s one_value c2
              (λ i m. let h = counted_has R (on_loop s) left i m in (h.0, one_of _ (h.1))))
              (filled_inside R after s one_value w f2) inner,
          no_field next R (others R (on_loop s) left) (release after s) w its (fewer_carry R left _ after (others_left R (on_loop s) left) c2)
              (filled_release R after s none f2) rest,
        ),
      )

  pub no_field_arms : {C V : Type 0} (arms : Arms C) (R : Rules C V) (left : List ℕ) (sc : Scope C) (s : ℕ)
      → IsWellMade R → HasItsTests R → Carries R left sc → IsFilled R sc
      → BuildsArms R left sc s arms → ArmsBindNoField R arms
  no_field_arms no_arm R left sc s w its c f b = tt
  no_field_arms (arm d bindings body later) R left sc s w its c f b = (
    no_field body R (wanting R s d left) (inside R sc s (has d)) w its (carries_inside R left _ sc s (has d) c (wanting_has R left s d w))
        (filled_inside R sc s (has d) w f) (b.2),
    no_field_arms later R (not_wanting R s d left) sc s w its (fewer_carry R left _ sc (λ i m. (from_filter _ left i m).0) c) f (b.3),
  )
