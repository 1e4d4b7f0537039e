-- What is known inside an arm, bound from a list; the same path.
use Rattle.std.proofs.Common.{◌≡◌, ◌⊎◌, inl, inr, ℕ, ◌+◌, ◌<◌, ◌≤◌, ◌==◌, ◌||◌, List, [], Bool, true, false, Some, None, length, refl, sym, ◌∙◌, ap, subst, get_or, take, eqb-true, eq-eqb}
use Rattle.std.proofs.lemmas.List.{take_all}
use Rattle.isle_trees.specs.Rules.{Want, Source, Rules, Elem}
use Rattle.isle_trees.specs.Scopes.{Scope, emit, emit_all, join, release, is_source, inside, IsAvailable}
use Rattle.isle_trees.specs.Search.{AreSound, AreMarked, IsIndex, IsSamePath, with_made}
use Rattle.isle_trees.proofs.Basics.{SameIs, true_or, or_right, or_holds, source_is}
use Rattle.isle_trees.proofs.Building.Lists.{both_ways, last_or}
use Rattle.isle_trees.proofs.Building.Scopes.{scope_same}
use Rattle.isle_trees.proofs.Path.{passed_bound, label_bound}

-- so far
pub record Entering {C V : Type 0} (R : Rules C V) (s : ℕ) (w : Want C) (xs : List ℕ) (start now : Scope C) : Type 0 where
  pub path : IsSamePath start now
  pub kept : (y : ℕ) → start.emitted y ≡ true → now.emitted y ≡ true
  pub made : (y : ℕ) → Elem y xs → is_source R.tests s w (R.made y) ≡ true → now.emitted y ≡ true
  pub only : (y : ℕ) → now.emitted y ≡ true → (is_source R.tests s w (R.made y) ≡ true) ⊎ (start.emitted y ≡ true)

pub entering_none : {C V : Type 0} (R : Rules C V) (s : ℕ) (w : Want C) (sc : Scope C) → Entering R s w [] sc sc
entering_none R s w sc =
    record { path = record { passed = λ x. refl; label = λ x. refl }; kept = λ y e. e; made = λ y m e. absurd m; only = λ y e. inr e }

emit_here : {C : Type 0} (sc : Scope C) (x y : ℕ) → y ≡ x → (emit sc x).emitted y ≡ true
emit_here sc x y e = rw (eq-eqb y x e) refl

emit_kept : {C : Type 0} (sc : Scope C) (x y : ℕ) → sc.emitted y ≡ true → (emit sc x).emitted y ≡ true
emit_kept sc x y e = or_right (y == x) _ e

pub with_path : {C V : Type 0} (R : Rules C V) (s : ℕ) (w : Want C) (sc : Scope C) (x : ℕ) → IsSamePath sc (with_made R s w sc x)
with_path R s w sc x = elim (true_or (is_source R.tests s w (R.made x))) [
  | inl e ↦ rw e (record { passed = λ y. refl; label = λ y. refl })
  | inr e ↦ rw e (record { passed = λ y. refl; label = λ y. refl })
]

with_kept : {C V : Type 0} (R : Rules C V) (s : ℕ) (w : Want C) (sc : Scope C) (x y : ℕ) → sc.emitted y ≡ true
    → (with_made R s w sc x).emitted y ≡ true
with_kept R s w sc x y h = elim (true_or (is_source R.tests s w (R.made x))) [ inl e ↦ rw e (emit_kept sc x y h) | inr e ↦ rw e h ]

with_here : {C V : Type 0} (R : Rules C V) (s : ℕ) (w : Want C) (sc : Scope C) (x y : ℕ) → y ≡ x → is_source R.tests s w (R.made y) ≡ true
    → (with_made R s w sc x).emitted y ≡ true
with_here R s w sc x y h e =
    let f : is_source R.tests s w (R.made x) ≡ true = ap (λ (z : ℕ). is_source R.tests s w (R.made z)) (sym h) ∙ e in rw f (emit_here sc x y h)

with_only : {C V : Type 0} (R : Rules C V) (s : ℕ) (w : Want C) (sc : Scope C) (x y : ℕ) → (with_made R s w sc x).emitted y ≡ true
    → (is_source R.tests s w (R.made y) ≡ true) ⊎ (sc.emitted y ≡ true)
with_only R s w sc x y m = elim (true_or (is_source R.tests s w (R.made x))) [
  | inl e ↦
      let h : ((y == x) || sc.emitted y) ≡ true = rw e at m in
      elim (or_holds (y == x) _ h) [
        | inl here ↦ inl (ap (λ (z : ℕ). is_source R.tests s w (R.made z)) (eqb-true y x here) ∙ e)
        | inr o ↦ inr o
      ]
  | inr e ↦ let h : sc.emitted y ≡ true = rw e at m in inr h
]

pub same_path_trans : {C : Type 0} (a b c : Scope C) → IsSamePath a b → IsSamePath b c → IsSamePath a c
same_path_trans a b c p q = record { passed = λ s. q.passed s ∙ p.passed s; label = λ s. q.label s ∙ p.label s }

pub same_path_self : {C : Type 0} (a : Scope C) → IsSamePath a a
same_path_self a = record { passed = λ s. refl; label = λ s. refl }

pub entering_with : {C V : Type 0} (R : Rules C V) (s : ℕ) (w : Want C) (xs : List ℕ) (i : ℕ) (start now : Scope C) → i < length xs
    → Entering R s w (take i xs) start now
    → Entering R s w (take (i + 1) xs) start (with_made R s w now (get_or xs i 0))
entering_with R s w xs i start now l h = record {
  path = same_path_trans start now _ h.path (with_path R s w now (get_or xs i 0));
  kept = λ y e. with_kept R s w now (get_or xs i 0) y (h.kept y e);
  made = λ y m e.
      elim (last_or y 0 xs i l m) [
        | inl o ↦ with_kept R s w now (get_or xs i 0) y (h.made y o e)
        | inr here ↦ with_here R s w now (get_or xs i 0) y here e
      ];
  only = λ y m. elim (with_only R s w now (get_or xs i 0) y m) [ inl e ↦ inl e | inr o ↦ h.only y o ];
}

pub entering_more : {C V : Type 0} (R : Rules C V) (s : ℕ) (w : Want C) (xs : List ℕ) (i : ℕ) (start now new : Scope C) → i < length xs
    → new ≡ with_made R s w now (get_or xs i 0) → Entering R s w (take i xs) start now
    → Entering R s w (take (i + 1) xs) start new
entering_more R s w xs i start now new l e h =
    let P : Scope _ → Type 0 = λ x. Entering R s w (take (i + 1) xs) start x in subst P (sym e) (entering_with R s w xs i start now l h)

or_first : (a b : Bool) → a ≡ true → (a || b) ≡ true
or_first true b e = refl
or_first false b e = cc

-- once the list has ended, of a scope in which the want is met
pub entered : {C V : Type 0} (R : Rules C V) (s : ℕ) (w : Want C) (xs : List ℕ) (old start now : Scope C) → SameIs R.tests
    → ((x : ℕ) (m : Source C) → R.made x ≡ Some m → m.site ≡ s → Elem x xs)
    → IsSamePath (inside R old s w) start → ((y : ℕ) → start.emitted y ≡ old.emitted y) → Entering R s w xs start now → now ≡ inside R old s w
entered {C} R s w xs old start now k all p q h =
    scope_same now (inside R old s w)
    (λ y. h.path.passed y ∙ p.passed y)
    (λ y. h.path.label y ∙ p.label y)
    (λ y. both_ways (now.emitted y) ((inside R old s w).emitted y)
    (λ e. elim (h.only y e) [
      | inl f ↦ or_first (is_source R.tests s w (R.made y)) (old.emitted y) f
      | inr o ↦ or_right (is_source R.tests s w (R.made y)) (old.emitted y) (sym (q y) ∙ o)
    ])
    (λ e. elim (or_holds (is_source R.tests s w (R.made y)) (old.emitted y) e) [
      | inl f ↦ let m = source_is R.tests s w (R.made y) k f in h.made y (all y (record { site = s; want = w }) m refl) f
      | inr o ↦ h.kept y (q y ∙ o)
    ]))

-- paths and what is available
pub path_bound : {C : Type 0} (sc after : Scope C) (xs : List ℕ) → after ≡ emit_all sc xs → IsSamePath sc after
path_bound sc after xs e =
    let P : Scope _ → Type 0 = λ a. IsSamePath sc a in
    subst P (sym e) (record { passed = λ s. passed_bound sc xs s; label = λ s. label_bound sc xs s })

pub available_still : {C V : Type 0} (R : Rules C V) (a b : Scope C) (s : ℕ) → ((x : ℕ) (w : Want C) → a.passed x ≡ Some w → b.passed x ≡ Some w)
    → IsAvailable R a s → IsAvailable R b s
available_still R a b _ h (IsAvailable.from_parts s parts tested) =
    IsAvailable.from_parts s (λ p m. available_still R a b p h (parts p m)) (λ m e. h m.site m.want (tested m e))

pub sound_path : {C V : Type 0} (R : Rules C V) (a b : Scope C) (marks : List Bool) → IsSamePath a b → AreSound R a marks → AreSound R b marks
sound_path R a b marks p h s m = available_still R a b s (λ x k e. p.passed x ∙ e) (h s m)

pub sound_inside : {C V : Type 0} (R : Rules C V) (sc : Scope C) (s : ℕ) (w : Want C) (marks : List Bool) → sc.passed s ≡ None → AreSound R sc marks
    → AreSound R (inside R sc s w) marks
sound_inside R sc s w marks n h x m = available_still R sc (inside R sc s w) x (λ y j e. elim (true_or (y == s)) [
  | inl f ↦ let q : sc.passed s ≡ Some j = ap sc.passed (sym (eqb-true y s f)) ∙ e in let z : None ≡ Some j = sym n ∙ q in cc
  | inr f ↦ rw f e
]) (h x m)

pub sound_join : {C V : Type 0} (R : Rules C V) (sc : Scope C) (a b : ℕ) (marks : List Bool) → AreSound R sc marks → AreSound R (join sc a b) marks
sound_join R sc a b marks h x m = available_still R sc (join sc a b) x (λ y j e. e) (h x m)

pub marked_path : {C V : Type 0} (R : Rules C V) (left rest : List ℕ) (a b : Scope C) (marks : List Bool) → IsSamePath a b
    → ((i : ℕ) → Elem i rest → Elem i left) → AreMarked R left a marks → AreMarked R rest b marks
marked_path R left rest a b marks p sub h = record {
  sound = sound_path R a b marks p h.sound;
  full = λ i s m q v. h.full i s (sub i m) q (available_still R b a s (λ x k e. sym (p.passed x) ∙ e) v);
}

pub path_freed : {C : Type 0} (sc freed after : Scope C) (s : ℕ) (xs : List ℕ) → freed ≡ release sc s → after ≡ emit_all freed xs
    → IsSamePath sc after
path_freed sc freed after s xs f e =
    let P : Scope _ → Type 0 = λ x. IsSamePath sc x in
    let freed_path : IsSamePath sc freed = subst P (sym f) (record { passed = λ y. refl; label = λ y. refl }) in
    same_path_trans sc freed after freed_path (path_bound freed after xs e)

pub path_released : {C : Type 0} (sc freed after last : Scope C) (s : ℕ) (xs : List ℕ) → freed ≡ release sc s → after ≡ emit_all freed xs
    → last ≡ release after s → IsSamePath sc last
path_released sc freed after last s xs f e l =
    let P : Scope _ → Type 0 = λ x. IsSamePath after x in
    same_path_trans sc after last (path_freed sc freed after s xs f e) (subst P (sym l) (record { passed = λ y. refl; label = λ y. refl }))
