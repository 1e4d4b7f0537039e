-- Rules by the test that they want of a site: runs at the front.
use Rattle.std.proofs.Common.{◌≡◌, ◌≢◌, ◌⊎◌, inl, inr, ℕ, suc, zero, ◌+◌, ◌-◌, ◌<◌, ◌≤◌, not, List, [], ◌∷◌, true, false, Option, Some, None, length, refl, sym, ◌∙◌, ap, subst, arith, get_or, drop, add-one, length-drop}
use Rattle.std.proofs.lemmas.List.{drop_more, drop-drop}
use Rattle.std.specs.Cmp.{IsStrictWeakOrder}
use Rattle.std.specs.List.Sorted.{IsSortedBy}
use Rattle.isle_trees.specs.Bag.{IsSameBag}
use Rattle.isle_trees.specs.Builds.{IsLeast, wanting, not_wanting}
use Rattle.isle_trees.specs.Rules.{Tests, Want, has, one_value, Rules, Elem}
use Rattle.isle_trees.specs.Scopes.{is_want}
use Rattle.isle_trees.specs.Search.{IsBuildable, precedes, IsInOrder, AreDistinct, lesser_want, same_wants, comes_first, AreGrouped, AllWant, front, IsRun}
use Rattle.isle_trees.proofs.Basics.{true_or, and_both, and_fails, or_holds, or_fails, not_true, clash, from_filter, is_want_is, is_want_same}
use Rattle.isle_trees.proofs.Building.InOrder.{in_order_distinct}
use Rattle.isle_trees.proofs.Building.Lists.{drop_elem}
use Rattle.isle_trees.proofs.Building.Ordered.{precedes_orders, precedes_true, precedes_false, level, same_distinct}
use Rattle.isle_trees.proofs.Building.Reorder.{same_each}
use Rattle.isle_trees.proofs.Sums.{filter_all, filter_none}

-- tests have an order, and `same` tells them apart
pub record AreOrdered {C V : Type 0} (T : Tests C V) : Type 0 where
  pub same : (c d : C) → T.same c d ≡ true → c ≡ d
  pub same_self : (c : C) → T.same c c ≡ true
  pub least_self : (c : C) → T.at_most c c ≡ true
  pub least_chain : (c d e : C) → T.at_most c d ≡ true → T.at_most d e ≡ true → T.at_most c e ≡ true
  pub least_both : (c d : C) → T.at_most c d ≡ true → T.at_most d c ≡ true → c ≡ d
  pub least_either : (c d : C) → T.at_most c d ≡ false → T.at_most d c ≡ true

pub ordered_tests : {C V : Type 0} (R : Rules C V) (n : ℕ) (rules : List ℕ) → IsBuildable R n rules → AreOrdered R.tests
ordered_tests R n rules b = record {
  same = b.same;
  same_self = b.same_self;
  least_self = b.least_self;
  least_chain = b.least_chain;
  least_both = b.least_both;
  least_either = b.least_either;
}

-- the order of wants
lesser_self : {C V : Type 0} (T : Tests C V) (o : Option (Want C)) → AreOrdered T → lesser_want T o o ≡ false
lesser_self T None k = refl
lesser_self T (Some (has c)) k = ap not (k.least_self c)
lesser_self T (Some one_value) k = refl

lesser_one_way : {C V : Type 0} (T : Tests C V) (o p : Option (Want C)) → AreOrdered T → lesser_want T o p ≡ true → lesser_want T p o ≡ false
lesser_one_way T None None k e = cc
lesser_one_way T None (Some w) k e = refl
lesser_one_way T (Some w) None k e = cc
lesser_one_way T (Some (has c)) (Some (has d)) k e = ap not (k.least_either d c (not_true _ e))
lesser_one_way T (Some (has c)) (Some one_value) k e = refl
lesser_one_way T (Some one_value) (Some w) k e = cc

lesser_chain : {C V : Type 0} (T : Tests C V) (o p q : Option (Want C)) → AreOrdered T → lesser_want T o p ≡ true → lesser_want T p q ≡ true
    → lesser_want T o q ≡ true
lesser_chain T None None None k e f = cc
lesser_chain T None (Some u) None k e f = cc
lesser_chain T None p (Some w) k e f = refl
lesser_chain T (Some w) None q k e f = cc
lesser_chain T (Some w) (Some u) None k e f = cc
lesser_chain T (Some (has c)) (Some (has d)) (Some (has e)) k l m =
    let dc : T.at_most d c ≡ false = not_true _ l in
    let ed : T.at_most e d ≡ false = not_true _ m in
    elim (true_or (T.at_most e c)) [
      | inl y ↦ clash _ (k.least_chain d e c (k.least_either e d ed) y) dc
      | inr n ↦ ap not n
    ]
lesser_chain T (Some (has c)) (Some (has d)) (Some one_value) k l m = refl
lesser_chain T (Some (has c)) (Some one_value) (Some w) k l m = cc
lesser_chain T (Some one_value) (Some u) (Some w) k l m = cc

-- of two wants that differ one is the lesser
lesser_either : {C V : Type 0} (T : Tests C V) (o p : Option (Want C)) → AreOrdered T → lesser_want T o p ≡ false
    → (lesser_want T p o ≡ true) ⊎ (o ≡ p)
lesser_either T None None k e = inr refl
lesser_either T None (Some w) k e = cc
lesser_either T (Some w) None k e = inl refl
lesser_either {C} T (Some (has c)) (Some (has d)) k e = elim (true_or (T.at_most c d)) [
  | inl y ↦ elim (true_or (T.at_most d c)) [
    | inl z ↦ inr (ap (λ (x : C). Some (has x)) (k.least_both c d y z))
    | inr n ↦ absurd (clash _ (ap not n) e)
  ]
  | inr n ↦ inl (ap not n)
]
lesser_either T (Some (has c)) (Some one_value) k e = cc
lesser_either T (Some one_value) (Some (has d)) k e = inl refl
lesser_either T (Some one_value) (Some one_value) k e = inr refl

same_is : {C V : Type 0} (T : Tests C V) (o p : Option (Want C)) → AreOrdered T → same_wants T o p ≡ true → o ≡ p
same_is T None None k e = refl
same_is T None (Some w) k e = cc
same_is T (Some w) p k e = sym (is_want_is T w p k.same e)

is_same : {C V : Type 0} (T : Tests C V) (o p : Option (Want C)) → AreOrdered T → o ≡ p → same_wants T o p ≡ true
is_same T None None k e = refl
is_same T None (Some w) k e = cc
is_same T (Some w) p k e = is_want_same T w p k.same_self (sym e)

-- the order of rules
abbrev Lower : {C V : Type 0} → Rules C V → ℕ → ℕ → ℕ → Type 0
Lower R s a b = (lesser_want R.tests (R.at a s) (R.at b s) ≡ true) ⊎ ((R.at a s ≡ R.at b s) × (precedes R a b ≡ true))

first_true : {C V : Type 0} (R : Rules C V) (s a b : ℕ) → AreOrdered R.tests → comes_first R s a b ≡ true → Lower R s a b
first_true R s a b k e = elim (or_holds (lesser_want R.tests (R.at a s) (R.at b s)) _ e) [
  | inl l ↦ inl l
  | inr h ↦ let both = and_both _ (precedes R a b) h in inr (same_is R.tests (R.at a s) (R.at b s) k (both.0), both.1)
]

-- the second comes no later
abbrev NotFirst : {C V : Type 0} → Rules C V → ℕ → ℕ → ℕ → Type 0
NotFirst R s a b = (lesser_want R.tests (R.at b s) (R.at a s) ≡ true) ⊎ ((R.at b s ≡ R.at a s) × (precedes R a b ≡ false))

first_false : {C V : Type 0} (R : Rules C V) (s a b : ℕ) → AreOrdered R.tests → comes_first R s a b ≡ false → NotFirst R s a b
first_false R s a b k e =
    let both = or_fails (lesser_want R.tests (R.at a s) (R.at b s)) _ e in
    elim (lesser_either R.tests (R.at a s) (R.at b s) k (both.0)) [
      | inl l ↦ inl l
      | inr q ↦ elim (and_fails (same_wants R.tests (R.at a s) (R.at b s)) (precedes R a b) (both.1)) [
        | inl n ↦ clash _ (is_same R.tests (R.at a s) (R.at b s) k q) n
        | inr n ↦ inr (sym q, n)
      ]
    ]

apart : {C V : Type 0} (R : Rules C V) (s a b : ℕ) → AreOrdered R.tests → Lower R s a b → NotFirst R s a b → ⊥
apart R s a b k (inl l) (inl m) = clash _ m (lesser_one_way R.tests (R.at a s) (R.at b s) k l)
apart {C} R s a b k (inl l) (inr m) =
    let P : Option (Want C) → Type 0 = λ o. lesser_want R.tests (R.at a s) o ≡ true in
    clash _ (subst P (m.0) l) (lesser_self R.tests (R.at a s) k)
apart {C} R s a b k (inr l) (inl m) =
    let P : Option (Want C) → Type 0 = λ o. lesser_want R.tests (R.at b s) o ≡ true in
    clash _ (subst P (l.0) m) (lesser_self R.tests (R.at b s) k)
apart R s a b k (inr l) (inr m) = clash _ (l.1) (m.1)

not_first : {C V : Type 0} (R : Rules C V) (s a b : ℕ) → AreOrdered R.tests → NotFirst R s a b → comes_first R s a b ≡ false
not_first R s a b k h = elim (true_or (comes_first R s a b)) [
  | inl e ↦ absurd (apart R s a b k (first_true R s a b k e) h)
  | inr e ↦ e
]

turned : {C V : Type 0} (R : Rules C V) (s a b : ℕ) → Lower R s a b → NotFirst R s b a
turned R s a b (inl l) = inl l
turned R s a b (inr h) = inr (h.0, (precedes_orders R).one_way a b (h.1))

chained : {C V : Type 0} (R : Rules C V) (s x y z : ℕ) → AreOrdered R.tests → NotFirst R s x y → NotFirst R s y z → NotFirst R s x z
chained R s x y z k (inl l) (inl m) = inl (lesser_chain R.tests (R.at z s) (R.at y s) (R.at x s) k m l)
chained {C} R s x y z k (inl l) (inr m) =
    let P : Option (Want C) → Type 0 = λ o. lesser_want R.tests o (R.at x s) ≡ true in inl (subst P (sym (m.0)) l)
chained {C} R s x y z k (inr l) (inl m) =
    let P : Option (Want C) → Type 0 = λ o. lesser_want R.tests (R.at z s) o ≡ true in inl (subst P (l.0) m)
chained R s x y z k (inr l) (inr m) = inr (m.0 ∙ l.0, (precedes_orders R).chain x y z (l.1) (m.1))

pub first_orders : {C V : Type 0} (R : Rules C V) (s : ℕ) → AreOrdered R.tests → IsStrictWeakOrder (comes_first R s)
first_orders R s k = record {
  one_way = λ x y e. not_first R s y x k (turned R s x y (first_true R s x y k e));
  chain = λ x y z e f. not_first R s x z k (chained R s x y z k (first_false R s x y k e) (first_false R s y z k f));
}

neither : {C V : Type 0} (R : Rules C V) (s a b : ℕ) → AreOrdered R.tests → a ≢ b → NotFirst R s a b → NotFirst R s b a → ⊥
neither R s a b k n (inl l) (inl m) = clash _ m (lesser_one_way R.tests (R.at b s) (R.at a s) k l)
neither {C} R s a b k n (inl l) (inr m) =
    let P : Option (Want C) → Type 0 = λ o. lesser_want R.tests (R.at b s) o ≡ true in
    clash _ (subst P (m.0) l) (lesser_self R.tests (R.at b s) k)
neither {C} R s a b k n (inr l) (inl m) =
    let P : Option (Want C) → Type 0 = λ o. lesser_want R.tests (R.at a s) o ≡ true in
    clash _ (subst P (l.0) m) (lesser_self R.tests (R.at a s) k)
neither R s a b k n (inr l) (inr m) = n (level R a b (precedes_false R a b (l.1)) (precedes_false R b a (m.1)))

one_first : {C V : Type 0} (R : Rules C V) (s a b : ℕ) → AreOrdered R.tests → a ≢ b → comes_first R s b a ≡ false → comes_first R s a b ≡ true
one_first R s a b k n e = elim (true_or (comes_first R s a b)) [
  | inl t ↦ t
  | inr f ↦ absurd (neither R s a b k n (first_false R s a b k f) (first_false R s b a k e))
]

abbrev NoneFirst : {C V : Type 0} → Rules C V → ℕ → List ℕ → Type 0
NoneFirst R s [] = Unit {0}
NoneFirst R s (x ∷ xs) = ((y : ℕ) → Elem y xs → comes_first R s y x ≡ false) × NoneFirst R s xs

none_first : {C V : Type 0} (R : Rules C V) (s : ℕ) (xs : List ℕ) → AreOrdered R.tests
    → ((k : ℕ) → suc k < length xs → comes_first R s (get_or xs (suc k) 0) (get_or xs k 0) ≡ false) → NoneFirst R s xs
none_first R s [] o h = tt
none_first R s (x ∷ []) o h = (λ y m. absurd m, tt)
none_first R s (x ∷ y ∷ ys) o h =
    let rest : NoneFirst R s (y ∷ ys) = none_first R s (y ∷ ys) o (λ k l. h (suc k) (omega arith)) in
    let first : comes_first R s y x ≡ false = h 0 (omega arith) in (
      λ z m. elim m [
        | inl e ↦ let P : ℕ → Type 0 = λ w. comes_first R s w x ≡ false in subst P (sym e) first
        | inr n ↦ (first_orders R s o).chain z y x (rest.0 z n) first
      ],
      rest,
    )

grouped : {C V : Type 0} (R : Rules C V) (s : ℕ) (xs : List ℕ) → AreOrdered R.tests → NoneFirst R s xs → AreDistinct xs → AreGrouped R s xs
grouped R s [] o h d = tt
grouped R s (x ∷ xs) o h d = (
  λ y m. one_first R s x y o (λ e. d.0 (let P : ℕ → Type 0 = λ w. Elem w xs in subst P (sym e) m)) (h.0 y m),
  grouped R s xs o (h.1) (d.1),
)

pub sorted_grouped : {C V : Type 0} (R : Rules C V) (s : ℕ) (xs ys : List ℕ) → AreOrdered R.tests → AreDistinct xs → IsSameBag xs ys
    → IsSortedBy (comes_first R s) ys → AreGrouped R s ys
sorted_grouped R s xs ys o d same h =
    grouped R s ys o
    (none_first R s ys o (λ k l.
    let e : comes_first R s (get_or ys (k + 1) 0) (get_or ys k 0) ≡ false = h k 0 (omega arith) (omega arith) in
    rw add-one at e))
    (same_distinct xs ys same d)

-- the same where they were in order
pub ordered_grouped : {C V : Type 0} (R : Rules C V) (s : ℕ) (xs ys : List ℕ) → AreOrdered R.tests → IsInOrder R xs → IsSameBag xs ys
    → IsSortedBy (comes_first R s) ys → AreGrouped R s ys
ordered_grouped R s xs ys k o same h = sorted_grouped R s xs ys k (in_order_distinct R xs o) same h

-- what is left of a group
pub drop_grouped : {C V : Type 0} (R : Rules C V) (s i : ℕ) (xs : List ℕ) → AreGrouped R s xs → AreGrouped R s (drop i xs)
drop_grouped R s zero xs g = g
drop_grouped R s (suc i) [] g = g
drop_grouped R s (suc i) (x ∷ xs) g = drop_grouped R s i xs (g.1)

not_lower : {C V : Type 0} (R : Rules C V) (s x y : ℕ) (c d : C) → AreOrdered R.tests → comes_first R s x y ≡ true → R.at x s ≡ Some (has c)
    → R.at y s ≡ Some (has d)
    → R.tests.at_most c d ≡ true
not_lower {C} R s x y c d k e a b = elim (first_true R s x y k e) [
  | inl l ↦
      let P : Option (Want C) → Type 0 = λ o. lesser_want R.tests o (R.at y s) ≡ true in
      let Q : Option (Want C) → Type 0 = λ o. lesser_want R.tests (Some (has c)) o ≡ true in
      k.least_either d c (not_true _ (subst Q b (subst P a l)))
  | inr h ↦
      let same : Some (has c) ≡ Some (has d) = sym a ∙ h.0 ∙ b in
      let q : c ≡ d = cc in
      let P : C → Type 0 = λ x. R.tests.at_most c x ≡ true in
      subst P q (k.least_self c)
]

-- another test isn't wanted
other_want : {C V : Type 0} (T : Tests C V) (c d : C) (o : Option (Want C)) → AreOrdered T → c ≢ d → o ≡ Some (has d) → is_want T (has c) o ≡ false
other_want {C} T c d o k n e = elim (true_or (is_want T (has c) o)) [
  | inl y ↦ let f : Some (has d) ≡ Some (has c) = sym e ∙ is_want_is T (has c) o k.same y in let q : d ≡ c = cc in absurd (n (sym q))
  | inr m ↦ m
]

abbrev IsLow : {C V : Type 0} → Rules C V → ℕ → C → List ℕ → Type 0
IsLow {C} R s c xs = (y : ℕ) (d : C) → Elem y xs → R.at y s ≡ Some (has d) → R.tests.at_most c d ≡ true

none_want : {C V : Type 0} (R : Rules C V) (s : ℕ) (c : C) (xs : List ℕ) → ((y : ℕ) → Elem y xs → is_want R.tests (has c) (R.at y s) ≡ false)
    → (wanting R s c xs ≡ []) × (not_wanting R s c xs ≡ xs)
none_want R s c xs h = (
  filter_none (λ i. is_want R.tests (has c) (R.at i s)) xs h,
  filter_all (λ i. not (is_want R.tests (has c) (R.at i s))) xs (λ x m. ap not (h x m)),
)

-- where the first wants another test, no later one wants this
later_want : {C V : Type 0} (R : Rules C V) (s x : ℕ) (c : C) (xs : List ℕ) → AreOrdered R.tests → AreGrouped R s (x ∷ xs) → AllWant R (x ∷ xs) s
    → IsLow R s c (x ∷ xs)
    → is_want R.tests (has c) (R.at x s) ≡ false → (y : ℕ) → Elem y (x ∷ xs) → is_want R.tests (has c) (R.at y s) ≡ false
later_want R s x c xs k g w low e y (inl q) = ap (λ (z : ℕ). is_want R.tests (has c) (R.at z s)) q ∙ e
later_want {C} R s x c xs k g w low e y (inr m) =
    let d = w x (inl refl) in
    let f = w y (inr m) in
    let cd : R.tests.at_most c (d.0) ≡ true = low x (d.0) (inl refl) (d.1) in
    let df : R.tests.at_most (d.0) (f.0) ≡ true = not_lower R s x y (d.0) (f.0) k (g.0 y m) (d.1) (f.1) in
    other_want R.tests c (f.0) (R.at y s) k
    (λ q.
    let P : C → Type 0 = λ z. R.tests.at_most (d.0) z ≡ true in
    let same : c ≡ d.0 = k.least_both c (d.0) cd (subst P (sym q) df) in
    clash _ (is_want_same R.tests (has c) (R.at x s) k.same_self (d.1 ∙ ap (λ (z : C). Some (has z)) (sym same))) e)
    (f.1)

pub front_is : {C V : Type 0} (R : Rules C V) (s : ℕ) (c : C) (xs : List ℕ) → AreOrdered R.tests → AreGrouped R s xs → AllWant R xs s → IsLow R s c xs
    → (front R s c xs ≡ wanting R s c xs) × (drop (length (front R s c xs)) xs ≡ not_wanting R s c xs)
front_is R s c [] k g w h = (refl, refl)
front_is R s c (x ∷ xs) k g w h = elim (true_or (is_want R.tests (has c) (R.at x s))) [
  | inl e ↦
      let rest = front_is R s c xs k (g.1) (λ i m. w i (inr m)) (λ y d m. h y d (inr m)) in
      (rw e (ap (λ (l : List ℕ). x ∷ l) (rest.0)), rw e (rest.1))
  | inr e ↦
      let rest = none_want R s c xs (λ y m. later_want R s x c xs k g w h e y (inr m)) in
      (rw e (sym (rest.0)), rw e (ap (λ (l : List ℕ). x ∷ l) (sym (rest.1))))
]

-- those of one test are in order
wanting_grouped : {C V : Type 0} (R : Rules C V) (s : ℕ) (c : C) (xs : List ℕ) → AreOrdered R.tests → AreGrouped R s xs
    → IsInOrder R (wanting R s c xs)
wanting_grouped R s c [] k g = tt
wanting_grouped {C} R s c (x ∷ xs) k g = elim (true_or (is_want R.tests (has c) (R.at x s))) [
  | inl e ↦ rw e (
    λ j m.
        let f = from_filter (λ i. is_want R.tests (has c) (R.at i s)) xs j m in
        elim (first_true R s x j k (g.0 j (f.0))) [
          | inl l ↦
              let same : R.at j s ≡ R.at x s = is_want_is R.tests (has c) (R.at j s) k.same (f.1) ∙ sym
              (is_want_is R.tests (has c) (R.at x s) k.same e) in
              let P : Option (Want C) → Type 0 = λ o. lesser_want R.tests (R.at x s) o ≡ true in
              clash _ (subst P same l) (lesser_self R.tests (R.at x s) k)
          | inr h ↦ precedes_true R x j (h.1)
        ],
    wanting_grouped R s c xs k (g.1),
  )
  | inr e ↦ rw e (wanting_grouped R s c xs k (g.1))
]

head_low : {C V : Type 0} (R : Rules C V) (s x : ℕ) (c : C) (xs : List ℕ) → AreOrdered R.tests → AreGrouped R s (x ∷ xs) → R.at x s ≡ Some (has c)
    → IsLow R s c (x ∷ xs)
head_low {C} R s x c xs k g a y d (inl q) e =
    let f : Some (has c) ≡ Some (has d) = sym a ∙ ap (λ (z : ℕ). R.at z s) (sym q) ∙ e in
    let p : c ≡ d = cc in
    let P : C → Type 0 = λ z. R.tests.at_most c z ≡ true in subst P p (k.least_self c)
head_low R s x c xs k g a y d (inr m) e = not_lower R s x y c d k (g.0 y m) a e

front_some : {C V : Type 0} (R : Rules C V) (s x : ℕ) (c : C) (xs : List ℕ) → AreOrdered R.tests → R.at x s ≡ Some (has c)
    → 0 < length (front R s c (x ∷ xs))
front_some R s x c xs k e = rw (is_want_same R.tests (has c) (R.at x s) k.same_self e) (omega arith)

front_short : {C V : Type 0} (R : Rules C V) (s : ℕ) (c : C) (xs : List ℕ) → length (front R s c xs) ≤ length xs
front_short R s c [] = omega arith
front_short R s c (x ∷ xs) =
    let q = front_short R s c xs in
    elim (true_or (is_want R.tests (has c) (R.at x s))) [ inl e ↦ rw e (omega arith) | inr e ↦ rw e (omega arith) ]

-- a run, of a group whose first rule wants the test
run_here : {C V : Type 0} (R : Rules C V) (s x : ℕ) (c : C) (xs : List ℕ) → AreOrdered R.tests → AreGrouped R s (x ∷ xs) → AllWant R (x ∷ xs) s
    → R.at x s ≡ Some (has c)
    → IsLeast R s (x ∷ xs) c
run_here R s x c xs k g w e = ((x, inl refl, e), λ i d m f. head_low R s x c xs k g e i d m f)

pub run_of : {C V : Type 0} (R : Rules C V) (s start : ℕ) (group : List ℕ) (test : C) (rules : List ℕ) (end : ℕ) → AreOrdered R.tests
    → start < length group → AreGrouped R s group
    → AllWant R group s → R.at (get_or group start 0) s ≡ Some (has test) → rules ≡ front R s test (drop start group) → end ≡ start + length rules
    → IsRun R s start group test rules end
run_of R s start group test rules end k l g w v f e =
    let x = get_or group start 0 in
    let xs = drop (start + 1) group in
    let left = drop start group in
    let cut : left ≡ x ∷ xs = drop_more group start 0 l in
    let G : List ℕ → Type 0 = λ ys. AreGrouped R s ys in
    let W : List ℕ → Type 0 = λ ys. AllWant R ys s in
    let L : List ℕ → Type 0 = λ ys. IsLeast R s ys test in
    let M : List ℕ → Type 0 = λ ys. IsLow R s test ys in
    let O : List ℕ → Type 0 = λ ys. IsInOrder R ys in
    let gl : AreGrouped R s left = drop_grouped R s start group g in
    let wl : AllWant R left s = λ i m. w i (drop_elem i start group m) in
    let gd : AreGrouped R s (x ∷ xs) = subst G cut gl in
    let wd : AllWant R (x ∷ xs) s = subst W cut wl in
    let low : IsLow R s test left = subst M (sym cut) (head_low R s x test xs k gd v) in
    let both = front_is R s test left k gl wl low in
    let size : length left ≡ length group - start = length-drop start group in
    let short : length rules ≤ length left = let q = front_short R s test left in
    let p : length rules ≡ length (front R s test left) = ap length f in
    omega arith in
    let some : 0 < length rules =
    let q : 0 < length (front R s test (x ∷ xs)) = front_some R s x test xs k v in
    let p : length rules ≡ length (front R s test (x ∷ xs)) = ap length f ∙ ap (λ (ys : List ℕ). length (front R s test ys)) cut in
    omega arith in
    record {
      least = subst L (sym cut) (run_here R s x test xs k gd wd v);
      run = f ∙ both.0;
      rest = ap (λ (n : ℕ). drop n group) (e ∙ ap (λ (ys : List ℕ). start + length ys) f) ∙ sym (drop-drop _ start group) ∙ both.1;
      order = subst O (sym (f ∙ both.0)) (wanting_grouped R s test left k gl);
      more = omega (arith, e, some);
      ends = omega (arith, e, short, size);
    }

-- the same rules in another order want tests too
pub same_want : {C V : Type 0} (R : Rules C V) (s : ℕ) (xs ys : List ℕ) → IsSameBag xs ys → AllWant R xs s → AllWant R ys s
same_want {C} R s xs ys h w = same_each (λ i. (c : C) × (R.at i s ≡ Some (has c))) xs ys h w
