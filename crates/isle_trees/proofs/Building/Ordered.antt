-- A sort puts rules in order.
use Rattle.std.proofs.Common.{◌≡◌, ◌≢◌, ◌⊎◌, inl, inr, ℕ, ℤ, suc, ◌+◌, ◌<◌, ◌≤◌, ◌<ℤ◌, ◌≤ℤ◌, ◌==◌, nat_lt, List, [], ◌∷◌, true, false, length, refl, sym, ◌∙◌, subst, arith, get_or, add-one, eqb-true, eq-eqb}
use Rattle.std.proofs.lemmas.Bool.{ltb-true, ltb-false}
use Rattle.std.proofs.lemmas.Bool.Decides.{Decides-int_eq}
use Rattle.std.proofs.lemmas.Int.{ints}
use Rattle.std.proofs.lemmas.List.Sums.{sum_by-cons}
use Rattle.std.specs.Cmp.{IsStrictWeakOrder}
use Rattle.std.specs.List.Sorted.{IsSortedBy}
use Rattle.std.specs.Ordering.{int_eq}
use Rattle.std.specs.Prelude.{int_lt, sum_by}
use Rattle.isle_trees.specs.Bag.{IsSameBag}
use Rattle.isle_trees.specs.Rules.{Rules, Elem}
use Rattle.isle_trees.specs.Search.{Precedes, precedes, IsInOrder, AreDistinct}
use Rattle.isle_trees.proofs.Basics.{true_or, and_both, and_fails, or_holds, or_fails, clash}
use Rattle.isle_trees.proofs.Building.Lists.{zero_or}
use Rattle.isle_trees.proofs.Building.Reorder.{is_one, elem_sum, sum_elem}

-- numbers with a sign
pub under_true : (m n : ℤ) → int_lt m n ≡ true → m <ℤ n
under_true m n e = grind (arith, ints)

pub under_false : (m n : ℤ) → int_lt m n ≡ false → n ≤ℤ m
under_false m n e = grind (arith, ints)

-- one isn't above another: it is less, or the same
less_or_same : (m n : ℤ) → m ≤ℤ n → (m <ℤ n) ⊎ (m ≡ n)
less_or_same m n l = elim (true_or (int_lt m n)) [
  | inl e ↦ inl (under_true m n e)
  | inr e ↦ let k = under_false m n e in inr (omega (arith, ints))
]

-- the first rule has the greater priority, or the same and no greater number
abbrev pub Before : {C V : Type 0} → Rules C V → ℕ → ℕ → Type 0
Before R i j = (R.prio j <ℤ R.prio i) ⊎ ((R.prio j ≡ R.prio i) × (i ≤ j))

pub precedes_true : {C V : Type 0} (R : Rules C V) (a b : ℕ) → precedes R a b ≡ true → Precedes R a b
precedes_true R a b e = elim (or_holds (int_lt (R.prio b) (R.prio a)) _ e) [
  | inl l ↦ inl (under_true (R.prio b) (R.prio a) l)
  | inr h ↦ let both = and_both _ (nat_lt a b) h in inr (sym ((Decides-int_eq (R.prio a) (R.prio b)).0 (both.0)), ltb-true a b (both.1))
]

pub precedes_false : {C V : Type 0} (R : Rules C V) (a b : ℕ) → precedes R a b ≡ false → Before R b a
precedes_false R a b e =
    let both = or_fails (int_lt (R.prio b) (R.prio a)) _ e in
    elim (less_or_same (R.prio a) (R.prio b) (under_false (R.prio b) (R.prio a) (both.0))) [
      | inl l ↦ inl l
      | inr p ↦ elim (and_fails (int_eq (R.prio a) (R.prio b)) (nat_lt a b) (both.1)) [
        | inl n ↦ clash _ ((Decides-int_eq (R.prio a) (R.prio b)).1 p) n
        | inr n ↦ inr (p, ltb-false a b n)
      ]
    ]

apart : {C V : Type 0} (R : Rules C V) (a b : ℕ) → Precedes R a b → Before R b a → ⊥
apart R a b (inl l) (inl m) = grind (arith, ints)
apart R a b (inl l) (inr m) = let e = m.0 in grind (arith, ints)
apart R a b (inr l) (inl m) = let e = l.0 in grind (arith, ints)
apart R a b (inr l) (inr m) = let x = l.1 in let y = m.1 in omega arith

before_not : {C V : Type 0} (R : Rules C V) (a b : ℕ) → Before R b a → precedes R a b ≡ false
before_not R a b h = elim (true_or (precedes R a b)) [
  | inl e ↦ absurd (apart R a b (precedes_true R a b e) h)
  | inr e ↦ e
]

weaken : {C V : Type 0} (R : Rules C V) (a b : ℕ) → Precedes R a b → Before R a b
weaken R a b (inl l) = inl l
weaken R a b (inr h) = let l = h.1 in inr (h.0, omega arith)

before_trans : {C V : Type 0} (R : Rules C V) (a b c : ℕ) → Before R a b → Before R b c → Before R a c
before_trans R a b c (inl l) (inl m) = inl (grind (arith, ints))
before_trans R a b c (inl l) (inr m) = let e : R.prio c ≡ R.prio b = m.0 in inl (grind (arith, ints))
before_trans R a b c (inr l) (inl m) = let e : R.prio b ≡ R.prio a = l.0 in inl (grind (arith, ints))
before_trans R a b c (inr l) (inr m) = let e : a ≤ b = l.1 in let f : b ≤ c = m.1 in inr (m.0 ∙ l.0, omega arith)

pub precedes_orders : {C V : Type 0} (R : Rules C V) → IsStrictWeakOrder (precedes R)
precedes_orders R = record {
  one_way = λ x y e. before_not R y x (weaken R x y (precedes_true R x y e));
  chain = λ x y z e f. before_not R x z (before_trans R z y x (precedes_false R y z f) (precedes_false R x y e));
}

abbrev AllBefore : {C V : Type 0} → Rules C V → List ℕ → Type 0
AllBefore R [] = Unit {0}
AllBefore R (x ∷ xs) = ((y : ℕ) → Elem y xs → Before R x y) × AllBefore R xs

all_before : {C V : Type 0} (R : Rules C V) (xs : List ℕ) → ((k : ℕ) → suc k < length xs → Before R (get_or xs k 0) (get_or xs (suc k) 0))
    → AllBefore R xs
all_before R [] h = tt
all_before R (x ∷ []) h = (λ y m. absurd m, tt)
all_before R (x ∷ y ∷ ys) h =
    let rest : AllBefore R (y ∷ ys) = all_before R (y ∷ ys) (λ k l. h (suc k) (omega arith)) in
    let first : Before R x y = h 0 (omega arith) in (
      λ z m. elim m [
        | inl e ↦ let P : ℕ → Type 0 = λ w. Before R x w in subst P (sym e) first
        | inr n ↦ before_trans R x y z first (rest.0 z n)
      ],
      rest,
    )

-- numbers that stand once
pub distinct_few : (x : ℕ) (xs : List ℕ) → AreDistinct xs → sum_by (is_one x) xs ≤ 1
distinct_few x [] d = omega arith
distinct_few x (y ∷ ys) d =
    let c : sum_by (is_one x) (y ∷ ys) ≡ is_one x y + sum_by (is_one x) ys = sum_by-cons (is_one x) y ys in
    let q = distinct_few x ys (d.1) in
    elim (true_or (y == x)) [
      | inl e ↦
          let o : is_one x y ≡ 1 = rw e refl in
          elim (zero_or (sum_by (is_one x) ys)) [
            | inl z ↦ omega arith
            | inr l ↦ let P : ℕ → Type 0 = λ w. Elem w ys in absurd (d.0 (subst P (sym (eqb-true y x e)) (sum_elem x ys l)))
          ]
      | inr e ↦ let o : is_one x y ≡ 0 = rw e refl in omega arith
    ]

pub few_distinct : (xs : List ℕ) → ((x : ℕ) → sum_by (is_one x) xs ≤ 1) → AreDistinct xs
few_distinct [] h = tt
few_distinct (y ∷ ys) h = (
  λ m.
      let l : 0 < sum_by (is_one y) ys = elem_sum y ys m in
      let c : sum_by (is_one y) (y ∷ ys) ≡ is_one y y + sum_by (is_one y) ys = sum_by-cons (is_one y) y ys in
      let o : is_one y y ≡ 1 = rw (eq-eqb y y refl) refl in
      let k = h y in omega arith,
  few_distinct ys (λ x.
      let c : sum_by (is_one x) (y ∷ ys) ≡ is_one x y + sum_by (is_one x) ys = sum_by-cons (is_one x) y ys in
      let k = h x in omega arith),
)

strict : {C V : Type 0} (R : Rules C V) (xs : List ℕ) → AllBefore R xs → AreDistinct xs → IsInOrder R xs
strict R [] b d = tt
strict R (x ∷ xs) b d = (
  λ y m. elim (b.0 y m) [
    | inl l ↦ inl l
    | inr h ↦
        let n : x ≢ y = λ e. d.0 (let P : ℕ → Type 0 = λ w. Elem w xs in subst P (sym e) m) in
        let l = h.1 in inr (h.0, omega arith)
  ],
  strict R xs (b.1) (d.1),
)

-- numbers that stand once do so in any order
pub same_distinct : (xs ys : List ℕ) → IsSameBag xs ys → AreDistinct xs → AreDistinct ys
same_distinct xs ys same d = few_distinct ys (λ x. let l = distinct_few x xs d in let e = same (is_one x) in omega arith)

pub sorted_in_order : {C V : Type 0} (R : Rules C V) (xs ys : List ℕ) → AreDistinct xs → IsSameBag xs ys → IsSortedBy (precedes R) ys → IsInOrder R ys
sorted_in_order R xs ys d same s =
    strict R ys (all_before R ys (λ k l. let e : precedes R (get_or ys (k + 1) 0) (get_or ys k 0) ≡ false = s k 0 (omega arith) (omega arith) in
    precedes_false R (get_or ys (suc k) 0) (get_or ys k 0) (rw add-one at e)))
    (same_distinct xs ys same d)

pub level : {C V : Type 0} (R : Rules C V) (a b : ℕ) → Before R b a → Before R a b → a ≡ b
level R a b (inl l) (inl m) = absurd (grind (arith, ints))
level R a b (inl l) (inr m) = let e = m.0 in absurd (grind (arith, ints))
level R a b (inr l) (inl m) = let e = l.0 in absurd (grind (arith, ints))
level R a b (inr l) (inr m) = let x = l.1 in let y = m.1 in omega arith
