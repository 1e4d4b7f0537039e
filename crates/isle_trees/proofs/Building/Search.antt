-- What a test counts, among rules in order.
use Rattle.std.proofs.Common.{◌≡◌, inl, inr, ℕ, ℤ, suc, zero, ◌+◌, ◌<◌, ◌≤◌, ◌<ℤ◌, ◌≤ℤ◌, ◌&&◌, not, int_le, List, [], ◌∷◌, Bool, true, false, Option, Some, None, length, refl, sym, ◌∙◌, ap, arith, get_or, take}
use Rattle.std.proofs.lemmas.Int.{ints}
use Rattle.std.proofs.lemmas.List.{take_more, take_all, length_push, append-nil}
use Rattle.std.specs.List.{filter, list_all}
use Rattle.isle_trees.specs.Rules.{Rules, Elem}
use Rattle.isle_trees.specs.Scopes.{Test, has_test, allows, counts, counted, others}
use Rattle.isle_trees.specs.Search.{Precedes, IsInOrder, floor, reaches, picks, top}
use Rattle.isle_trees.proofs.Basics.{true_or, all_from, or_right}
use Rattle.isle_trees.proofs.Building.Lists.{filter_append}
use Rattle.isle_trees.proofs.Sums.{filter_none}

pub at_most_true : (m n : ℤ) → int_le m n ≡ true → m ≤ℤ n
at_most_true m n e = grind (arith, ints)

pub at_most_false : (m n : ℤ) → int_le m n ≡ false → n <ℤ m
at_most_false m n e = grind (arith, ints)

pub true_at_most : (m n : ℤ) → m ≤ℤ n → int_le m n ≡ true
true_at_most m n l = grind (arith, ints)

pub precedes_most : {C V : Type 0} (R : Rules C V) (i j : ℕ) → Precedes R i j → R.prio j ≤ℤ R.prio i
precedes_most R i j (inl l) = grind (arith, ints)
precedes_most R i j (inr e) = let p = e.0 in grind (arith, ints)

and_comm : (a b : Bool) → (a && b) ≡ (b && a)
and_comm true true = refl
and_comm true false = refl
and_comm false true = refl
and_comm false false = refl

-- all that lack the test are at most a rule just where the first of them is
pub allows_is : {C V : Type 0} (R : Rules C V) (t : Test) (left : List ℕ) (i : ℕ) → IsInOrder R left
    → list_all (allows R t i) left ≡ reaches R (floor R t left) i
allows_is R t [] i o = refl
allows_is R t (x ∷ xs) i o = elim (true_or (has_test R x t)) [
  | inl h ↦ rw h (allows_is R t xs i (o.1))
  | inr h ↦ rw h (elim (true_or (int_le (R.prio x) (R.prio i))) [
    | inl l ↦ rw l (all_from (allows R t i) xs (λ j m.
        let up : R.prio x ≤ℤ R.prio i = at_most_true _ _ l in
        let down : R.prio j ≤ℤ R.prio x = precedes_most R x j (o.0 j m) in
        or_right (has_test R j t) _ (true_at_most (R.prio j) (R.prio i) (grind (arith, ints)))))
    | inr l ↦ rw l refl
  ])
]

pub counts_is : {C V : Type 0} (R : Rules C V) (t : Test) (left : List ℕ) (i : ℕ) → IsInOrder R left
    → counts R t left i ≡ picks R t (floor R t left) i
counts_is R t left i o = ap (λ (b : Bool). has_test R i t && b) (allows_is R t left i o) ∙ and_comm (has_test R i t) _

pub counts_same : {C V : Type 0} (R : Rules C V) (t : Test) (left : List ℕ) → IsInOrder R left → counts R t left ≡ picks R t (floor R t left)
counts_same R t left o = λ p. λ i. counts_is R t left i o p

pub counted_is : {C V : Type 0} (R : Rules C V) (t : Test) (left : List ℕ) → IsInOrder R left
    → counted R t left ≡ filter (picks R t (floor R t left)) left
counted_is R t left o = ap (λ (f : ℕ → Bool). filter f left) (counts_same R t left o)

pub others_is : {C V : Type 0} (R : Rules C V) (t : Test) (left : List ℕ) → IsInOrder R left
    → others R t left ≡ filter (λ i. not (picks R t (floor R t left) i)) left
others_is R t left o = ap (λ (f : ℕ → Bool). filter (λ i. not (f i)) left) (counts_same R t left o)

below_fails : {C V : Type 0} (R : Rules C V) (f : Option ℤ) (x y : ℕ) → R.prio y ≤ℤ R.prio x → reaches R f x ≡ false → reaches R f y ≡ false
below_fails R None x y l e = cc
below_fails R (Some p) x y l e = elim (true_or (int_le p (R.prio y))) [
  | inl h ↦ let m : p ≤ℤ R.prio y = at_most_true _ _ h in let n : R.prio x <ℤ p = at_most_false _ _ e in absurd (grind (arith, ints))
  | inr h ↦ h
]

picks_fails : {C V : Type 0} (R : Rules C V) (t : Test) (f : Option ℤ) (x : ℕ) → reaches R f x ≡ false → picks R t f x ≡ false
picks_fails R t f x e = rw e refl

-- where one rule is below the floor, no later one is picked
pub count_stops : {C V : Type 0} (R : Rules C V) (t : Test) (f : Option ℤ) (left : List ℕ) (i : ℕ) → IsInOrder R left → i < length left
    → reaches R f (get_or left i 0) ≡ false
    → filter (picks R t f) (take i left) ≡ filter (picks R t f) left
count_stops R t f [] i o l e = absurd (omega arith)
count_stops R t f (x ∷ xs) zero o l e =
    sym (filter_none (picks R t f) (x ∷ xs) (λ y m. elim m [
      | inl h ↦ picks_fails R t f y (below_fails R f x y (let p : R.prio y ≡ R.prio x = ap R.prio h in grind (arith, ints)) e)
      | inr h ↦ picks_fails R t f y (below_fails R f x y (precedes_most R x y (o.0 y h)) e)
    ]))
count_stops R t f (x ∷ xs) (suc i) o l e =
    let rest : filter (picks R t f) (take i xs) ≡ filter (picks R t f) xs = count_stops R t f xs i (o.1) (omega arith) e in
    elim (true_or (picks R t f x)) [
      | inl p ↦ rw p (ap (λ (l : List ℕ). x ∷ l) rest)
      | inr p ↦ rw p rest
    ]

pub picked_few : (p : ℕ → Bool) (i : ℕ) (xs : List ℕ) → length (filter p (take i xs)) ≤ i
picked_few p zero xs = omega arith
picked_few p (suc i) [] = omega arith
picked_few p (suc i) (x ∷ xs) = let q = picked_few p i xs in elim (true_or (p x)) [ inl e ↦ rw e (omega arith) | inr e ↦ rw e (omega arith) ]

pub counted_with : {C V : Type 0} (R : Rules C V) (t : Test) (left : List ℕ) (f : Option ℤ) → IsInOrder R left → f ≡ floor R t left
    → filter (picks R t f) left ≡ counted R t left
counted_with R t left f o e = ap (λ (g : Option ℤ). filter (picks R t g) left) e ∙ sym (counted_is R t left o)

pub others_with : {C V : Type 0} (R : Rules C V) (t : Test) (left : List ℕ) (f : Option ℤ) → IsInOrder R left → f ≡ floor R t left
    → filter (λ i. not (picks R t f i)) left ≡ others R t left
others_with R t left f o e = ap (λ (g : Option ℤ). filter (λ i. not (picks R t g i)) left) e ∙ sym (others_is R t left o)

pub count_stopped : {C V : Type 0} (R : Rules C V) (t : Test) (left : List ℕ) (f : Option ℤ) (i n : ℕ) → IsInOrder R left → f ≡ floor R t left
    → i < length left → reaches R f (get_or left i 0) ≡ false
    → n ≡ length (filter (picks R t f) (take i left)) → n ≡ length (counted R t left)
count_stopped R t left f i n o e l r h = h ∙ ap length (count_stops R t f left i o l r ∙ counted_with R t left f o e)

pub count_ended : {C V : Type 0} (R : Rules C V) (t : Test) (left : List ℕ) (f : Option ℤ) (i n : ℕ) → IsInOrder R left → f ≡ floor R t left
    → length left ≤ i
    → n ≡ length (filter (picks R t f) (take i left)) → n ≡ length (counted R t left)
count_ended R t left f i n o e l h = h ∙ ap length (ap (filter (picks R t f)) (take_all i left l) ∙ counted_with R t left f o e)
