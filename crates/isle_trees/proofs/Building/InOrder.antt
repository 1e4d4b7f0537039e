-- Rules in order stay so in their parts, and return from the front.
use Rattle.std.proofs.Common.{◌≡◌, ◌≢◌, inl, inr, ℕ, suc, zero, ◌+◌, ◌<◌, ◌≤◌, ◌==◌, not, List, [], ◌∷◌, Bool, length, refl, sym, ap, subst, arith, get_or, drop, eqb-true, eq-eqb}
use Rattle.std.proofs.lemmas.Int.{ints}
use Rattle.std.proofs.lemmas.List.{drop_more, drop_all}
use Rattle.std.specs.List.{filter}
use Rattle.isle_trees.specs.Builds.{IsFirst, BindsEach, Returns, without, wanting, not_wanting}
use Rattle.isle_trees.specs.Rules.{has, Rules, rights}
use Rattle.isle_trees.specs.Scopes.{Scope, is_want, Test, counts, counted, others}
use Rattle.isle_trees.specs.Search.{Precedes, IsInOrder, AreDistinct}
use Rattle.isle_trees.specs.Tree.{Steps, done, give}
use Rattle.isle_trees.proofs.Basics.{true_or, from_filter}
use Rattle.isle_trees.proofs.Sums.{filter_all}

pub drop_in_order : {C V : Type 0} (R : Rules C V) (i : ℕ) (xs : List ℕ) → IsInOrder R xs → IsInOrder R (drop i xs)
drop_in_order R zero xs o = o
drop_in_order R (suc i) [] o = o
drop_in_order R (suc i) (x ∷ xs) o = drop_in_order R i xs (o.1)

pub filter_in_order : {C V : Type 0} (R : Rules C V) (p : ℕ → Bool) (xs : List ℕ) → IsInOrder R xs → IsInOrder R (filter p xs)
filter_in_order R p [] o = tt
filter_in_order R p (x ∷ xs) o = elim (true_or (p x)) [
  | inl e ↦ rw e (λ j m. o.0 j ((from_filter p xs j m).0), filter_in_order R p xs (o.1))
  | inr e ↦ rw e (filter_in_order R p xs (o.1))
]

pub counted_in_order : {C V : Type 0} (R : Rules C V) (t : Test) (left some : List ℕ) → some ≡ counted R t left → IsInOrder R left → IsInOrder R some
counted_in_order R t left some e o = let P : List ℕ → Type 0 = λ l. IsInOrder R l in subst P (sym e) (filter_in_order R (counts R t left) left o)

pub others_in_order : {C V : Type 0} (R : Rules C V) (t : Test) (left some : List ℕ) → some ≡ others R t left → IsInOrder R left → IsInOrder R some
others_in_order R t left some e o =
    let P : List ℕ → Type 0 = λ l. IsInOrder R l in subst P (sym e) (filter_in_order R (λ i. not (counts R t left i)) left o)

head_first : {C V : Type 0} (R : Rules C V) (x : ℕ) (xs : List ℕ) → IsInOrder R (x ∷ xs) → IsFirst R (x ∷ xs) x
head_first R x xs o = (
  inl refl,
  λ j m. elim m [
    | inl e ↦ let p : R.prio j ≡ R.prio x = ap R.prio e in inr (p, omega arith)
    | inr n ↦ elim (o.0 j n) [
      | inl l ↦ inl l
      | inr e ↦ let l = e.1 in inr (e.0, omega arith)
    ]
  ],
)

pub differ : {C V : Type 0} (R : Rules C V) (x j : ℕ) → Precedes R x j → j ≢ x
differ R x j (inl l) e = let p : R.prio j ≡ R.prio x = ap R.prio e in grind (arith, ints)
differ R x j (inr h) e = let l = h.1 in omega arith

without_head : {C V : Type 0} (R : Rules C V) (x : ℕ) (xs : List ℕ) → IsInOrder R (x ∷ xs) → without x (x ∷ xs) ≡ xs
without_head R x xs o =
    rw (eq-eqb x x refl) (filter_all (λ j. not (j == x)) xs (λ j m. elim (true_or (j == x)) [
      | inl e ↦ absurd (differ R x j (o.0 j m) (eqb-true j x e))
      | inr e ↦ rw e refl
    ]))

give_head : {C V : Type 0} (R : Rules C V) (x : ℕ) (xs : List ℕ) (sc after : Scope C) (binds : List ℕ) (T : Steps C) → IsInOrder R (x ∷ xs)
    → BindsEach R sc (rights R x) binds after → Returns R xs after T
    → Returns R (x ∷ xs) sc (give binds x T)
give_head R x xs sc after binds T o b r =
    let P : List ℕ → Type 0 = λ l. Returns R l after T in (head_first R x xs o, (after, b, subst P (sym (without_head R x xs o)) r))

pub returns_more : {C V : Type 0} (R : Rules C V) (left : List ℕ) (i : ℕ) (sc after : Scope C) (binds : List ℕ) (T : Steps C) → IsInOrder R left
    → i < length left → BindsEach R sc (rights R (get_or left i 0)) binds after
    → Returns R (drop (i + 1) left) after T → Returns R (drop i left) sc (give binds (get_or left i 0) T)
returns_more R left i sc after binds T o l b r =
    let e : drop i left ≡ get_or left i 0 ∷ drop (i + 1) left = drop_more left i 0 l in
    let P : List ℕ → Type 0 = λ x. Returns R x sc (give binds (get_or left i 0) T) in
    let Q : List ℕ → Type 0 = λ x. IsInOrder R x in
    subst P (sym e) (give_head R (get_or left i 0) (drop (i + 1) left) sc after binds T (subst Q e (drop_in_order R i left o)) b r)

pub in_order_distinct : {C V : Type 0} (R : Rules C V) (xs : List ℕ) → IsInOrder R xs → AreDistinct xs
in_order_distinct R [] o = tt
in_order_distinct R (x ∷ xs) o = (λ m. differ R x x (o.0 x m) refl, in_order_distinct R xs (o.1))
