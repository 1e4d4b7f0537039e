-- A test counts no more rules than have it, and may be passed over by that.
use Rattle.std.proofs.Common.{◌≡◌, ◌≢◌, inl, inr, ℕ, ◌+◌, ◌<◌, ◌≤◌, ◌==◌, List, [], ◌∷◌, true, false, Option, Some, None, length, refl, sym, ◌∙◌, subst, arith, get_or, take, eqb-true, eq-eqb}
use Rattle.std.proofs.lemmas.Bool.{false≢true}
use Rattle.std.specs.Prelude.{if◌then◌else◌}
use Rattle.isle_trees.specs.Builds.{Key, key, IsAtMost}
use Rattle.isle_trees.specs.Ranking.{Ranked, key_with, may_win, IsNoBetter}
use Rattle.isle_trees.specs.Rules.{Rules, Elem}
use Rattle.isle_trees.specs.Scopes.{Scope, Test, on_match, on_equal, on_loop, has_test, counts, counted}
use Rattle.isle_trees.specs.Search.{IsInOrder, AreDistinct, HasUsers, first_of, added_at}
use Rattle.isle_trees.proofs.Basics.{true_or, counted_has}
use Rattle.isle_trees.proofs.Building.Best.{not_above, at_most_trans}
use Rattle.isle_trees.proofs.Building.InOrder.{filter_in_order, in_order_distinct}
use Rattle.isle_trees.proofs.Building.Lists.{less_or, elem_left, elem_right, last_or}

pub key_is : {C V : Type 0} (R : Rules C V) (left : List ℕ) (sc : Scope C) (t : Test) → key_with sc (length (counted R t left)) t ≡ key R left sc t
key_is R left sc (on_match s) = refl
key_is R left sc (on_equal a b) = refl
key_is R left sc (on_loop s) = refl

pub fewer_most : {C : Type 0} (sc : Scope C) (m n : ℕ) (t : Test) → m ≤ n → IsAtMost (key_with sc m t) (key_with sc n t)
fewer_most sc m n (on_match s) l = elim (less_or m n) [ inl k ↦ inl k | inr k ↦ inr (omega arith, inr (refl, inr (refl, inr (refl, omega arith)))) ]
fewer_most sc m n (on_equal a b) l = elim (less_or m n) [ inl k ↦ inl k | inr k ↦ inr (omega arith, inr (refl, inr (refl, inr (refl, omega arith)))) ]
fewer_most sc m n (on_loop s) l = elim (less_or m n) [ inl k ↦ inl k | inr k ↦ inr (omega arith, inr (refl, inr (refl, inr (refl, omega arith)))) ]

pub passed_over : {C V : Type 0} (R : Rules C V) (left : List ℕ) (sc : Scope C) (best : Option Ranked) (t : Test) (n : ℕ)
    → length (counted R t left) ≤ n → may_win sc best t n ≡ false → IsNoBetter R left sc best t
passed_over R left sc None t n l e = cc
passed_over R left sc (Some old) t n l e =
    let P : Key → Type 0 = λ k. IsAtMost k old.key in
    subst P (key_is R left sc t) (at_most_trans (key_with sc (length (counted R t left)) t) (key_with sc n t) old.key
    (fewer_most sc (length (counted R t left)) n t l) (not_above (key_with sc n t) old.key e))

-- different numbers that are all in a list are no more than it has
drop_one : ℕ → List ℕ → List ℕ
drop_one x [] = []
drop_one x (y ∷ ys) = if y == x then ys else y ∷ drop_one x ys

one_less : (x : ℕ) (ys : List ℕ) → Elem x ys → length ys ≡ length (drop_one x ys) + 1
unfolding drop_one
one_less x [] m = absurd m
one_less x (y ∷ ys) m = elim (true_or (y == x)) [
  | inl e ↦ rw e (omega arith)
  | inr e ↦ rw e (elim m [
    | inl h ↦ absurd (false≢true (sym e ∙ eq-eqb y x (sym h)))
    | inr h ↦ let q = one_less x ys h in omega arith
  ])
]

still_there : (x z : ℕ) (ys : List ℕ) → z ≢ x → Elem z ys → Elem z (drop_one x ys)
unfolding drop_one
still_there x z [] n m = m
still_there x z (y ∷ ys) n m = elim (true_or (y == x)) [
  | inl e ↦ rw e (elim m [
    | inl h ↦ absurd (n (h ∙ eqb-true y x e))
    | inr h ↦ h
  ])
  | inr e ↦ rw e (elim m [
    | inl h ↦ inl h
    | inr h ↦ inr (still_there x z ys n h)
  ])
]

pub distinct_short : (xs ys : List ℕ) → AreDistinct xs → ((x : ℕ) → Elem x xs → Elem x ys) → length xs ≤ length ys
distinct_short [] ys d h = omega arith
distinct_short (x ∷ xs) ys d h =
    let rest : length xs ≤ length (drop_one x ys) = distinct_short xs (drop_one x ys) (d.1) (λ z m.
    still_there x z ys (λ e. d.0 (let P : ℕ → Type 0 = λ w. Elem w xs in subst P e m)) (h z (inr m))) in
    let q = one_less x ys (h x (inl refl)) in omega arith

pub counted_short : {C V : Type 0} (R : Rules C V) (left users : List ℕ) (t : Test) → IsInOrder R left
    → ((i : ℕ) → has_test R i t ≡ true → Elem i users) → length (counted R t left) ≤ length users
counted_short R left users t o h =
    distinct_short (counted R t left) users (in_order_distinct R (counted R t left) (filter_in_order R (counts R t left) left o))
    (λ i m. h i ((counted_has R t left i m).1))

-- lists of users
pub added_kept : (old new : List ℕ) (at x s y : ℕ) → new ≡ added_at old at x s → Elem y old → Elem y new
added_kept old new at x s y e m =
    let P : List ℕ → Type 0 = λ l. Elem y l in
    subst P (sym e) (elim (true_or (s == at)) [ inl h ↦ rw h (elem_left y old (x ∷ []) m) | inr h ↦ rw h m ])

pub added_here : (old new : List ℕ) (at x s : ℕ) → new ≡ added_at old at x s → s ≡ at → Elem x new
added_here old new at x s e q =
    let P : List ℕ → Type 0 = λ l. Elem x l in
    subst P (sym e) (rw (eq-eqb s at q) (elem_right x old (x ∷ []) (inl refl)))

pub users_more : (sites : List ℕ) (i x : ℕ) (old new : ℕ → List ℕ) → i < length sites → ((s : ℕ) → new s ≡ added_at (old s) (get_or sites i 0) x s)
    → ((s : ℕ) → Elem s (take i sites) → Elem x (old s)) → (s : ℕ) → Elem s (take (i + 1) sites) → Elem x (new s)
users_more sites i x old new l a h s m = elim (last_or s 0 sites i l m) [
  | inl o ↦ added_kept (old s) (new s) (get_or sites i 0) x s x (a s) (h s o)
  | inr e ↦ added_here (old s) (new s) (get_or sites i 0) x s (a s) e
]

-- one rule more is listed
pub users_step : {C V : Type 0} (R : Rules C V) (i : ℕ) (old new : ℕ → List ℕ) → ((s x : ℕ) → Elem x (old s) → Elem x (new s))
    → ((t : Test) → has_test R i t ≡ true → Elem i (new (first_of t)))
    → ((j : ℕ) (t : Test) → j < i → has_test R j t ≡ true → Elem j (old (first_of t))) → (j : ℕ) (t : Test) → j < i + 1 → has_test R j t ≡ true
    → Elem j (new (first_of t))
users_step R i old new keep here h j t l e = elim (less_or j i) [
  | inl m ↦ keep (first_of t) j (h j t m e)
  | inr m ↦
      let q : j ≡ i = omega arith in
      let P : ℕ → Type 0 = λ x. has_test R x t ≡ true → Elem x (new (first_of t)) in
      subst P (sym q) (here t) e
]

-- all rules are listed, where none from a number on has a test
pub users_all : {C V : Type 0} (R : Rules C V) (n k : ℕ) (users : ℕ → List ℕ) → ((i : ℕ) (t : Test) → n ≤ i → has_test R i t ≡ true → ⊥) → n ≤ k
    → ((j : ℕ) (t : Test) → j < k → has_test R j t ≡ true → Elem j (users (first_of t))) → HasUsers R users
users_all R n k users none l h i t e = elim (less_or i k) [
  | inl m ↦ h i t m e
  | inr m ↦ absurd (none i t (omega arith) e)
]
