-- Members of lists, by place and after a change.
use Rattle.std.proofs.Common.{◌≡◌, ◌≢◌, ◌⊎◌, inl, inr, ℕ, zero, suc, ◌+◌, ◌<◌, ◌≤◌, ◌==◌, ◌++◌, not, nat_lt, List, [], ◌∷◌, Bool, true, false, length, refl, sym, ◌∙◌, ap, subst, arith, get_or, take, drop, eqb-true, eq-eqb, append_assoc}
use Rattle.std.proofs.lemmas.Bool.{ltb-true, ltb-false}
use Rattle.std.proofs.lemmas.Grind.{common_steps}
use Rattle.std.proofs.lemmas.List.{take_more}
use Rattle.std.specs.List.{filter, flat_map}
use Rattle.isle_trees.specs.Bag.{IsAscending}
use Rattle.isle_trees.specs.Builds.{without}
use Rattle.isle_trees.specs.Rules.{Elem}
use Rattle.isle_trees.specs.Search.{AreDistinct}
use Rattle.isle_trees.specs.Rules.{below}
use Rattle.isle_trees.proofs.Asking.{elem_append}
use Rattle.isle_trees.proofs.Basics.{true_or, eq_or}

-- numbers
pub less_or : (a b : ℕ) → (a < b) ⊎ (b ≤ a)
less_or a b = elim (true_or (nat_lt a b)) [ inl e ↦ inl (ltb-true a b e) | inr e ↦ inr (ltb-false a b e) ]

pub zero_or : (n : ℕ) → (n ≡ 0) ⊎ (0 < n)
zero_or zero = inl refl
zero_or (suc n) = inr (omega arith)

pub not_same : (a b : ℕ) → a ≢ b → (a == b) ≡ false
not_same a b n = elim (true_or (a == b)) [ inl e ↦ absurd (n (eqb-true a b e)) | inr e ↦ e ]

pub both_ways : (a b : Bool) → (a ≡ true → b ≡ true) → (b ≡ true → a ≡ true) → a ≡ b
both_ways true b f g = sym (f refl)
both_ways false true f g = g refl
both_ways false false f g = refl

-- joined lists
pub elem_left : {A : Type 0} (x : A) (xs ys : List A) → Elem x xs → Elem x (xs ++ ys)
elem_left x [] ys m = absurd m
elem_left x (z ∷ xs) ys (inl e) = inl e
elem_left x (z ∷ xs) ys (inr m) = inr (elem_left x xs ys m)

pub elem_right : {A : Type 0} (x : A) (xs ys : List A) → Elem x ys → Elem x (xs ++ ys)
elem_right x [] ys m = m
elem_right x (z ∷ xs) ys m = inr (elem_right x xs ys m)

pub flat_append : {A B : Type 0} (f : A → List B) (xs ys : List A) → flat_map f (xs ++ ys) ≡ flat_map f xs ++ flat_map f ys
flat_append f [] ys = refl
flat_append {A} {B} f (x ∷ xs) ys = ap (λ (l : List B). f x ++ l) (flat_append f xs ys) ∙ sym (append_assoc (f x) (flat_map f xs) (flat_map f ys))

-- the first ones, and the one after them
pub elem_at : {A : Type 0} (xs : List A) (i : ℕ) (d : A) → i < length xs → Elem (get_or xs i d) xs
elem_at [] i d l = absurd (omega arith)
elem_at (x ∷ xs) zero d l = inl refl
elem_at (x ∷ xs) (suc i) d l = inr (elem_at xs i d (omega arith))

pub place_of : {A : Type 0} (x d : A) (xs : List A) → Elem x xs → (j : ℕ) × (j < length xs) × (get_or xs j d ≡ x)
place_of x d [] m = absurd m
place_of x d (y ∷ ys) (inl e) = (0, omega arith, sym e)
place_of x d (y ∷ ys) (inr m) = let rest = place_of x d ys m in (suc (rest.0), omega (arith, rest.1), rest.2)

pub take_elem : {A : Type 0} (x : A) (j : ℕ) (xs : List A) → Elem x (take j xs) → Elem x xs
take_elem x zero xs m = absurd m
take_elem x (suc j) [] m = absurd m
take_elem x (suc j) (y ∷ ys) (inl e) = inl e
take_elem x (suc j) (y ∷ ys) (inr m) = inr (take_elem x j ys m)

pub drop_elem : {A : Type 0} (x : A) (j : ℕ) (xs : List A) → Elem x (drop j xs) → Elem x xs
drop_elem x zero xs m = m
drop_elem x (suc j) [] m = m
drop_elem x (suc j) (y ∷ ys) m = inr (drop_elem x j ys m)

pub last_or : {A : Type 0} (x d : A) (xs : List A) (i : ℕ) → i < length xs → Elem x (take (i + 1) xs) → Elem x (take i xs) ⊎ (x ≡ get_or xs i d)
last_or x d xs i l m =
    let n : Elem x (take i xs ++ get_or xs i d ∷ []) = rw (take_more xs i d l) at m in
    elim (elem_append x (take i xs) (get_or xs i d ∷ []) n) [
      | inl o ↦ inl o
      | inr o ↦ elim o [ inl e ↦ inr e | inr z ↦ absurd z ]
    ]

pub get_any : {A : Type 0} (xs : List A) (i : ℕ) (d e : A) → i < length xs → get_or xs i d ≡ get_or xs i e
get_any [] i d e l = absurd (omega arith)
get_any (x ∷ xs) zero d e l = refl
get_any (x ∷ xs) (suc i) d e l = get_any xs i d e (omega arith)

pub each_more : (sites : List ℕ) (i : ℕ) (old new : List ℕ) → i < length sites → ((x : ℕ) → Elem x old → Elem x new) → Elem (get_or sites i 0) new
    → ((x : ℕ) → Elem x (take i sites) → Elem x old) → (x : ℕ) → Elem x (take (i + 1) sites) → Elem x new
each_more sites i old new l keep here h x m = elim (last_or x 0 sites i l m) [
  | inl o ↦ keep x (h x o)
  | inr e ↦ let P : ℕ → Type 0 = λ y. Elem y new in subst P (sym e) here
]

-- filters
pub filter_append : (p : ℕ → Bool) (xs ys : List ℕ) → filter p (xs ++ ys) ≡ filter p xs ++ filter p ys
filter_append p [] ys = refl
filter_append p (x ∷ xs) ys = elim (true_or (p x)) [
  | inl e ↦ rw e (ap (λ (l : List ℕ). x ∷ l) (filter_append p xs ys))
  | inr e ↦ rw e (filter_append p xs ys)
]

pub filter_small : (p : ℕ → Bool) (xs : List ℕ) → length (filter p xs) ≤ length xs
filter_small p [] = omega arith
filter_small p (x ∷ xs) = elim (true_or (p x)) [
  | inl e ↦ rw e (let q = filter_small p xs in omega arith)
  | inr e ↦ rw e (let q = filter_small p xs in omega arith)
]

pub filter_less : (p : ℕ → Bool) (xs : List ℕ) (x : ℕ) → Elem x xs → p x ≡ false → length (filter p xs) + 1 ≤ length xs
filter_less p [] x m e = absurd m
filter_less p (y ∷ ys) x (inl h) e = rw (sym (ap p h) ∙ e) (let q = filter_small p ys in omega arith)
filter_less p (y ∷ ys) x (inr h) e = elim (true_or (p y)) [
  | inl f ↦ rw f (let q = filter_less p ys x h e in omega arith)
  | inr f ↦ rw f (let q = filter_less p ys x h e in omega arith)
]

-- lists that ascend, and lists in which no number stands twice
pub ascending_distinct : (xs : List ℕ) → IsAscending xs → AreDistinct xs
ascending_distinct [] a = tt
ascending_distinct (x ∷ xs) a = (λ m. let l = a.0 x m in omega arith, ascending_distinct xs (a.1))

pub ascend_push : (xs : List ℕ) (x : ℕ) → IsAscending xs → ((y : ℕ) → Elem y xs → y < x) → IsAscending (xs ++ x ∷ [])
ascend_push [] x a h = (λ y m. absurd m, tt)
ascend_push (z ∷ zs) x a h = (
  λ y m. elim (elem_append y zs (x ∷ []) m) [
    | inl o ↦ a.0 y o
    | inr o ↦ elim o [ inl e ↦ let l = h z (inl refl) in omega arith | inr n ↦ absurd n ]
  ],
  ascend_push zs x (a.1) (λ y m. h y (inr m)),
)

pub ascending_front : (xs : List ℕ) (i z : ℕ) → IsAscending xs → i < length xs → Elem z xs → z < get_or xs i 0 → Elem z (take i xs)
ascending_front [] i z a l m h = absurd m
ascending_front (x ∷ xs) zero z a l m h = elim m [
  | inl e ↦ absurd (omega arith)
  | inr n ↦ let q = a.0 z n in absurd (omega arith)
]
ascending_front (x ∷ xs) (suc i) z a l m h = elim m [ inl e ↦ inl e | inr n ↦ inr (ascending_front xs i z (a.1) (omega arith) n h) ]

pub distinct_push : (xs : List ℕ) (s : ℕ) → AreDistinct xs → (Elem s xs → ⊥) → AreDistinct (xs ++ s ∷ [])
distinct_push [] s d n = (λ m. m, tt)
distinct_push (x ∷ xs) s d n = (
  λ m. elim (elem_append x xs (s ∷ []) m) [
    | inl h ↦ d.0 h
    | inr h ↦ elim h [ inl e ↦ n (inl (sym e)) | inr o ↦ o ]
  ],
  distinct_push xs s (d.1) (λ m. n (inr m)),
)

-- the numbers below one
pub elem_below : (x n : ℕ) → x < n → Elem x (below n)
elem_below x zero l = absurd (omega arith)
elem_below x (suc n) l = elim (eq_or x n) [
  | inl e ↦ elem_right x (below n) (n ∷ []) (inl e)
  | inr d ↦ elem_left x (below n) (n ∷ []) (elem_below x n (omega arith))
]

pub below_less : (x n : ℕ) → Elem x (below n) → x < n
below_less x zero m = absurd m
below_less x (suc n) m = elim (elem_append x (below n) (n ∷ []) m) [
  | inl o ↦ let l = below_less x n o in omega arith
  | inr o ↦ elim o [ inl e ↦ omega arith | inr z ↦ absurd z ]
]

pub length_below : (n : ℕ) → length (below n) ≡ n
length_below zero = refl
length_below (suc n) = let e = length_below n in grind (arith, common_steps)

pub below_ascends : (n : ℕ) → IsAscending (below n)
below_ascends zero = tt
below_ascends (suc n) = ascend_push (below n) n (below_ascends n) (λ y m. below_less y n m)
