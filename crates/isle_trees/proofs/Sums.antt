-- Sums over lists, and lists that ascend.
use Rattle.std.proofs.Common.{◌≡◌, inl, inr, ℕ, ◌+◌, ◌<◌, ◌==◌, not, List, [], ◌∷◌, Bool, true, false, refl, sym, ◌∙◌, ap, arith, map, eqb-true, eq-eqb, sum_by}
use Rattle.std.specs.List.{filter, flat_map}
use Rattle.std.specs.Prelude.{if◌then◌else◌}
use Rattle.std.proofs.lemmas.List.Sums.{sum_by-cons, sum_by-append}
use Rattle.isle_trees.specs.Bag.{IsAscending}
use Rattle.isle_trees.specs.Builds.{without}
use Rattle.isle_trees.specs.Rules.{Elem}
use Rattle.isle_trees.proofs.Asking.{elem_append}
use Rattle.isle_trees.proofs.Basics.{true_or, from_filter}

pub sum_same : {A : Type 0} (f g : A → ℕ) (xs : List A) → ((x : A) → Elem x xs → f x ≡ g x) → sum_by f xs ≡ sum_by g xs
sum_same f g [] h = refl
sum_same f g (x ∷ xs) h = let p = h x (inl refl) in let q = sum_same f g xs (λ y m. h y (inr m)) in
    omega (arith, sum_by-cons f x xs, sum_by-cons g x xs)

pub sum_zero : {A : Type 0} (f : A → ℕ) (xs : List A) → ((x : A) → Elem x xs → f x ≡ 0) → sum_by f xs ≡ 0
sum_zero f [] h = refl
sum_zero f (x ∷ xs) h = let p = h x (inl refl) in let q = sum_zero f xs (λ y m. h y (inr m)) in omega (arith, sum_by-cons f x xs)

pub sum_flat : {A B : Type 0} (f : B → ℕ) (g : A → List B) (xs : List A) → sum_by f (flat_map g xs) ≡ sum_by (λ x. sum_by f (g x)) xs
sum_flat f g [] = refl
sum_flat f g (x ∷ xs) =
    let q = sum_flat f g xs in
    omega (arith, sum_by-append f (g x) (flat_map g xs), sum_by-cons (λ x. sum_by f (g x)) x xs)

pub sum_map : {A B : Type 0} (f : B → ℕ) (g : A → B) (xs : List A) → sum_by f (map g xs) ≡ sum_by (λ x. f (g x)) xs
sum_map f g [] = refl
sum_map f g (x ∷ xs) = let q = sum_map f g xs in omega (arith, sum_by-cons f (g x) (map g xs), sum_by-cons (λ x. f (g x)) x xs)

filter_true : {A : Type 0} (p : A → Bool) (x : A) (xs : List A) → p x ≡ true → filter p (x ∷ xs) ≡ x ∷ filter p xs
filter_true p x xs e = rw e refl

filter_false : {A : Type 0} (p : A → Bool) (x : A) (xs : List A) → p x ≡ false → filter p (x ∷ xs) ≡ filter p xs
filter_false p x xs e = rw e refl

if_true : (b : Bool) (n : ℕ) → b ≡ true → (if b then n else 0) ≡ n
if_true b n e = rw e refl

if_false : (b : Bool) (n : ℕ) → b ≡ false → (if b then n else 0) ≡ 0
if_false b n e = rw e refl

add_none : (n : ℕ) → 0 + n ≡ n
add_none n = omega arith

pub sum_filter : {A : Type 0} (f : A → ℕ) (p : A → Bool) (xs : List A) → sum_by f (filter p xs) ≡ sum_by (λ x. if p x then f x else 0) xs
sum_filter f p [] = refl
sum_filter f p (x ∷ xs) =
    let q = sum_filter f p xs in
    let c = sum_by-cons (λ x. if p x then f x else 0) x xs in
    elim (true_or (p x)) [
      | inl e ↦ ap (sum_by f) (filter_true p x xs e) ∙ sum_by-cons f x (filter p xs) ∙ ap (λ (n : ℕ). f x + n) q ∙ ap
          (λ (n : ℕ). n + sum_by (λ x. if p x then f x else 0) xs) (sym (if_true (p x) (f x) e)) ∙ sym c
      | inr e ↦ ap (sum_by f) (filter_false p x xs e) ∙ q ∙ sym
          (c ∙ ap (λ (n : ℕ). n + sum_by (λ x. if p x then f x else 0) xs) (if_false (p x) (f x) e) ∙ add_none _)
    ]

sum_plus : {A : Type 0} (f g : A → ℕ) (xs : List A) → sum_by (λ x. f x + g x) xs ≡ sum_by f xs + sum_by g xs
sum_plus f g [] = refl
sum_plus f g (x ∷ xs) = let q = sum_plus f g xs in omega (arith, sum_by-cons (λ x. f x + g x) x xs, sum_by-cons f x xs, sum_by-cons g x xs)

pub sum_swap : {A B : Type 0} (f : A → B → ℕ) (xs : List A) (ys : List B) → sum_by (λ a. sum_by (f a) ys) xs ≡ sum_by (λ b. sum_by (λ a. f a b) xs) ys
sum_swap f [] ys = sym (sum_zero (λ b. 0) ys (λ b m. refl))
sum_swap f (x ∷ xs) ys =
    let q = sum_swap f xs ys in
    let p : sum_by (λ b. sum_by (λ a. f a b) (x ∷ xs)) ys ≡ sum_by (λ b. f x b + sum_by (λ a. f a b) xs) ys =
    sum_same _ _ ys (λ b m. sum_by-cons (λ a. f a b) x xs) in
    let r = sum_plus (f x) (λ b. sum_by (λ a. f a b) xs) ys in
    sum_by-cons (λ a. sum_by (f a) ys) x xs ∙ ap (λ (n : ℕ). sum_by (f x) ys + n) q ∙ sym r ∙ sym p

-- members of a joined list
pub elem_flat : {A B : Type 0} (g : A → List B) (y : B) (xs : List A) → Elem y (flat_map g xs) → (x : A) × Elem x xs × Elem y (g x)
elem_flat g y [] m = absurd m
elem_flat g y (x ∷ xs) m = elim (elem_append y (g x) (flat_map g xs) m) [
  | inl h ↦ (x, inl refl, h)
  | inr h ↦ let r = elem_flat g y xs h in (r.0, inr (r.1), r.2)
]

pub filter_same : (p q : ℕ → Bool) (xs : List ℕ) → ((x : ℕ) → Elem x xs → p x ≡ q x) → filter p xs ≡ filter q xs
filter_same p q [] h = refl
filter_same p q (x ∷ xs) h = elim (true_or (q x)) [
  | inl e ↦ rw (h x (inl refl), e) (ap (λ (l : List ℕ). x ∷ l) (filter_same p q xs (λ y m. h y (inr m))))
  | inr e ↦ rw (h x (inl refl), e) (filter_same p q xs (λ y m. h y (inr m)))
]

pub filter_all : (p : ℕ → Bool) (xs : List ℕ) → ((x : ℕ) → Elem x xs → p x ≡ true) → filter p xs ≡ xs
filter_all p [] h = refl
filter_all p (x ∷ xs) h = rw (h x (inl refl)) (ap (λ (l : List ℕ). x ∷ l) (filter_all p xs (λ y m. h y (inr m))))

pub filter_none : (p : ℕ → Bool) (xs : List ℕ) → ((x : ℕ) → Elem x xs → p x ≡ false) → filter p xs ≡ []
filter_none p [] h = refl
filter_none p (x ∷ xs) h = rw (h x (inl refl)) (filter_none p xs (λ y m. h y (inr m)))

pub filter_twice : (p q r : ℕ → Bool) (xs : List ℕ) → ((x : ℕ) → Elem x xs → r x ≡ (if q x then p x else false))
    → filter p (filter q xs) ≡ filter r xs
filter_twice p q r [] h = refl
filter_twice p q r (x ∷ xs) h =
    let rest = filter_twice p q r xs (λ y m. h y (inr m)) in
    elim (true_or (q x)) [
      | inl e ↦ elim (true_or (p x)) [
        | inl f ↦ let g : r x ≡ true = h x (inl refl) ∙ rw (e, f) refl in rw (e, f, g) (ap (λ (l : List ℕ). x ∷ l) rest)
        | inr f ↦ let g : r x ≡ false = h x (inl refl) ∙ rw (e, f) refl in rw (e, f, g) rest
      ]
      | inr e ↦ let g : r x ≡ false = h x (inl refl) ∙ rw e refl in rw (e, g) rest
    ]

pub ascending_filter : (p : ℕ → Bool) (xs : List ℕ) → IsAscending xs → IsAscending (filter p xs)
ascending_filter p [] a = tt
ascending_filter p (x ∷ xs) a = elim (true_or (p x)) [
  | inl e ↦ rw e ((λ y m. a.0 y ((from_filter p xs y m).0)), ascending_filter p xs (a.1))
  | inr e ↦ rw e (ascending_filter p xs (a.1))
]

-- a member that stands once
pub without_all : (i : ℕ) (xs : List ℕ) → ((y : ℕ) → Elem y xs → i < y) → without i xs ≡ xs
without_all i xs h = filter_all (λ j. not (j == i)) xs (λ x m. let l = h x m in
    elim (true_or (x == i)) [ inl e ↦ let p : x ≡ i = eqb-true x i e in absurd (omega arith) | inr e ↦ ap not e ])

pub sum_without : (f : ℕ → ℕ) (i : ℕ) (xs : List ℕ) → IsAscending xs → Elem i xs → sum_by f xs ≡ f i + sum_by f (without i xs)
sum_without f i [] a m = absurd m
sum_without f i (x ∷ xs) a (inl e) =
    let g : without i (x ∷ xs) ≡ xs = rw (sym e, eq-eqb i i refl) (without_all i xs (λ y m. rw e (a.0 y m))) in
    sum_by-cons f x xs ∙ rw (g, e) refl
sum_without f i (x ∷ xs) a (inr m) =
    let l : x < i = a.0 i m in
    let n : (x == i) ≡ false = elim (true_or (x == i)) [ inl e ↦ let p : x ≡ i = eqb-true x i e in absurd (omega arith) | inr e ↦ e ] in
    let g : without i (x ∷ xs) ≡ x ∷ without i xs = rw n refl in
    let ih = sum_without f i xs (a.1) m in
    rw g (omega (arith, sum_by-cons f x xs, sum_by-cons f x (without i xs), ih))
