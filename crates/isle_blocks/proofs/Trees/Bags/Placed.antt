-- Ways with the places of the items that they take: each once.
use Rattle.std.proofs.Common.{◌≡◌, ◌≢◌, inl, inr, ℕ, zero, suc, ◌<◌, ◌+◌, List, [], ◌∷◌, ◌++◌, Bool, Some, slice_get, map, refl, ap, sym, subst, Contains, get_or}
use Rattle.std.proofs.Common.{◌∙◌, arith, eq-eqb}
use Rattle.std.specs.List.{AllPairs, AllZip, filter, flat_map}
use Rattle.std.proofs.lemmas.List.{map-append}
use Rattle.std.proofs.lemmas.Option.{same_Some, none-some, slice_get_within, get_or_from_slice_get, slice_get-get_or}
use Rattle.isle_trees.specs.Bag.{Picks, pick, Model, IsAscending, ways}
use Rattle.isle_trees.specs.Rules.{Elem}
use Rattle.isle_trees.proofs.Asking.{elem_append}
use Rattle.isle_trees.proofs.Basics.{true_or, eq_or, from_filter, contains_elem}
use Rattle.isle_trees.proofs.Rounds.{pick_other}

-- what is picked is there
pick_self : {V : Type 0} (h : Picks V) (s : ℕ) (c : V) → pick h s c s ≡ c
pick_self h s c = rw (eq-eqb s s refl) refl

-- no two are one
abbrev pub AreApart : {A : Type 0} → (A → A → Type 0) → List A → Type 0
AreApart S [] = Unit {0}
AreApart {A} S (x ∷ xs) = ((y : A) → Elem y xs → S x y → ⊥) × AreApart S xs

-- with places, from one on
abbrev pub each_place : {A B : Type 0} → (ℕ → A → List B) → ℕ → List A → List B
each_place f k [] = []
each_place f k (x ∷ xs) = f k x ++ each_place f (suc k) xs

-- each way to take one item of each of these multi calls, and the items' places
abbrev pub placed : {V : Type 0} → Model V → List ℕ → Picks V → Picks ℕ → List (Picks V × Picks ℕ)
placed M [] h q = (h, q) ∷ []
placed M (s ∷ ss) h q = each_place (λ k c. placed M ss (pick h s c) (pick q s k)) 0 (M.many h s)

-- what stands first in two lists, or last, stands in both
pub in_first : {A : Type 0} (x : A) (xs ys : List A) → Elem x xs → Elem x (xs ++ ys)
in_first x [] ys m = absurd m
in_first x (y ∷ xs) ys (inl e) = inl e
in_first x (y ∷ xs) ys (inr m) = inr (in_first x xs ys m)

pub in_last : {A : Type 0} (x : A) (xs ys : List A) → Elem x ys → Elem x (xs ++ ys)
in_last x [] ys m = m
in_last x (y ∷ xs) ys m = inr (in_last x xs ys m)

-- what stands in one of the lists that are joined
pub in_flat : {A B : Type 0} (g : A → List B) (x : A) (y : B) (xs : List A) → Elem x xs → Elem y (g x) → Elem y (flat_map g xs)
in_flat g x y [] m n = absurd m
in_flat g x y (z ∷ xs) (inl e) n = in_first y (g z) (flat_map g xs) (subst (λ (w : _). Elem y (g w)) e n)
in_flat g x y (z ∷ xs) (inr m) n = in_last y (g z) (flat_map g xs) (in_flat g x y xs m n)

-- what is of an item
pub in_map : {A B : Type 0} (f : A → B) (x : A) (xs : List A) → Elem x xs → Elem (f x) (map f xs)
in_map f x [] m = absurd m
in_map f x (y ∷ xs) (inl e) = inl (ap f e)
in_map f x (y ∷ xs) (inr m) = inr (in_map f x xs m)

pub from_map : {A B : Type 0} (f : A → B) (y : B) (xs : List A) → Elem y (map f xs) → (x : A) × Elem x xs × (y ≡ f x)
from_map f y [] m = absurd m
from_map f y (x ∷ xs) (inl e) = (x, inl refl, e)
from_map f y (x ∷ xs) (inr m) = let (z, i, e) = from_map f y xs m in (z, inr i, e)

-- items side by side
pub zip_map : {A B C : Type 0} (R : B → C → Type 0) (f : A → B) (g : A → C) (xs : List A) → ((x : A) → Elem x xs → R (f x) (g x))
    → AllZip R (map f xs) (map g xs)
zip_map R f g [] h = tt
zip_map R f g (x ∷ xs) h = (h x (inl refl), zip_map R f g xs (λ y m. h y (inr m)))

-- Of two lists no two are one where this is so in both, and across.
pub apart_append : {A : Type 0} (S : A → A → Type 0) (xs ys : List A) → AreApart S xs → AreApart S ys
    → ((x y : A) → Elem x xs → Elem y ys → S x y → ⊥) → AreApart S (xs ++ ys)
apart_append S [] ys h k f = k
apart_append S (x ∷ xs) ys h k f = (
  λ y m s. elim (elem_append y xs ys m) [ inl i ↦ h.0 y i s | inr i ↦ f x y (inl refl) i s ],
  apart_append S xs ys (h.1) k (λ z y m n. f z y (inr m) n),
)

pub apart_flat : {B : Type 0} (S : B → B → Type 0) (g : ℕ → List B) (xs : List ℕ) → IsAscending xs → ((x : ℕ) → Elem x xs → AreApart S (g x))
    → ((x y : ℕ) (a b : B) → x < y → Elem x xs → Elem y xs → Elem a (g x) → Elem b (g y) → S a b → ⊥) → AreApart S (flat_map g xs)
apart_flat S g [] up h f = tt
apart_flat S g (x ∷ xs) up h f =
    apart_append S (g x) (flat_map g xs) (h x (inl refl))
    (apart_flat S g xs (up.1) (λ y m. h y (inr m)) (λ y z a b l m n. f y z a b l (inr m) (inr n)))
    (λ a b i j s. let (y, m, k) = from_flat g b xs j in f x y a b (up.0 y m) (inl refl) (inr m) i k s)
  where
    from_flat : {A B : Type 0} (g : A → List B) (y : B) (xs : List A) → Elem y (flat_map g xs) → (x : A) × Elem x xs × Elem y (g x)
    from_flat g y [] m = absurd m
    from_flat g y (x ∷ xs) m = elim (elem_append y (g x) (flat_map g xs) m) [
      | inl h ↦ (x, inl refl, h)
      | inr h ↦ let r = from_flat g y xs h in (r.0, inr (r.1), r.2)
    ]

pub apart_map : {A B : Type 0} (S : B → B → Type 0) (T : A → A → Type 0) (f : A → B) (xs : List A)
    → ((x y : A) → Elem x xs → Elem y xs → S (f x) (f y) → T x y) → AreApart T xs → AreApart S (map f xs)
apart_map S T f [] h k = tt
apart_map S T f (x ∷ xs) h k = (
  λ y m s. let (z, i, e) = from_map f y xs m in k.0 z i (h x z (inl refl) (inr i) (subst (S (f x)) e s)),
  apart_map S T f xs (λ a b m n. h a b (inr m) (inr n)) (k.1),
)

pub apart_filter : {A : Type 0} (S : A → A → Type 0) (p : A → Bool) (xs : List A) → AreApart S xs → AreApart S (filter p xs)
apart_filter S p [] h = tt
apart_filter S p (x ∷ xs) h = elim (true_or (p x)) [
  | inl e ↦ rw e ((λ y m. h.0 y ((from_filter p xs y m).0)), apart_filter S p xs (h.1))
  | inr e ↦ rw e (apart_filter S p xs (h.1))
]

-- what stands among those of places is of an item at its place
from_places : {A B : Type 0} (f : ℕ → A → List B) (y : B) (k : ℕ) (xs : List A) → Elem y (each_place f k xs)
    → (m : ℕ) × (j : ℕ) × (x : A) × (m ≡ k + j) × (slice_get xs j ≡ Some x) × Elem y (f m x)
from_places f y k [] h = absurd h
from_places f y k (x ∷ xs) h = elim (elem_append y (f k x) (each_place f (suc k) xs) h) [
  | inl i ↦ (k, 0, x, (let q : k ≡ k + 0 = omega arith in q), refl, i)
  | inr i ↦ let (m, j, z, e, at, n) = from_places f y (suc k) xs i in (m, suc j, z, (let q : suc k + j ≡ k + suc j = omega arith in e ∙ q), at, n)
]

to_places : {A B : Type 0} (f : ℕ → A → List B) (y : B) (k j m : ℕ) (x : A) (xs : List A) → slice_get xs j ≡ Some x → m ≡ k + j → Elem y (f m x)
    → Elem y (each_place f k xs)
to_places f y k j m x [] at e n = absurd (none-some x at)
to_places f y k zero m x (z ∷ xs) at e n =
    let q : m ≡ k = omega arith in
    in_first y (f k z) (each_place f (suc k) xs)
    (subst (λ (w : ℕ). Elem y (f w z)) q (subst (λ (w : _). Elem y (f m w)) (sym (same_Some z x at)) n))
to_places f y k (suc j) m x (z ∷ xs) at e n =
    in_last y (f k z) (each_place f (suc k) xs) (to_places f y (suc k) j m x xs at (let q : k + suc j ≡ suc k + j = omega arith in e ∙ q) n)

apart_places : {A B : Type 0} (S : B → B → Type 0) (f : ℕ → A → List B) (k : ℕ) (xs : List A) → ((m : ℕ) (x : A) → AreApart S (f m x))
    → ((m n : ℕ) (x y : A) (a b : B) → m < n → Elem a (f m x) → Elem b (f n y) → S a b → ⊥) → AreApart S (each_place f k xs)
apart_places S f k [] h g = tt
apart_places S f k (x ∷ xs) h g =
    apart_append S (f k x) (each_place f (suc k) xs) (h k x) (apart_places S f (suc k) xs h g)
    (λ a b i j s. let (m, l, y, e, at, n) = from_places f b (suc k) xs j in let q : k < m = omega arith in g k m x y a b q i n s)

-- those of places, without them
map_places : {A B C : Type 0} (g : B → C) (f : ℕ → A → List B) (e : A → List C) (k : ℕ) (xs : List A) → ((m : ℕ) (x : A) → map g (f m x) ≡ e x)
    → map g (each_place f k xs) ≡ flat_map e xs
map_places g f e k [] h = refl
map_places g f e k (x ∷ xs) h =
    map-append g (f k x) (each_place f (suc k) xs) ∙ ap (λ l. l ++ map g (each_place f (suc k) xs)) (h k x)
    ∙ ap (λ l. e x ++ l) (map_places g f e (suc k) xs h)

-- Without the places these are the ways.
pub placed_ways : {V : Type 0} (M : Model V) (ss : List ℕ) (h : Picks V) (q : Picks ℕ)
    → map (λ (x : Picks V × Picks ℕ). x.0) (placed M ss h q) ≡ ways M ss h
placed_ways M [] h q = refl
placed_ways {V} M (s ∷ ss) h q =
    map_places (λ (x : Picks V × Picks ℕ). x.0) (λ k c. placed M ss (pick h s c) (pick q s k)) (λ c. ways M ss (pick h s c)) 0 (M.many h s)
    (λ k c. placed_ways M ss (pick h s c) (pick q s k))

-- Nothing else is changed.
pub placed_kept : {V : Type 0} (M : Model V) (ss : List ℕ) (h : Picks V) (q : Picks ℕ) (x : Picks V × Picks ℕ) (u : ℕ) → (Elem u ss → ⊥)
    → Elem x (placed M ss h q) → (h u ≡ x.0 u) × (q u ≡ x.1 u)
placed_kept {V} M [] h q x u n (inl e) = (ap (λ (z : Picks V × Picks ℕ). z.0 u) (sym e), ap (λ (z : Picks V × Picks ℕ). z.1 u) (sym e))
placed_kept M [] h q x u n (inr m) = absurd m
placed_kept M (s ∷ ss) h q x u n m =
    let (k, j, c, e, at, i) = from_places (λ k c. placed M ss (pick h s c) (pick q s k)) x 0 (M.many h s) m in
    let (a, b) = placed_kept M ss (pick h s c) (pick q s k) x u (λ z. n (inr z)) i in
    let other : u ≢ s = λ z. n (inl z) in
    (sym (pick_other h s u c other) ∙ a, sym (pick_other q s u k other) ∙ b)

-- a lesser number isn't among those that ascend
not_among : (s : ℕ) (ss : List ℕ) → ((y : ℕ) → Elem y ss → s < y) → Elem s ss → ⊥
not_among s ss up m = let l = up s m in omega arith

-- two agree on the places of these
abbrev pub Agree : {V : Type 0} → List ℕ → Picks V × Picks ℕ → Picks V × Picks ℕ → Type 0
Agree ss x y = (s : ℕ) → Elem s ss → x.1 s ≡ y.1 s

-- No two agree.
pub placed_apart : {V : Type 0} (M : Model V) (ss : List ℕ) (h : Picks V) (q : Picks ℕ) → IsAscending ss → AreApart (Agree ss) (placed M ss h q)
placed_apart M [] h q up = ((λ y m a. m), tt)
placed_apart {V} M (s ∷ ss) h q up =
    apart_places (Agree (s ∷ ss)) (λ k c. placed M ss (pick h s c) (pick q s k)) 0 (M.many h s)
    (λ k c. weaker (placed M ss (pick h s c) (pick q s k)) (placed_apart M ss (pick h s c) (pick q s k) (up.1)))
    (λ k l b c x y lt m n a.
    let first = (placed_kept M ss (pick h s b) (pick q s k) x s (not_among s ss (up.0)) m).1 in
    let second = (placed_kept M ss (pick h s c) (pick q s l) y s (not_among s ss (up.0)) n).1 in
    let same : k ≡ l = sym (pick_self q s k) ∙ first ∙ a s (inl refl) ∙ sym second ∙ pick_self q s l in omega arith)
  where
    weaker : (xs : List (Picks V × Picks ℕ)) → AreApart (Agree ss) xs → AreApart (Agree (s ∷ ss)) xs
    weaker [] h = tt
    weaker (x ∷ xs) h = ((λ y m a. h.0 y m (λ u n. a u (inr n))), weaker xs (h.1))

module _ {V : Type 0} (M : Model V) (below : (h g : Picks V) (s : ℕ) → ((u : ℕ) → u < s → h u ≡ g u) → M.many h s ≡ M.many g s) where
  -- Each takes of each multi call the item at its place.
  pub placed_items : (ss : List ℕ) (h : Picks V) (q : Picks ℕ) (x : Picks V × Picks ℕ) → IsAscending ss → Elem x (placed M ss h q) → (s : ℕ)
      → Elem s ss → slice_get (M.many (x.0) s) (x.1 s) ≡ Some (x.0 s)
  placed_items [] h q x up m s n = absurd n
  placed_items (t ∷ ss) h q x up m s n =
      let (k, j, c, e, at, i) = from_places (λ k c. placed M ss (pick h t c) (pick q t k)) x 0 (M.many h t) m in
      elim n [
        | inr later ↦ placed_items ss (pick h t c) (pick q t k) x (up.1) i s later
        | inl same ↦
            let kept = placed_kept M ss (pick h t c) (pick q t k) x t (not_among t ss (up.0)) i in
            let list : M.many h t ≡ M.many (x.0) t =
            below h (x.0) t (λ u l.
            let apart : (v : ℕ) → Elem v ss → t < v = up.0 in
            sym (pick_other h t u c (λ z. omega arith))
            ∙ (placed_kept M ss (pick h t c) (pick q t k) x u (λ w. let b : t < u = apart u w in omega arith) i).0) in
            let place : j ≡ x.1 t = (let z : j ≡ k = omega arith in z) ∙ sym (pick_self q t k) ∙ kept.1 in
            let item : c ≡ x.0 t = sym (pick_self h t c) ∙ kept.0 in
            subst (λ (z : ℕ). slice_get (M.many (x.0) z) (x.1 z) ≡ Some (x.0 z)) (sym same)
            (ap (slice_get (M.many (x.0) t)) (sym place) ∙ ap (λ (l : List V). slice_get l j) (sym list) ∙ at ∙ ap Some item)
      ]

  -- Whatever takes items at places is one of them.
  pub placed_full : (ss : List ℕ) (h g : Picks V) (q r : Picks ℕ) → IsAscending ss → ((u : ℕ) → (Elem u ss → ⊥) → h u ≡ g u)
      → ((s : ℕ) → Elem s ss → slice_get (M.many g s) (r s) ≡ Some (g s))
      → (x : Picks V × Picks ℕ) × Elem x (placed M ss h q) × ((s : ℕ) → Elem s ss → r s ≡ x.1 s) × ((u : ℕ) → x.0 u ≡ g u)
  placed_full [] h g q r up same items = ((h, q), inl refl, (λ s m. absurd m), λ u. same u (λ m. m))
  placed_full (s ∷ ss) h g q r up same items =
      let list : M.many h s ≡ M.many g s =
      below h g s (λ u l. same u (λ m. elim m [ inl e ↦ omega arith | inr n ↦ (let b : s < u = up.0 u n in omega arith) ])) in
      let (x, i, places, all) = placed_full ss (pick h s (g s)) g (pick q s (r s)) r (up.1)
      (λ u n. elim (eq_or u s) [
        | inl e ↦ subst (λ (z : ℕ). pick h s (g s) z ≡ g z) (sym e) (pick_self h s (g s))
        | inr d ↦ pick_other h s u (g s) d ∙ same u (λ m. elim m [ inl e ↦ d e | inr k ↦ n k ])
      ]) (λ t m. items t (inr m)) in
      let kept = placed_kept M ss (pick h s (g s)) (pick q s (r s)) x s (not_among s ss (up.0)) i in
      let mine : r s ≡ x.1 s = sym (pick_self q s (r s)) ∙ kept.1 in (
        x,
        to_places (λ k c. placed M ss (pick h s c) (pick q s k)) x 0 (r s) (r s) (g s) (M.many h s)
            (ap (λ (l : List V). slice_get l (r s)) list ∙ items s (inl refl)) (let z : r s ≡ 0 + r s = omega arith in z) i,
        λ t m. elim m [
          | inl e ↦ subst (λ (z : ℕ). r z ≡ x.1 z) (sym e) mine
          | inr n ↦ places t n
        ],
        all,
      )

-- what is at a place stands in the list
stands_at : {X : Type 0} (xs : List X) (k : ℕ) (x : X) → slice_get xs k ≡ Some x → Contains xs x
stands_at xs k x e = (k, slice_get_within xs k x e, get_or_from_slice_get xs k x x e)

-- Of those of which no two are one, each two are apart.
pub apart_pairs : {A : Type 0} (S : A → A → Type 0) (xs : List A) → AreApart S xs → AllPairs (λ x y. S x y → ⊥) xs
apart_pairs S [] h i j d l m = absurd (omega arith)
apart_pairs S (x ∷ xs) h zero zero d l m = absurd (omega arith)
apart_pairs S (x ∷ xs) h zero (suc j) d l m =
    h.0 (get_or xs j d) (contains_elem (get_or xs j d) xs (stands_at xs j (get_or xs j d) (slice_get-get_or xs j d (omega arith))))
apart_pairs S (x ∷ xs) h (suc i) zero d l m = absurd (omega arith)
apart_pairs S (x ∷ xs) h (suc i) (suc j) d l m = apart_pairs S xs (h.1) i j d (omega arith) (omega arith)
