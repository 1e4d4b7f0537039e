-- Lists in which nothing stands twice, and how many they are.
use Rattle.std.proofs.Common.{◌≡◌, ◌≢◌, ◌+◌, ◌≤◌, ◌⊎◌, ℕ, zero, suc, List, [], ◌∷◌, ◌++◌, length, get_or, refl, sym, ap, subst, ◌∙◌, inl, inr, Some, slice_get, Contains, arith}
use Rattle.std.specs.List.{AllPairs}
use Rattle.std.proofs.lemmas.Bool.{cases_eq, cases_lt, eqb-true}
use Rattle.std.proofs.lemmas.Bool.Decides.{Decides-eqb}
use Rattle.std.proofs.lemmas.Map.Made.{IsDistinct-from_AllPairs}
use Rattle.std.proofs.lemmas.Map.Steps.{length-le_from_distinct_below}
use Rattle.std.proofs.lemmas.Map.Views.{Contains-from_any}
use Rattle.std.proofs.lemmas.Option.{slice_get_within, get_or_from_slice_get, slice_get-get_or}
use Rattle.isle_meaning.specs.Sites.{Site}
use Rattle.isle_meaning.specs.Faults.{AreSoMany}

-- nothing stands at two places
abbrev pub Once : {X : Type 0} → List X → Type 0
Once {X} xs = (i j : ℕ) (x : X) → slice_get xs i ≡ Some x → slice_get xs j ≡ Some x → i ≡ j

pub place_of : {X : Type 0} (xs : List X) (x : X) → Contains xs x → (k : ℕ) × (slice_get xs k ≡ Some x)
place_of xs x (k, within, is) = (k, slice_get-get_or xs k x within ∙ ap Some is)

pub stands_at : {X : Type 0} (xs : List X) (k : ℕ) (x : X) → slice_get xs k ≡ Some x → Contains xs x
stands_at xs k x e = (k, slice_get_within xs k x e, get_or_from_slice_get xs k x x e)

-- for each item of the first list one of the second, related to it
pub record Picked {X Y : Type 0} (R : X → Y → Type 0) (xs : List X) (ys : List Y) : Type 0 where
  pub as_many : length ys ≡ length xs
  pub at : (i : ℕ) (y : Y) → slice_get ys i ≡ Some y → (x : X) × (slice_get xs i ≡ Some x) × R x y
  pub has : (i : ℕ) (x : X) → slice_get xs i ≡ Some x → (y : Y) × (slice_get ys i ≡ Some y) × R x y

module _ {X Y : Type 0} (R : X → Y → Type 0) where
  more_at : (x : X) (xs : List X) (y : Y) (ys : List Y) → R x y → Picked R xs ys → (i : ℕ) (z : Y) → slice_get (y ∷ ys) i ≡ Some z
      → (w : X) × (slice_get (x ∷ xs) i ≡ Some w) × R w z
  more_at x xs y ys r p zero z e = let same : y ≡ z = cc in (x, refl, subst (R x) same r)
  more_at x xs y ys r p (suc i) z e = p.at i z e

  more_has : (x : X) (xs : List X) (y : Y) (ys : List Y) → R x y → Picked R xs ys → (i : ℕ) (w : X) → slice_get (x ∷ xs) i ≡ Some w
      → (z : Y) × (slice_get (y ∷ ys) i ≡ Some z) × R w z
  more_has x xs y ys r p zero w e = let same : x ≡ w = cc in (y, refl, subst (λ v. R v y) same r)
  more_has x xs y ys r p (suc i) w e = p.has i w e

  pub pick : (xs : List X) → ((i : ℕ) (x : X) → slice_get xs i ≡ Some x → (y : Y) × R x y) → (ys : List Y) × Picked R xs ys
  pick [] f = ([], record { as_many = refl; at = λ i y e. absurd cc; has = λ i x e. absurd cc })
  pick (x ∷ xs) f =
      let (y, r) = f 0 x refl in
      let (ys, p) = pick xs (λ i. f (suc i)) in
      (y ∷ ys, record { as_many = ap suc p.as_many; at = more_at x xs y ys r p; has = more_has x xs y ys r p })

  -- nothing stands twice, where related items are one
  pub picked_once : (xs : List X) (ys : List Y) → Picked R xs ys → Once xs → ((x w : X) (y : Y) → R x y → R w y → x ≡ w) → Once ys
  picked_once xs ys p once one i j y e f =
      let (x, at, r) = p.at i y e in
      let (w, there, q) = p.at j y f in
      once i j x at (there ∙ ap Some (one w x y q r))

pub pairs_once : {X : Type 0} (xs : List X) → AllPairs (λ x y. x ≢ y) xs → Once xs
pairs_once xs apart i j x e f = elim (cases_lt i j) [
  | inl lt ↦ absurd (apart i j x lt (slice_get_within xs j x f) (get_or_from_slice_get xs i x x e ∙ sym (get_or_from_slice_get xs j x x f)))
  | inr ge ↦ elim (cases_eq i j) [
    | inl same ↦ same
    | inr other ↦ absurd (apart j i x (omega arith) (slice_get_within xs i x e)
        (get_or_from_slice_get xs j x x f ∙ sym (get_or_from_slice_get xs i x x e)))
  ]
]

pub once_pairs : {X : Type 0} (xs : List X) → Once xs → AllPairs (λ x y. x ≢ y) xs
once_pairs xs once i j d lt within e =
    let same : i ≡ j = once i j (get_or xs j d) (slice_get-get_or xs i d (omega arith) ∙ ap Some e) (slice_get-get_or xs j d within) in omega arith

-- a list in which nothing stands twice is no longer than one that has all its items
pub no_more : {X : Type 0} (xs ys : List X) → Once xs → ((x : X) → Contains xs x → Contains ys x) → length xs ≤ length ys
no_more {X} xs ys once within =
    let R = λ (x : X) (k : ℕ). slice_get ys k ≡ Some x in
    let (ks, p) = pick R xs (λ i x e. place_of ys x (within x (stands_at xs i x e))) in
    let apart : Once ks = picked_once R xs ks p once (λ x w k e f. let same : x ≡ w = cc in same) in
    let below = length-le_from_distinct_below ks (length ys) (IsDistinct-from_AllPairs Decides-eqb ks (once_pairs ks apart)) (λ q h.
    let (i, at) = place_of ks q (Contains-from_any eqb-true q ks h) in
    let (x, _, stands) = p.at i q at in
    slice_get_within ys q x stands) in
    let as_many = p.as_many in omega arith

-- so many of a kind are not more than so many
module _ (P : Site → Type 0) where
  not_more : (n m : ℕ) → AreSoMany P n → AreSoMany P m → n ≤ m
  not_more n m a b =
      let le = no_more a.sites b.sites a.once (λ s h. (b.all s).0 ((a.all s).1 h)) in
      let first = a.number in let second = b.number in omega arith

  pub one_number : (n m : ℕ) → AreSoMany P n → AreSoMany P m → n ≡ m
  one_number n m a b = let le = not_more n m a b in let ge = not_more m n b a in omega arith

  -- items that stand for one site each, and for all of a kind, are as many
  pub counted : {X : Type 0} (R : X → Site → Type 0) (xs : List X) → Once xs → ((x w : X) (s : Site) → R x s → R w s → x ≡ w)
      → ((x : X) (s u : Site) → R x s → R x u → s ≡ u) → ((x : X) → Contains xs x → (s : Site) × R x s × P s)
      → ((s : Site) → P s → (x : X) × Contains xs x × R x s) → AreSoMany P (length xs)
  counted {X} R xs once one alike each all =
      let (sites, p) = pick (λ x s. R x s × P s) xs (λ i x e. let (s, r, h) = each x (stands_at xs i x e) in (s, (r, h))) in
      record {
        sites = sites;
        number = p.as_many;
        once = picked_once (λ x s. R x s × P s) xs sites p once (λ x w s a b. one x w s a.0 b.0);
        all = λ s. (
          λ h.
              let (x, within, r) = all s h in
              let (i, at) = place_of xs x within in
              let (u, there, q) = p.has i x at in
              subst (Contains sites) (alike x u s q.0 r) (stands_at sites i u there),
          λ within.
              let (i, at) = place_of sites s within in
              let (x, _, q) = p.at i s at in q.1,
        );
      }

-- where items of two lists in turn stand
module _ {X : Type 0} where
  at_either : (xs ys : List X) (i : ℕ) (x : X) → slice_get (xs ++ ys) i ≡ Some x
      → (slice_get xs i ≡ Some x) ⊎ ((j : ℕ) × (i ≡ length xs + j) × (slice_get ys j ≡ Some x))
  at_either [] ys i x e = inr (i, omega arith, e)
  at_either (y ∷ xs) ys zero x e = inl e
  at_either (y ∷ xs) ys (suc i) x e = elim (at_either xs ys i x e) [
    | inl h ↦ inl h
    | inr h ↦ let (j, is, at) = h in inr (j, omega arith, at)
  ]

  pub once_both : (xs ys : List X) → Once xs → Once ys → ((x : X) → Contains xs x → Contains ys x → ⊥) → Once (xs ++ ys)
  once_both xs ys left right apart i j x e f = elim (at_either xs ys i x e) [
    | inl p ↦ elim (at_either xs ys j x f) [
      | inl q ↦ left i j x p q
      | inr q ↦ let (l, is, at) = q in absurd (apart x (stands_at xs i x p) (stands_at ys l x at))
    ]
    | inr p ↦ let (k, was, there) = p in elim (at_either xs ys j x f) [
      | inl q ↦ absurd (apart x (stands_at xs j x q) (stands_at ys k x there))
      | inr q ↦ let (l, is, at) = q in let same = right k l x there at in omega arith
    ]
  ]

  at_left : (xs ys : List X) (i : ℕ) (x : X) → slice_get xs i ≡ Some x → slice_get (xs ++ ys) i ≡ Some x
  at_left [] ys i x e = absurd cc
  at_left (y ∷ xs) ys zero x e = e
  at_left (y ∷ xs) ys (suc i) x e = at_left xs ys i x e

  pub once_left : (xs ys : List X) → Once (xs ++ ys) → Once xs
  once_left xs ys once i j x e f = once i j x (at_left xs ys i x e) (at_left xs ys j x f)

  once_tail : (x : X) (xs : List X) → Once (x ∷ xs) → Once xs
  once_tail x xs once i j y e f = let same : suc i ≡ suc j = once (suc i) (suc j) y e f in omega arith

  pub once_right : (xs ys : List X) → Once (xs ++ ys) → Once ys
  once_right [] ys once = once
  once_right (x ∷ xs) ys once = once_right xs ys (once_tail x (xs ++ ys) once)

  -- an item of a list that has two has another beside it
  beside : (xs : List X) (x : X) (k : ℕ) → 2 ≤ length xs → Once xs → slice_get xs k ≡ Some x → (y : X) × (x ≢ y) × Contains xs y
  beside [] x k two once at = absurd (omega arith)
  beside (a ∷ []) x k two once at = absurd (omega arith)
  beside (a ∷ b ∷ xs) x zero two once at =
      (b, λ e. let same : 0 ≡ 1 = once 0 1 x at (ap Some (sym e)) in omega arith, stands_at (a ∷ b ∷ xs) 1 b refl)
  beside (a ∷ b ∷ xs) x (suc k) two once at =
      (a, λ e. let same : suc k ≡ 0 = once (suc k) 0 x at (ap Some (sym e)) in omega arith, stands_at (a ∷ b ∷ xs) 0 a refl)

  pub other_item : (xs : List X) (x : X) → 2 ≤ length xs → Once xs → Contains xs x → (y : X) × (x ≢ y) × Contains xs y
  other_item xs x two once within = let (k, at) = place_of xs x within in beside xs x k two once at
