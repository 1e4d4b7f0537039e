-- Which sites are made of a site.
use Rattle.std.proofs.Common.{◌≡◌, ◌⊎◌, inl, inr, ℕ, ◌+◌, ◌<◌, ◌≤◌, List, [], ◌∷◌, Bool, true, false, length, refl, sym, subst, arith, get_or, take, eq-eqb}
use Rattle.std.proofs.lemmas.List.{take_all}
use Rattle.isle_trees.specs.Inside.Gathering.{IsGathering, Gathers}
use Rattle.isle_trees.specs.Rules.{Rules, Elem}
use Rattle.isle_trees.specs.Search.{IsAskedBy, added_at, is_marked}
use Rattle.isle_trees.proofs.Asking.{elem_append}
use Rattle.isle_trees.proofs.Basics.{clash, eq_or}
use Rattle.isle_trees.proofs.Building.Gathering.{gathering_none}
use Rattle.isle_trees.proofs.Building.Lists.{elem_left, elem_right, last_or, less_or, not_same}
use Rattle.isle_blocks.specs.Inside.Trees.Marking.{AreDependents, ListsAt}

-- a site was added to the list at one place
added_kept : (old new : List ℕ) (at s p x : ℕ) → new ≡ added_at old at s p → Elem x old → Elem x new
added_kept old new at s p x e m =
    let Q : List ℕ → Type 0 = λ l. Elem x l in
    elim (eq_or p at) [
      | inl same ↦ subst Q (sym (rw (eq-eqb p at same) at e)) (elem_left x old (s ∷ []) m)
      | inr other ↦ subst Q (sym (rw (not_same p at other) at e)) m
    ]

added_here : (old new : List ℕ) (at s p : ℕ) → new ≡ added_at old at s p → p ≡ at → Elem s new
added_here old new at s p e same =
    let Q : List ℕ → Type 0 = λ l. Elem s l in subst Q (sym (rw (eq-eqb p at same) at e)) (elem_right s old (s ∷ []) (inl refl))

added_only : (old new : List ℕ) (at s p x : ℕ) → new ≡ added_at old at s p → Elem x new → Elem x old ⊎ (x ≡ s)
added_only old new at s p x e m =
    let Q : List ℕ → Type 0 = λ l. Elem x l in
    elim (eq_or p at) [
      | inl same ↦ elim (elem_append x old (s ∷ []) (subst Q (rw (eq-eqb p at same) at e) m)) [
        | inl o ↦ inl o
        | inr k ↦ elim k [ inl f ↦ inr f | inr z ↦ absurd z ]
      ]
      | inr other ↦ inl (subst Q (rw (not_same p at other) at e) m)
    ]

pub lists_none : (s : ℕ) (lists : ℕ → List ℕ) → ListsAt s [] lists lists
lists_none s lists = record { kept = λ p x m. m; here = λ p m. absurd m; only = λ p x m. inl m }

-- one part more
pub lists_more : (s : ℕ) (parts : List ℕ) (i : ℕ) (old mid new : ℕ → List ℕ) → i < length parts
    → ((p : ℕ) → new p ≡ added_at (mid p) (get_or parts i 0) s p) → ListsAt s (take i parts) old mid → ListsAt s (take (i + 1) parts) old new
lists_more s parts i old mid new l e h = record {
  kept = λ p x m. added_kept (mid p) (new p) (get_or parts i 0) s p x (e p) (h.kept p x m);
  here = λ p m. elim (last_or p 0 parts i l m) [
    | inl o ↦ added_kept (mid p) (new p) (get_or parts i 0) s p s (e p) (h.here p o)
    | inr same ↦ added_here (mid p) (new p) (get_or parts i 0) s p (e p) same
  ];
  only = λ p x m. elim (added_only (mid p) (new p) (get_or parts i 0) s p x (e p) m) [ inl o ↦ h.only p x o | inr f ↦ inr f ];
}

pub lists_all : (s : ℕ) (parts : List ℕ) (i : ℕ) (old new : ℕ → List ℕ) → length parts ≤ i → ListsAt s (take i parts) old new
    → ListsAt s parts old new
lists_all s parts i old new l h = let P : List ℕ → Type 0 = λ y. ListsAt s y old new in subst P (take_all i parts l) h

-- so far, over a list of sites
pub record IsListing {C V : Type 0} (R : Rules C V) (n : ℕ) (sites : List ℕ) (lists : ℕ → List ℕ) : Type 0 where
  pub within : (p x : ℕ) → Elem x (lists p) → x < n
  pub all : (x p : ℕ) → Elem x sites → Elem p (R.parts x) → Elem x (lists p)

pub listing_none : {C V : Type 0} (R : Rules C V) (n : ℕ) (lists : ℕ → List ℕ) → ((p : ℕ) → lists p ≡ []) → IsListing R n [] lists
listing_none R n lists e =
    record { within = λ p x m. (let Q : List ℕ → Type 0 = λ y. Elem x y in absurd (subst Q (e p) m)); all = λ x p m q. absurd m }

pub listing_more : {C V : Type 0} (R : Rules C V) (n : ℕ) (sites : List ℕ) (i : ℕ) (old new : ℕ → List ℕ) → i < length sites
    → get_or sites i 0 < n → ListsAt (get_or sites i 0) (R.parts (get_or sites i 0)) old new
    → IsListing R n (take i sites) old → IsListing R n (take (i + 1) sites) new
listing_more R n sites i old new l low g h = record {
  within = λ p x m. elim (g.only p x m) [ inl o ↦ h.within p x o | inr e ↦ omega (arith, low, e) ];
  all = λ x p m q. elim (last_or x 0 sites i l m) [
    | inl o ↦ g.kept p x (h.all x p o q)
    | inr e ↦
        let Q : List ℕ → Type 0 = λ y. Elem p y in
        let P : ℕ → Type 0 = λ y. Elem y (new p) in
        let S : ℕ → Type 0 = λ y. Elem p (R.parts y) in
        subst P (sym e) (g.here p (subst S e q))
  ];
}

pub listing_all : {C V : Type 0} (R : Rules C V) (n i : ℕ) (asked : ℕ → List ℕ) (sites : List ℕ) (lists : ℕ → List ℕ) → length sites ≤ i
    → ((j : ℕ) → IsAskedBy R n j (asked j))
    → ((j x : ℕ) → Elem x (asked j) → Elem x sites) → IsListing R n (take i sites) lists → AreDependents R n lists
listing_all R n i asked sites lists l a full h =
    let P : List ℕ → Type 0 = λ y. IsListing R n y lists in
    let g : IsListing R n sites lists = subst P (take_all i sites l) h in
    record { within = g.within; all = λ j x p q m. g.all x p (full j x ((a j).full x q)) m }

-- the sites of lists were gathered so far
pub record AreGathered (start marks : List Bool) (all : List ℕ) (lists : ℕ → List ℕ) (i : ℕ) : Type 0 where
  pub gathering : IsGathering start marks all
  pub full : (j x : ℕ) → j < i → Elem x (lists j) → is_marked marks x ≡ true

pub gathered_none : (marks : List Bool) (all : List ℕ) (lists : ℕ → List ℕ) → all ≡ [] → AreGathered marks marks all lists 0
gathered_none marks all lists e =
    let P : List ℕ → Type 0 = λ y. IsGathering marks marks y in
    record { gathering = subst P (sym e) (gathering_none marks); full = λ j x l m. absurd (omega arith) }

pub gathered_more : (start m0 m1 : List Bool) (l0 l1 sites : List ℕ) (lists : ℕ → List ℕ) (i : ℕ) → sites ≡ lists i → Gathers sites m0 m1 l0 l1
    → AreGathered start m0 l0 lists i → AreGathered start m1 l1 lists (i + 1)
gathered_more start m0 m1 l0 l1 sites lists i e g h = record {
  gathering = g.gathering start h.gathering;
  full = λ j x l m. elim (less_or j i) [
    | inl k ↦ g.kept x (h.full j x k m)
    | inr k ↦
        let same : j ≡ i = omega arith in
        let P : ℕ → Type 0 = λ y. Elem x (lists y) in
        let Q : List ℕ → Type 0 = λ y. Elem x y in
        g.bound x (subst Q (sym e) (subst P same m))
  ];
}

pub gathered_full : (start marks : List Bool) (all : List ℕ) (lists : ℕ → List ℕ) (i : ℕ) → ((x : ℕ) → is_marked start x ≡ false)
    → ((j : ℕ) → i ≤ j → lists j ≡ []) → AreGathered start marks all lists i → (j x : ℕ) → Elem x (lists j) → Elem x all
gathered_full start marks all lists i clean past h j x m = elim (less_or j i) [
  | inl k ↦ elim (h.gathering.either x (h.full j x k m)) [ inl o ↦ clash _ o (clean x) | inr n ↦ n ]
  | inr k ↦ (let Q : List ℕ → Type 0 = λ y. Elem x y in absurd (subst Q (past j k) m))
]
