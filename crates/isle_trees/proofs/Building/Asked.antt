-- What rules' tests ask, listed parts first; what tests make, listed.
use Rattle.std.proofs.Common.{◌≡◌, ◌≤◌, true, refl, inl, inr, ℕ, ◌+◌, ◌<◌, ◌==◌, ◌++◌, List, [], ◌∷◌, Option, Some, None, length, sym, ◌∙◌, subst, arith, get_or, length-append, eq-eqb}
use Rattle.std.proofs.lemmas.Bool.{false≢true}
use Rattle.std.proofs.lemmas.List.{take_at, take-append-le, get_or_append_left, get_or_at}
use Rattle.isle_trees.specs.Ranking.{AllBelow, AreAllWithin}
use Rattle.isle_trees.specs.Rules.{has, one_value, Source, Rules, Elem, Asked}
use Rattle.isle_trees.specs.Scopes.{Test, on_match, on_equal, on_loop, has_test}
use Rattle.isle_trees.specs.Search.{first_of, ArePartsFirst, IsAskedBy, AreMadeBelow, HasUsers, IsIndex, made_more}
use Rattle.isle_trees.proofs.Asking.{elem_append}
use Rattle.isle_trees.proofs.Basics.{true_or, test_of, one_of}
use Rattle.isle_trees.proofs.Building.Gathering.{IsTestedSite}
use Rattle.isle_trees.proofs.Building.Lists.{less_or, elem_left, elem_right, place_of, take_elem, ascend_push}

-- one site more
pub parts_none : {C V : Type 0} (R : Rules C V) → ArePartsFirst R []
parts_none R j p l m = absurd (omega arith)

pub part_listed : {C V : Type 0} (R : Rules C V) (list : List ℕ) (s p : ℕ) → ArePartsFirst R list → Elem s list → Elem p (R.parts s) → Elem p list
part_listed R list s p f m q =
    let at = place_of s 0 list m in
    let P : ℕ → Type 0 = λ x. Elem p (R.parts x) in
    take_elem p (at.0) list (f (at.0) p (at.1) (subst P (sym (at.2)) q))

-- where the sites of a rule's tests are listed, all that they ask is
pub asked_full : {C V : Type 0} (R : Rules C V) (i : ℕ) (list : List ℕ) → ArePartsFirst R list → ((s : ℕ) → IsTestedSite R i s → Elem s list)
    → (s : ℕ) → Asked R i s → Elem s list
asked_full R i list f h _ (Asked.by_demand s w e) = h s (IsTestedSite.wanted s w e)
asked_full R i list f h _ (Asked.by_class a b e) = h a (IsTestedSite.joined a b e)
asked_full R i list f h _ (Asked.by_part s p q m) = part_listed R list s p f (asked_full R i list f h s q) m

pub asked_listed : {C V : Type 0} (R : Rules C V) (n i : ℕ) (list : List ℕ) → AllBelow list n → ArePartsFirst R list
    → ((s : ℕ) → IsTestedSite R i s → Elem s list) → IsAskedBy R n i list
asked_listed R n i list b f h = record { below = b; first = f; full = asked_full R i list f h }

-- a rule whose tests ask of no site asks nothing
pub never_asked : {C V : Type 0} (R : Rules C V) (i : ℕ) → ((s : ℕ) → IsTestedSite R i s → ⊥) → (s : ℕ) → Asked R i s → ⊥
never_asked R i h _ (Asked.by_demand s w e) = h s (IsTestedSite.wanted s w e)
never_asked R i h _ (Asked.by_class a b e) = h a (IsTestedSite.joined a b e)
never_asked R i h _ (Asked.by_part s p q m) = never_asked R i h s q

pub nothing_asked : {C V : Type 0} (R : Rules C V) (n i : ℕ) (list : List ℕ) → list ≡ [] → ((s : ℕ) → IsTestedSite R i s → ⊥) → IsAskedBy R n i list
nothing_asked R n i list e h =
    let P : List ℕ → Type 0 = λ l. IsAskedBy R n i l in
    subst P (sym e) (record { below = λ x m. absurd m; first = parts_none R; full = λ s a. absurd (never_asked R i h s a) })

-- lists of what tests make
made_here : {C V : Type 0} (R : Rules C V) (x s : ℕ) (list : List ℕ) → AreMadeBelow R x s list → AreMadeBelow R (x + 1) s (list ++ x ∷ [])
made_here R x s list a = record {
  below = λ y m. elim (elem_append y list (x ∷ []) m) [
    | inl o ↦ let l = a.below y o in omega arith
    | inr o ↦ elim o [ inl q ↦ omega arith | inr z ↦ absurd z ]
  ];
  all = λ y m l q r. elim (less_or y x) [
    | inl k ↦ elem_left y list (x ∷ []) (a.all y m k q r)
    | inr k ↦ elem_right y list (x ∷ []) (inl (omega arith))
  ];
  ascend = ascend_push list x a.ascend a.below;
}

made_elsewhere : {C V : Type 0} (R : Rules C V) (x s : ℕ) (list : List ℕ) → AreMadeBelow R x s list
    → ((m : Source C) → R.made x ≡ Some m → m.site ≡ s → ⊥) → AreMadeBelow R (x + 1) s list
made_elsewhere {C} R x s list a n = record {
  below = λ y m. let l = a.below y m in omega arith;
  all = λ y m l q r. elim (less_or y x) [
    | inl k ↦ a.all y m k q r
    | inr k ↦
        let same : y ≡ x = omega arith in
        let P : ℕ → Type 0 = λ z. R.made z ≡ Some m in
        absurd (n m (subst P same q) r)
  ];
  ascend = a.ascend;
}

pub made_step : {C V : Type 0} (R : Rules C V) (x s : ℕ) (old new : List ℕ) (o : Option ℕ) → ((m : Source C) → R.made x ≡ Some m → o ≡ Some m.site)
    → new ≡ made_more o old x s
    → AreMadeBelow R x s old → AreMadeBelow R (x + 1) s new
made_step R x s old new None e q a =
    let P : List ℕ → Type 0 = λ l. AreMadeBelow R (x + 1) s l in
    subst P (sym q) (made_elsewhere R x s old a (λ m f g. let z : None ≡ Some m.site = e m f in cc))
made_step R x s old new (Some t) e q a =
    let P : List ℕ → Type 0 = λ l. AreMadeBelow R (x + 1) s l in
    elim (true_or (s == t)) [
      | inl h ↦ let r : new ≡ old ++ x ∷ [] = rw h at q in subst P (sym r) (made_here R x s old a)
      | inr h ↦
          let r : new ≡ old = rw h at q in
          subst P (sym r) (made_elsewhere R x s old a (λ m f g.
          let z : Some t ≡ Some m.site = e m f in
          let w : t ≡ m.site = cc in
          false≢true (sym h ∙ eq-eqb s t (sym g ∙ sym w))))
    ]

pub made_none : {C V : Type 0} (R : Rules C V) (s : ℕ) (list : List ℕ) → list ≡ [] → AreMadeBelow R 0 s list
made_none R s list e =
    let P : List ℕ → Type 0 = λ l. AreMadeBelow R 0 s l in
    subst P (sym e) (record { below = λ x m. absurd m; all = λ x m l. absurd (omega arith); ascend = tt })

-- the three lists make an index, where all that tests make lies below the number
pub index_of : {C V : Type 0} (R : Rules C V) (n : ℕ) (asked made users : ℕ → List ℕ) → ((i : ℕ) → IsAskedBy R n i (asked i))
    → ((s : ℕ) → AreMadeBelow R n s (made s)) → HasUsers R users
    → ((x : ℕ) (m : Source C) → R.made x ≡ Some m → x < n) → IsIndex R n asked made users
index_of R n asked made users a m u b = record {
  within = λ i s e. (a i).below s e;
  full = λ i s q. (a i).full s q;
  first = λ i. (a i).first;
  made_within = λ s x e. (m s).below x e;
  made_from = λ s x o e q. (m s).all x o (b x o e) e q;
  made_ascend = λ s. (m s).ascend;
  used = u;
}

-- the sites of a rule's tests
pub has_tested : {C V : Type 0} (R : Rules C V) (i : ℕ) (t : Test) → has_test R i t ≡ true → IsTestedSite R i (first_of t)
has_tested R i (on_match s) e = let k = test_of (R.at i s) e in IsTestedSite.wanted s (has (k.0)) (k.1)
has_tested R i (on_loop s) e = IsTestedSite.wanted s one_value (one_of (R.at i s) e)
has_tested R i (on_equal a b) e = IsTestedSite.joined a b e

pub tested_below : {C V : Type 0} (R : Rules C V) (n i s : ℕ) → AreAllWithin R n → IsTestedSite R i s → s < n
tested_below R n i _ w (IsTestedSite.wanted s (has c) e) = w i (on_match s) (rw e refl)
tested_below R n i _ w (IsTestedSite.wanted s one_value e) = w i (on_loop s) (rw e refl)
tested_below R n i _ w (IsTestedSite.joined a b e) = (w i (on_equal a b) e).0
