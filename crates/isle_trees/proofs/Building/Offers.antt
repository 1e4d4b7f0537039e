-- The tests that the top rules offer are all that matter.
use Rattle.std.proofs.Common.{◌≡◌, ◌⊎◌, inl, inr, ℕ, ℤ, suc, zero, ◌+◌, ◌<◌, ◌≤◌, ◌<ℤ◌, ◌≤ℤ◌, ◌==◌, ◌++◌, not, nat_lt, List, [], ◌∷◌, Bool, true, Option, Some, None, length, refl, sym, ◌∙◌, ap, subst, arith, get_or, take, map, Contains, below_more}
use Rattle.std.proofs.lemmas.Bool.{lt-ltb, ltb-true, eqb-false}
use Rattle.std.proofs.lemmas.Int.{ints}
use Rattle.std.proofs.lemmas.List.{get_or_default, take_all}
use Rattle.std.proofs.lemmas.List.Elements.{Contains-get_or}
use Rattle.std.specs.Prelude.{is_some}
use Rattle.isle_trees.specs.Builds.{Key, key, IsAtMost, IsBest, HasNoTest}
use Rattle.isle_trees.specs.Ranking.{Ranked, IsRanked, IsNoBetter}
use Rattle.isle_trees.specs.Rules.{has, one_value, Rules, Elem, Asked}
use Rattle.isle_trees.specs.Scopes.{Scope, IsAvailable, IsReady, Test, on_match, on_equal, on_loop, has_test, allows, counts, counted}
use Rattle.isle_trees.specs.Search.{IsInOrder, top, is_open, is_ready, is_marked, AreOffers, AreOffersOf, AreSound, AreMarked}
use Rattle.isle_trees.proofs.Asking.{elem_append}
use Rattle.isle_trees.proofs.Basics.{JoinsBothWays, and_both, both_and, from_filter, all_gives, not_true, or_holds, some_elem, test_of, one_of, elem_contains, contains_elem}
use Rattle.isle_trees.proofs.Building.Best.{key_count, none_least, HasCount}
use Rattle.isle_trees.proofs.Building.Lists.{zero_or, not_same, elem_left, elem_right, last_or}
use Rattle.isle_trees.proofs.Building.Search.{precedes_most, at_most_true}

-- all that some rules have and that can be made, and nothing that can't
pub record OffersOf {C V : Type 0} (R : Rules C V) (rules : List ℕ) (sc : Scope C) (marks : List Bool) (offers : List Test) : Type 0 where
  pub ready : (t : Test) → Elem t offers → is_ready sc marks t ≡ true
  pub full : (i : ℕ) (t : Test) → Elem i rules → has_test R i t ≡ true → is_ready sc marks t ≡ true → Elem t offers

-- tests that can be made
none_of : {A : Type 0} (o : Option A) → not (is_some o) ≡ true → o ≡ None
none_of None e = refl
none_of (Some x) e = cc

open_full : {C : Type 0} (sc : Scope C) (marks : List Bool) (s : ℕ) → is_marked marks s ≡ true → sc.passed s ≡ None → is_open sc marks s ≡ true
open_full sc marks s m n = both_and (is_marked marks s) _ m (rw n refl)

pub ready_full : {C V : Type 0} (R : Rules C V) (left : List ℕ) (sc : Scope C) (marks : List Bool) (t : Test) (i : ℕ) → JoinsBothWays R
    → AreMarked R left sc marks → Elem i left
    → has_test R i t ≡ true → IsReady R sc t → is_ready sc marks t ≡ true
ready_full R left sc marks (on_match s) i w h m e r =
    let k = test_of (R.at i s) e in open_full sc marks s (h.full i s m (Asked.by_demand s (has (k.0)) (k.1)) (r.0)) (r.1)
ready_full R left sc marks (on_loop s) i w h m e r =
    open_full sc marks s (h.full i s m (Asked.by_demand s one_value (one_of (R.at i s) e)) (r.0)) (r.1)
ready_full R left sc marks (on_equal a b) i w h m e r =
    let x : is_open sc marks a ≡ true = open_full sc marks a (h.full i a m (Asked.by_class a b e) (r.1)) (r.3) in
    let y : is_open sc marks b ≡ true = open_full sc marks b (h.full i b m (Asked.by_class b a (w i a b e)) (r.2)) (r.4) in
    let z : not (sc.label a == sc.label b) ≡ true = ap not (not_same (sc.label a) (sc.label b) (r.5)) in
    both_and (nat_lt a b) _ (lt-ltb a b (r.0)) (both_and (is_open sc marks a) _ x (both_and (is_open sc marks b) _ y z))

-- a test that no top rule has counts nothing
pub top_has : {C V : Type 0} (R : Rules C V) (left : List ℕ) (t : Test) → IsInOrder R left → 0 < length (counted R t left)
    → (i : ℕ) × Elem i left × (top R left ≤ℤ R.prio i) × (has_test R i t ≡ true)
top_has R [] t o l = absurd (omega arith)
top_has R (x ∷ xs) t o l =
    let one = some_elem (counted R t (x ∷ xs)) l in
    let f = from_filter (counts R t (x ∷ xs)) (x ∷ xs) (one.0) (one.1) in
    let both = and_both (has_test R (one.0) t) _ (f.1) in
    let first : allows R t (one.0) x ≡ true = all_gives (allows R t (one.0)) (x ∷ xs) x (both.1) (inl refl) in
    elim (or_holds (has_test R x t) _ first) [
      | inl h ↦ (x, inl refl, grind (arith, ints), h)
      | inr h ↦ (one.0, f.0, at_most_true _ _ h, both.0)
    ]

-- each test that can be made and counts is offered
pub offered_all : {C V : Type 0} (R : Rules C V) (left : List ℕ) (sc : Scope C) (marks : List Bool) (offers : List Test) (t : Test) → JoinsBothWays R
    → IsInOrder R left
    → AreMarked R left sc marks → AreOffers R left sc marks offers → IsReady R sc t → 0 < length (counted R t left) → Elem t offers
offered_all R left sc marks offers t w o h f r l =
    let one = top_has R left t o l in
    f.full (one.0) t (one.1) (one.2) (one.3) (ready_full R left sc marks t (one.0) w h (one.1) (one.3) r)

-- all was considered
abbrev pub IsConsidered : {C V : Type 0} → Rules C V → List ℕ → Scope C → List Test → Option Ranked → Type 0
IsConsidered R left sc offers best = (t : Test) → Elem t offers → IsNoBetter R left sc best t

-- what is ready isn't better, or counts nothing
abbrev pub IsSearched : {C V : Type 0} → Rules C V → List ℕ → Scope C → Option Ranked → Type 0
IsSearched R left sc best = (t : Test) → IsReady R sc t → IsNoBetter R left sc best t ⊎ (length (counted R t left) ≡ 0)

pub all_no_better : {C V : Type 0} (R : Rules C V) (left : List ℕ) (sc : Scope C) (marks : List Bool) (offers some : List Test) (best : Option Ranked)
    → JoinsBothWays R
    → IsInOrder R left → AreMarked R left sc marks → AreOffers R left sc marks offers → ((t : Test) → Elem t offers → Elem t some)
    → IsConsidered R left sc some best
    → IsSearched R left sc best
all_no_better R left sc marks offers some best w o h f k c t r = elim (zero_or (length (counted R t left))) [
  | inl e ↦ inr e
  | inr l ↦ inl (c t (k t (offered_all R left sc marks offers t w o h f r l)))
]

pub nothing_best : {C V : Type 0} (R : Rules C V) (left : List ℕ) (sc : Scope C) → IsSearched R left sc None → HasNoTest R left sc
nothing_best R left sc h t r = elim (h t r) [ inl e ↦ sym (key_count R left sc t) ∙ e | inr e ↦ e ]

pub something_best : {C V : Type 0} (R : Rules C V) (left : List ℕ) (sc : Scope C) (b : Ranked) → IsRanked R left sc (Some b)
    → IsSearched R left sc (Some b) → IsBest R left sc b.test
something_best R left sc b r h = record {
  ready = r.0;
  useful = let e = key_count R left sc b.test in let l : 0 < (key R left sc b.test).count = subst HasCount (r.1) (r.2) in omega arith;
  greatest = λ t q. elim (h t q) [
    | inl i ↦ subst (λ (k : Key). IsAtMost (key R left sc t) k) (r.1) i
    | inr e ↦ none_least _ _ (key_count R left sc t ∙ e) (subst HasCount (r.1) (r.2))
  ];
}

-- Tests as code writes them: `f` says which test an item is.
pub elem_map : {A B : Type 0} (f : A → B) (x : A) (xs : List A) → Elem x xs → Elem (f x) (map f xs)
elem_map f x [] m = absurd m
elem_map f x (y ∷ ys) (inl e) = inl (ap f e)
elem_map f x (y ∷ ys) (inr m) = inr (elem_map f x ys m)

pub map_elem : {A B : Type 0} (f : A → B) (y : B) (xs : List A) → Elem y (map f xs) → (x : A) × Elem x xs × (y ≡ f x)
map_elem f y [] m = absurd m
map_elem f y (x ∷ xs) (inl e) = (x, inl refl, e)
map_elem f y (x ∷ xs) (inr m) = let r = map_elem f y xs m in (r.0, inr (r.1), r.2)

pub all_considered : {C V : Type 0} {A : Type 0} (R : Rules C V) (left : List ℕ) (sc : Scope C) (best : Option Ranked)
    (f : A → Test) (ds : List A) (d : A) (n : ℕ) → length ds ≤ n
    → ((k : ℕ) → k < n → IsNoBetter R left sc best (f (get_or ds k d))) → IsConsidered R left sc (map f ds) best
all_considered R left sc best f ds d n l h t m =
    let one = map_elem f t ds m in
    let c = elem_contains (one.0) ds (one.1) in
    let P : Test → Type 0 = λ q. IsNoBetter R left sc best q in
    subst P (ap f (get_or_default ds (c.0) d (one.0) (c.1) ∙ c.2) ∙ sym (one.2)) (h (c.0) (let m = c.1 in omega arith))

-- once the loop over what is offered has ended
pub searched : {C V : Type 0} {A : Type 0} (R : Rules C V) (left : List ℕ) (sc : Scope C) (marks : List Bool)
    (f : A → Test) (offers ds : List A) (d : A) (best : Option Ranked) (n : ℕ)
    → JoinsBothWays R → IsInOrder R left → AreMarked R left sc marks → AreOffers R left sc marks (map f offers)
    → ((x : A) → Contains offers x → Contains ds x) → length ds ≤ n
    → ((k : ℕ) → k < n → IsNoBetter R left sc best (f (get_or ds k d))) → IsSearched R left sc best
searched R left sc marks f offers ds d best n w o h p keeps l k =
    all_no_better R left sc marks (map f offers) (map f ds) best w o h p
    (λ t m.
    let one = map_elem f t offers m in
    let P : Test → Type 0 = λ q. Elem q (map f ds) in
    subst P (sym (one.2)) (elem_map f (one.0) ds (contains_elem (one.0) ds (keeps (one.0) (elem_contains (one.0) offers (one.1))))))
    (all_considered R left sc best f ds d n l k)
