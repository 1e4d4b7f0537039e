-- The best test of all that rules have, where sites are gone over, and equalities class by class.
use Rattle.std.proofs.Common.{◌≡◌, inl, inr, ℕ, ◌+◌, ◌<◌, ◌≤◌, ℤ, ◌≤ℤ◌, ◌<ℤ◌, suc, zero, ◌&&◌, nat_lt, List, [], ◌∷◌, Bool, true, false, Option, Some, None, length, refl, sym, ap, subst, arith, get_or, take}
use Rattle.std.proofs.lemmas.Bool.{ltb-true}
use Rattle.std.proofs.lemmas.Int.{ints}
use Rattle.isle_trees.specs.Builds.{key, state, IsAtMost}
use Rattle.isle_trees.specs.Ranking.{Ranked, IsNoBetter, key_with, may_win}
use Rattle.isle_trees.specs.Rules.{Want, has, one_value, Rules, Elem}
use Rattle.isle_trees.specs.Scopes.{Scope, Test, on_match, on_equal, on_loop, has_test, counted}
use Rattle.isle_trees.specs.Search.{AreMarked, IsInOrder, is_open, is_ready, top}
use Rattle.isle_trees.proofs.Basics.{JoinsBothWays, and_both, and_fails, clash, contains_elem, one_of, test_of, true_or}
use Rattle.isle_trees.proofs.Building.Best.{at_most_trans, not_above}
use Rattle.isle_trees.proofs.Building.Lists.{last_or, less_or, zero_or}
use Rattle.isle_trees.proofs.Building.Offers.{IsSearched, ready_full, top_has}
use Rattle.isle_trees.proofs.Building.Search.{precedes_most}
use Rattle.isle_blocks.specs.declared.ids.BindingId.{BindingId}
use Rattle.isle_blocks.specs.declared.constraint.Constraint.{Constraint}
use Rattle.isle_blocks.specs.RuleSets.{RulesOverSites}
use Rattle.isle_blocks.specs.Inside.Trees.Best.{AreClassesPassed, AreEqualitiesPassed, AreSitesPassed, IsRowPassed, IsRulePassed, IsStillRanked}
use Rattle.isle_blocks.specs.Rows.{numbers_of}
use Rattle.isle_blocks.specs.Inside.Trees.Builder.{AreClasses, rules_in}
use Rattle.isle_blocks.specs.Inside.Trees.Marking.{AreReady}
use Rattle.isle_blocks.specs.Trees.View.{id_of}
use Rattle.isle_blocks.proofs.ClosedEqualities.{in_one}
use Rattle.isle_blocks.proofs.Trees.Binding.{number_of}

-- an equality of bound sites has a first site that is bound
state_first : {C : Type 0} (sc : Scope C) (a b : ℕ) → state sc (on_equal a b) ≤ state sc (on_equal a a)
state_first sc a b = elim (true_or (sc.emitted a)) [
  | inl e ↦ elim (true_or (sc.emitted b)) [ inl f ↦ rw e (rw f (omega arith)) | inr f ↦ rw e (rw f (omega arith)) ]
  | inr e ↦ rw e (omega arith)
]

-- an equality with a later site is ranked no higher than one of the first site with itself would be, if that counted as many rules or more
row_bound : {C V : Type 0} (R : Rules C V) (left : List ℕ) (sc : Scope C) (a b n : ℕ) → a < b → length (counted R (on_equal a b) left) ≤ n
    → IsAtMost (key R left sc (on_equal a b)) (key_with sc n (on_equal a a))
row_bound R left sc a b n l m = elim (less_or (length (counted R (on_equal a b) left)) n) [
  | inl k ↦ inl k
  | inr k ↦ inr (
    omega arith,
    elim (less_or (state sc (on_equal a b)) (state sc (on_equal a a))) [
      | inl s ↦ inl s
      | inr s ↦ inr (let t = state_first sc a b in omega arith, inr (refl, inr (refl, omega arith)))
    ],
  )
]

row_over : {C V : Type 0} (R : Rules C V) (left : List ℕ) (sc : Scope C) (best : Option Ranked) (a b n : ℕ) → a < b
    → length (counted R (on_equal a b) left) ≤ n → may_win sc best (on_equal a a) n ≡ false → IsNoBetter R left sc best (on_equal a b)
row_over R left sc None a b n l m e = cc
row_over R left sc (Some old) a b n l m e =
    at_most_trans (key R left sc (on_equal a b)) (key_with sc n (on_equal a a)) old.key (row_bound R left sc a b n l m)
    (not_above (key_with sc n (on_equal a a)) old.key e)

-- where no equality of a site with a later one may win, none is better
pub row_passed : {C V : Type 0} (R : Rules C V) (left : List ℕ) (sc : Scope C) (marks : List Bool) (class : List BindingId) (best : Option Ranked)
    (a : BindingId) (n : ℕ) → ((b : ℕ) → length (counted R (on_equal a.0 b) left) ≤ n)
    → (is_open sc marks a.0 && may_win sc best (on_equal a.0 a.0) n) ≡ false → IsRowPassed R left sc marks class best a
row_passed R left sc marks class best a n most e b m r =
    let both = and_both (nat_lt a.0 b.0) _ r in
    let first = and_both (is_open sc marks a.0) _ (both.1) in
    elim (and_fails (is_open sc marks a.0) _ e) [
      | inl f ↦ clash _ (first.0) f
      | inr f ↦ row_over R left sc best a.0 b.0 n (ltb-true a.0 b.0 (both.0)) (most b.0) f
    ]

-- the best test is found step by step
pub still_ranked : {C V : Type 0} (R : Rules C V) (left : List ℕ) (sc : Scope C) (old new next : Option Ranked) → IsStillRanked R left sc old new
    → IsStillRanked R left sc new next → IsStillRanked R left sc old next
still_ranked R left sc old new next h k = record { ranked = k.ranked; kept = λ u n. k.kept u (h.kept u n) }

-- what holds of the items so far still holds, and of one item more
pub passed_more : {A : Type 0} (xs : List A) (i : ℕ) (d : A) (P Q : A → Type 0) → i < length xs → ((x : A) → P x → Q x) → Q (get_or xs i d)
    → ((x : A) → Elem x (take i xs) → P x) → (x : A) → Elem x (take (i + 1) xs) → Q x
passed_more xs i d P Q l keep last h x m = elim (last_or x d xs i l m) [
  | inl o ↦ keep x (h x o)
  | inr e ↦ subst Q (sym e) last
]

-- where a rule is below the top, the top rules stand before it
pub top_front : {C V : Type 0} (R : Rules C V) (left : List ℕ) (i j : ℕ) → IsInOrder R left → i < length left
    → R.prio (get_or left i 0) <ℤ top R left → Elem j left → top R left ≤ℤ R.prio j → Elem j (take i left)
top_front R left i j o l p m q = by left i (top R left) o l p m q
  where
    by : (rest : List ℕ) (i : ℕ) (k : ℤ) → IsInOrder R rest → i < length rest → R.prio (get_or rest i 0) <ℤ k → Elem j rest → k ≤ℤ R.prio j
        → Elem j (take i rest)
    by [] i k o l p m q = absurd m
    by (x ∷ xs) zero k o l p m q = elim m [
      | inl e ↦ let h : R.prio j ≡ R.prio x = ap R.prio e in absurd (grind (arith, ints))
      | inr n ↦ let h : R.prio j ≤ℤ R.prio x = precedes_most R x j (o.0 j n) in absurd (grind (arith, ints))
    ]
    by (x ∷ xs) (suc i) k o l p m q = elim m [ inl e ↦ inl e | inr n ↦ inr (by xs i k (o.1) (omega arith) p n q) ]

-- two sites that a rule joins stand in one of its classes
pub rule_passed : (set : RulesOverSites) (left : List ℕ) (sc : Scope Constraint) (marks : List Bool) (best : Option Ranked) (i : ℕ)
    (classes : List (List BindingId)) → AreClasses set i classes → AreClassesPassed (rules_in set) left sc marks best classes
    → IsRulePassed (rules_in set) left sc marks best i
rule_passed set left sc marks best i classes listed h a b j r =
    let one = in_one classes (id_of a) (id_of b) (listed (id_of a) (id_of b) j) in
    h one.set (contains_elem one.set classes one.stands) (id_of a) (contains_elem (id_of a) one.set one.first)
    (id_of b) (contains_elem (id_of b) one.set one.second) r

-- all tests are searched, where those of the sites that can be tested and the equalities are passed
pub searched_all : {C V : Type 0} (R : Rules C V) (left : List ℕ) (sc : Scope C) (marks : List Bool) (sites : List BindingId)
    (old new : Option Ranked)
    → JoinsBothWays R → IsInOrder R left → AreMarked R left sc marks → AreReady R left sc marks (numbers_of sites)
    → AreSitesPassed R left sc marks old sites → IsStillRanked R left sc old new → AreEqualitiesPassed R left sc marks new → IsSearched R left sc new
searched_all {C} R left sc marks sites old new w o h listed passed still equalities t r = elim (zero_or (length (counted R t left))) [
  | inl e ↦ inr e
  | inr l ↦
      let one = top_has R left t o l in
      let made = ready_full R left sc marks t (one.0) w h (one.1) (one.3) r in
      inl (by t (one.0) (one.1) (one.2) (one.3) made)
]
  where
    site : (i s : ℕ) (v : Want C) → Elem i left → R.at i s ≡ Some v → is_open sc marks s ≡ true → (x : BindingId) × Elem x sites × (x.0 ≡ s)
    site i s v m e f = number_of s sites (listed i s v m e f)

    by : (t : Test) (i : ℕ) → Elem i left → top R left ≤ℤ R.prio i → has_test R i t ≡ true → is_ready sc marks t ≡ true → IsNoBetter R left sc new t
    by (on_match s) i m q a e =
        let (c, f) = test_of (R.at i s) a in
        let (x, n, same) = site i s (has c) m f e in
        let P : ℕ → Type 0 = λ y. IsNoBetter R left sc old (on_match y) in
        let Q : ℕ → Type 0 = λ y. is_open sc marks y ≡ true in
        still.kept (on_match s) (subst P same ((passed x n).by_match (subst Q (sym same) e)))
    by (on_loop s) i m q a e =
        let (x, n, same) = site i s one_value m (one_of (R.at i s) a) e in
        let P : ℕ → Type 0 = λ y. IsNoBetter R left sc old (on_loop y) in
        let Q : ℕ → Type 0 = λ y. is_open sc marks y ≡ true in
        still.kept (on_loop s) (subst P same ((passed x n).by_loop (subst Q (sym same) e)))
    by (on_equal a b) i m q j e = equalities i m q a b j e
