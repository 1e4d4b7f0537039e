-- Facts that are so by a table are so in a world.
use Rattle.std.proofs.Common.{◌≡◌, inl, inr, ℕ, zero, suc, ◌<◌, ◌≤◌, ◌==◌, not, nat_lt, List, [], ◌∷◌, Bool, true, false, Option, Some, None, cond, length, Contains, refl, sym, ◌∙◌, subst, arith, eqb-true, eq-eqb}
use Rattle.std.proofs.lemmas.Bool.Decides.{nat_tests}
use Rattle.isle_missing.specs.declared.demand.Demand.{Demand}
use Rattle.isle_missing.specs.declared.demand.Demand.TheVariants.{Passes, Same}
use Rattle.isle_missing.specs.declared.facts.Fact.{Fact}
use Rattle.isle_missing.specs.declared.ids.TestId.{TestId}
use Rattle.isle_missing.specs.Sites.{Sites, all_tests, is_single}
use Rattle.isle_missing.specs.Demands.{World, PassesOne, AreCompared, Fits, AllFit}
use Rattle.isle_missing.specs.Facts.{AreSo}
use Rattle.isle_missing.specs.Inside.Tables.{Table, is_test, is_same, is_held, is_so, are_so, is_among, test_at, HaveTests, ArePossible}
use Rattle.isle_missing.specs.Possible.{CanBe}
use Rattle.isle_missing.proofs.Basics.{true_or, true_and, and_both, not_true, clash, listed_member}

-- a site passes one test
test_one : (o : Option TestId) (t u : ℕ) → is_test o t ≡ true → is_test o u ≡ true → t ≡ u
test_one None t u p q = clash false p refl
test_one (Some k) t u p q = sym (eqb-true k.0 t p) ∙ eqb-true k.0 u q

-- the world of a table
abbrev world_by : Sites → Table → World
world_by sites table = record { holds = is_held sites table; one = λ s t u p q. test_one (test_at table s) t u p q }

-- ---- facts

so_by : (b h : Bool) → cond b h (not h) ≡ true → h ≡ b
so_by true h e = e
so_by false h e = not_true h e

facts_so : (sites : Sites) (table : Table) (facts : List Fact) → are_so sites table facts ≡ true → AreSo (world_by sites table) facts
facts_so sites table [] e = tt
facts_so sites table (f ∷ fs) e =
    let both : (is_so sites table f ≡ true) × (are_so sites table fs ≡ true) = and_both (is_so sites table f) (are_so sites table fs) e in
    (so_by f.holds (is_held sites table f.demand) (both.0), facts_so sites table fs (both.1))

-- ---- sites

among_one : (o : Option TestId) (ts : List ℕ) → is_among o (Some ts) ≡ true → (t : ℕ) × Contains ts t × (is_test o t ≡ true)
among_one None ts h = clash false h refl
among_one (Some k) ts h = (k.0, listed_member ts k.0 h, eq-eqb k.0 k.0 refl)

passes_one : (sites : Sites) (table : Table) (s : ℕ) (o : Option (List ℕ)) → is_among (test_at table s) o ≡ true
    → PassesOne (world_by sites table) s o
passes_one sites table s None h = tt
passes_one sites table s (Some ts) h = among_one (test_at table s) ts h

-- two sites that are the same pass the same tests
same_carries : (sites : Sites) (a t : ℕ) (o other : Option TestId) → is_same sites a o other ≡ true → is_test o t ≡ is_test other t
same_carries sites a t None other e = clash false e refl
same_carries sites a t (Some k) other e =
    let theirs : is_test other k.0 ≡ true = (and_both (is_single sites a k.0) (is_test other k.0) e).1 in
    elim (true_or (k.0 == t)) [
      | inl h ↦ h ∙ sym (subst (λ (n : ℕ). is_test other n ≡ true) (eqb-true k.0 t h) theirs)
      | inr h ↦ h ∙ sym (elim (true_or (is_test other t)) [
        | inl p ↦ clash (k.0 == t) (eq-eqb k.0 t (test_one other k.0 t theirs p)) h
        | inr p ↦ p
      ])
    ]

-- two sites that pass a test which only one value passes are the same
single_is_same : (sites : Sites) (a t : ℕ) (o other : Option TestId) → is_single sites a t ≡ true → is_test o t ≡ true
    → is_test other t ≡ true
    → is_same sites a o other ≡ true
single_is_same sites a t None other s p q = clash false p refl
single_is_same sites a t (Some k) other s p q =
    let same : t ≡ k.0 = sym (eqb-true k.0 t p) in
    true_and (is_single sites a k.0) (is_test other k.0) (subst (λ (n : ℕ). is_single sites a n ≡ true) same s)
    (subst (λ (n : ℕ). is_test other n ≡ true) same q)

compared : (sites : Sites) (table : Table) (a b : ℕ) → HaveTests sites table → AreCompared (world_by sites table) sites a b
compared sites table a b have = record {
  first = passes_one sites table a (all_tests sites a) (have a);
  second = passes_one sites table b (all_tests sites b) (have b);
  carried = λ t e. same_carries sites a t (test_at table a) (test_at table b) e;
  single = λ t s p q. single_is_same sites a t (test_at table a) (test_at table b) s p q;
}

row_fits : (sites : Sites) (table : Table) (row : List Demand) → HaveTests sites table → Fits (world_by sites table) sites row
row_fits sites table [] have = tt
row_fits sites table (Passes s t ∷ ds) have = (passes_one sites table s.0 (all_tests sites s.0) (have s.0), λ h. row_fits sites table ds have)
row_fits sites table (Same a b ∷ ds) have = (compared sites table a.0 b.0 have, λ h. row_fits sites table ds have)

rows_fit : (sites : Sites) (table : Table) (rows : List (List Demand)) → HaveTests sites table → AllFit (world_by sites table) sites rows
rows_fit sites table [] have = tt
rows_fit sites table (row ∷ rows) have = (row_fits sites table row have, rows_fit sites table rows have)

-- in some world the facts are so
pub can_be : (sites : Sites) (rows : List (List Demand)) (facts : List Fact) → ArePossible sites facts → CanBe sites rows facts
can_be sites rows facts (table, so, have) = (world_by sites table, facts_so sites table facts so, rows_fit sites table rows have)

-- ---- all sites

beyond : (sites : Sites) (s : ℕ) → length sites ≤ s → all_tests sites s ≡ None
beyond [] s h = refl
beyond (x ∷ xs) zero h = absurd (omega (arith, h))
beyond (x ∷ xs) (suc s) h = beyond xs s (omega (arith, h))

among_any : (o : Option TestId) → is_among o None ≡ true
among_any None = refl
among_any (Some t) = refl

-- what holds of the sites that are listed holds of all
pub all_have : (sites : Sites) (table : Table) → ((s : ℕ) → s < length sites → is_among (test_at table s) (all_tests sites s) ≡ true)
    → HaveTests sites table
all_have sites table each s = elim (true_or (nat_lt s (length sites))) [
  | inl h ↦ each s (let below : s < length sites = grind (arith, nat_tests, h) in below)
  | inr h ↦
      let past : length sites ≤ s = grind (arith, nat_tests, h) in
      subst (λ (o : Option (List ℕ)). is_among (test_at table s) o ≡ true) (sym (beyond sites s past)) (among_any (test_at table s))
]
