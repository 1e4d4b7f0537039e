-- Worked cases: rules of two tests, and of two sites that are equal or pass other tests.
use Rattle.std.proofs.Common.{◌≡◌, inr, ℕ, zero, suc, List, [], ◌∷◌, true, false, Some, None, Contains, refl, sym, subst, arith}
use Rattle.isle_missing.specs.declared.demand.Demand.{Demand}
use Rattle.isle_missing.specs.declared.facts.Fact.{Fact}
use Rattle.isle_missing.specs.Sites.{Sites}
use Rattle.isle_missing.specs.Demands.{AreCompared, passes, equals, Fits}
use Rattle.isle_missing.specs.Inside.Rows.{denies, where_holds, where_fails, apart}
use Rattle.isle_missing.specs.declared.facts.Rest.TheVariants.{Open, Only}
use Rattle.isle_missing.specs.Inside.Facts.{IsRest, has_failed, refutes}
use Rattle.isle_missing.specs.Inside.Tables.{Table, is_held, HaveTests}
use Rattle.isle_missing.specs.Possible.{CanBe}
use Rattle.isle_missing.specs.Search.{IsExample}
use Rattle.isle_missing.specs.Sample.{both_rules, two_tests, twice_listed, any_tests, equal_rules, two_truths, two_kinds}
use Rattle.isle_missing.proofs.Basics.{clash}
use Rattle.isle_missing.proofs.Steps.{refuted_misses}
use Rattle.isle_missing.proofs.Tables.{can_be}

abbrev passed : ℕ → ℕ → Fact
passed s t = record { demand = passes s t; holds = true }

abbrev failed : ℕ → ℕ → Fact
failed s t = record { demand = passes s t; holds = false }

abbrev unequal : ℕ → ℕ → Fact
unequal a b = record { demand = equals a b; holds = false }

-- ---- demands

other_test_is_denied : denies (passes 0 1) (passes 0 2) ≡ true
other_test_is_denied = refl

own_test_is_not : denies (passes 0 1) (passes 0 1) ≡ false
own_test_is_not = refl

other_site_is_not : denies (passes 0 1) (passes 2 3) ≡ false
other_site_is_not = refl

-- ---- what is left of rules

-- the rule of the test demands nothing more, the other one goes
left_where_passed : where_holds (passes 0 0) both_rules ≡ [] ∷ []
left_where_passed = refl

left_where_failed : where_fails (passes 0 0) both_rules ≡ (passes 0 1 ∷ []) ∷ []
left_where_failed = refl

left_where_both_failed : where_fails (passes 0 1) (where_fails (passes 0 0) both_rules) ≡ []
left_where_both_failed = refl

left_where_unequal : where_fails (equals 0 1) equal_rules ≡ (passes 0 1 ∷ passes 1 0 ∷ []) ∷ (passes 0 0 ∷ passes 1 1 ∷ []) ∷ []
left_where_unequal = refl

-- unequal truth values aren't both false, nor both true; of kinds nothing is said
unequal_truths : apart two_truths 0 1 ≡ (passes 0 0 ∷ passes 1 0 ∷ []) ∷ (passes 0 1 ∷ passes 1 1 ∷ []) ∷ []
unequal_truths = refl

unequal_kinds : apart two_kinds 0 1 ≡ []
unequal_kinds = refl

-- ---- facts

has_failed_so : has_failed (passes 0 1) (passed 0 0 ∷ failed 0 1 ∷ []) ≡ true
has_failed_so = refl

passed_has_not : has_failed (passes 0 0) (passed 0 0 ∷ failed 0 1 ∷ []) ≡ false
passed_has_not = refl

failed_refutes : refutes (passes 0 0 ∷ passes 1 1 ∷ []) (failed 1 1) ≡ true
failed_refutes = refl

passed_refutes : refutes (passes 0 0 ∷ passes 1 1 ∷ []) (passed 1 0) ≡ true
passed_refutes = refl

passed_keeps : refutes (passes 0 0 ∷ passes 1 1 ∷ []) (passed 1 1) ≡ false
passed_keeps = refl

-- ---- what is left of tests

-- a test that is listed twice isn't two: where the other has failed it alone is left
twice_is_one : IsRest twice_listed (failed 0 1 ∷ []) 0 (Only (record { 0 = 0 }))
twice_is_one = (0 ∷ 0 ∷ 1 ∷ [], refl, others) where
  others : (t : ℕ) → Contains (0 ∷ 0 ∷ 1 ∷ []) t → (t ≡ 0 → ⊥) → has_failed (passes 0 t) (failed 0 1 ∷ []) ≡ true
  others t (zero, below, same) other = absurd (other (sym same))
  others t (suc zero, below, same) other = absurd (other (sym same))
  others t (suc (suc zero), below, same) other = subst (λ (n : ℕ). has_failed (passes 0 n) (failed 0 1 ∷ []) ≡ true) same refl
  others t (suc (suc (suc i)), below, same) other = absurd (omega (arith, below))

-- of two that differ neither is left alone
two_are_two : IsRest twice_listed [] 0 Open
two_are_two = inr (
  0 ∷ 0 ∷ 1 ∷ [],
  refl,
  record {
    first = 0;
    second = 1;
    differ = λ e. omega (arith, e);
    first_listed = (0, omega arith, refl);
    second_listed = (2, omega arith, refl);
    first_open = refl;
    second_open = refl;
  },
)

-- ---- tables

abbrev table : Table
table = Some (record { 0 = 1 }) ∷ Some (record { 0 = 1 }) ∷ []

true_is_true : is_held two_truths table (equals 0 1) ≡ true
true_is_true = refl

kind_is_not : is_held two_kinds table (equals 0 1) ≡ false
kind_is_not = refl

passed_by_table : is_held two_truths table (passes 1 1) ≡ true
passed_by_table = refl

beyond_table : is_held two_truths table (passes 2 1) ≡ false
beyond_table = refl

-- ---- examples

-- of a site that has other values both tests fail
both_fail : IsExample any_tests both_rules (failed 0 0 ∷ failed 0 1 ∷ [])
both_fail = (can_be any_tests both_rules facts (None ∷ [], refl, have), refuted_misses facts both_rules refl) where
  facts : List Fact
  facts = failed 0 0 ∷ failed 0 1 ∷ []

  have : HaveTests any_tests (None ∷ [])
  have zero = refl
  have (suc s) = refl

-- where each value passes one of the tests not both fail
not_both_fail : CanBe two_tests both_rules (failed 0 0 ∷ failed 0 1 ∷ []) → ⊥
not_both_fail (w, so, fit) = let first : Fits w two_tests (passes 0 0 ∷ []) = fit.0 in none (first.0) where
  none : (t : ℕ) × Contains (0 ∷ 1 ∷ []) t × (w.holds (passes 0 t) ≡ true) → ⊥
  none (t, (zero, below, same), h) = clash (w.holds (passes 0 0)) (subst (λ (n : ℕ). w.holds (passes 0 n) ≡ true) (sym same) h) (so.0)
  none (t, (suc zero, below, same), h) = clash (w.holds (passes 0 1)) (subst (λ (n : ℕ). w.holds (passes 0 n) ≡ true) (sym same) h) (so.1.0)
  none (t, (suc (suc i), below, same), h) = omega (arith, below)

-- two truth values that are both true aren't unequal
not_unequal : CanBe two_truths equal_rules (unequal 0 1 ∷ passed 0 1 ∷ passed 1 1 ∷ []) → ⊥
not_unequal (w, so, fit) =
    let first : Fits w two_truths (equals 0 1 ∷ []) = fit.0 in
    let compare : AreCompared w two_truths 0 1 = first.0 in
    clash (w.holds (equals 0 1)) (compare.single 1 refl (so.1.0) (so.1.1.0)) (so.0)

-- A test that is left out of those which one value passes is taken to be passed by many: two values that pass it may be unequal.
abbrev half_listed : Sites
half_listed = record { all = Some (0 ∷ 1 ∷ []); single = 0 ∷ [] } ∷ record { all = Some (0 ∷ 1 ∷ []); single = 0 ∷ [] } ∷ []

abbrev half_rules : List (List Demand)
half_rules = (equals 0 1 ∷ []) ∷ (passes 0 0 ∷ []) ∷ (passes 1 0 ∷ []) ∷ []

left_out_is_many : IsExample half_listed half_rules (unequal 0 1 ∷ passed 0 1 ∷ passed 1 1 ∷ [])
left_out_is_many = (can_be half_listed half_rules facts (table, refl, have), refuted_misses facts half_rules refl) where
  facts : List Fact
  facts = unequal 0 1 ∷ passed 0 1 ∷ passed 1 1 ∷ []

  have : HaveTests half_listed table
  have zero = refl
  have (suc zero) = refl
  have (suc (suc s)) = refl
