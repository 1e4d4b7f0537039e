-- The tests of a site that haven't failed.
use Rattle.std.proofs.Common.{◌≡◌, ◌≤◌, inl, inr, ℕ, zero, suc, ◌==◌, not, List, [], ◌∷◌, true, false, length, take, Contains, All, refl, sym, ap, arith}
use Rattle.std.specs.List.{list_any}
use Rattle.std.proofs.lemmas.Bool.{eqb-false, ne_eqb}
use Rattle.std.proofs.lemmas.List.{take_all}
use Rattle.std.proofs.lemmas.List.Elements.{All-contains, All-same}
use Rattle.isle_missing.specs.declared.facts.Fact.{Fact}
use Rattle.isle_missing.specs.declared.ids.TestId.{TestId}
use Rattle.isle_missing.specs.Sites.{numbers, is_listed}
use Rattle.isle_missing.specs.Demands.{passes}
use Rattle.isle_missing.specs.Inside.Facts.{HaveFailed, AreOpen, has_failed, is_other_open, has_other_open}
use Rattle.isle_missing.proofs.Basics.{true_or, and_both, true_and, not_true, clash, member_tail, any_member, any_found}

-- ---- tests and their numbers

pub number_member : (tests : List TestId) (t : TestId) → Contains tests t → Contains (numbers tests) t.0
number_member [] t m = absurd (omega (arith, m.1))
number_member (x ∷ xs) t (zero, below, same) = (0, omega arith, ap (λ (z : TestId). z.0) same)
number_member (x ∷ xs) t (suc k, below, same) = member_tail x.0 t.0 (numbers xs) (number_member xs t (k, omega arith, same))

pub member_number : (tests : List TestId) (t : ℕ) → Contains (numbers tests) t → Contains tests (record { 0 = t })
member_number [] t m = absurd (omega (arith, m.1))
member_number (x ∷ xs) t (zero, below, same) = (0, omega arith, ap (λ (n : ℕ). let test : TestId = record { 0 = n } in test) same)
member_number (x ∷ xs) t (suc k, below, same) =
    let there : Contains xs (record { 0 = t }) = member_number xs t (k, omega arith, same) in
    member_tail x (record { 0 = t }) xs there

-- whether a test is listed, by its number
pub listed_by_number : (tests : List TestId) (t : ℕ) → list_any (λ (u : TestId). u.0 == t) tests ≡ is_listed (numbers tests) t
listed_by_number [] t = refl
listed_by_number (x ∷ xs) t = rw (listed_by_number xs t) refl

-- ---- what is left of tests

-- what holds of each of the first elements holds of all, where there are no others
pub all_taken : {X : Type 0} (P : X → Type 0) (xs : List X) (i : ℕ) → length xs ≤ i → All P (take i xs) → All P xs
all_taken P xs i past all = All-same P xs (take i xs) (sym (take_all i xs past)) all

-- each has failed
pub all_failed : (facts : List Fact) (s : ℕ) (tests : List TestId) → All (λ (t : TestId). has_failed (passes s t.0) facts ≡ true) tests
    → HaveFailed facts s (numbers tests) (λ t. ⊥)
all_failed facts s tests all t m other =
    All-contains (λ (u : TestId). has_failed (passes s u.0) facts ≡ true) tests (record { 0 = t }) all (member_number tests t m)

-- each but one has
pub others_failed : (facts : List Fact) (s : ℕ) (tests : List TestId) (known : TestId) → has_other_open facts s tests known ≡ false
    → HaveFailed facts s (numbers tests) (λ t. t ≡ known.0)
others_failed facts s tests known none t m differ = elim (true_or (has_failed (passes s t) facts)) [
  | inl failed ↦ failed
  | inr open_still ↦
      let other : not (t == known.0) ≡ true = ap not (ne_eqb t known.0 differ) in
      let unfailed : not (has_failed (passes s t) facts) ≡ true = ap not open_still in
      clash (has_other_open facts s tests known)
      (any_member (is_other_open facts s known) tests (record { 0 = t }) (member_number tests t m)
      (true_and (not (t == known.0)) (not (has_failed (passes s t) facts)) other unfailed))
      none
]

-- two that differ haven't
pub two_open : (facts : List Fact) (s : ℕ) (tests : List TestId) (known : TestId) → Contains tests known → has_failed (passes s known.0) facts ≡ false
    → has_other_open facts s tests known ≡ true → AreOpen facts s (numbers tests)
two_open facts s tests known m h other =
    let r : (u : TestId) × Contains tests u × (is_other_open facts s known u ≡ true) = any_found (is_other_open facts s known) tests other in
    let both : (not ((r.0).0 == known.0) ≡ true) × (not (has_failed (passes s (r.0).0) facts) ≡ true) =
    and_both (not ((r.0).0 == known.0)) (not (has_failed (passes s (r.0).0) facts)) (r.2) in
    record {
      first = known.0;
      second = (r.0).0;
      differ = λ e. eqb-false (r.0).0 known.0 (not_true ((r.0).0 == known.0) (both.0)) (sym e);
      first_listed = number_member tests known m;
      second_listed = number_member tests (r.0) (r.1);
      first_open = h;
      second_open = not_true (has_failed (passes s (r.0).0) facts) (both.1);
    }
