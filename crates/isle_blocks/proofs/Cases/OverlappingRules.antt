-- The rules (f 1 _), (f _ 2) and (f 3 _), by their tests of the arguments 0 and 1.
use Rattle.std.proofs.Common.{◌≡◌, ℕ, zero, suc, pos, [], ◌∷◌, Contains, refl, ap, arith}
use Rattle.isle_blocks.specs.declared.constraint.Constraint.{Constraint}
use Rattle.isle_blocks.specs.declared.constraint.Constraint.TheVariants as tests
use Rattle.isle_blocks.specs.Rules.{Tests, AreApart}

-- the test for a number
abbrev number : ℕ → Constraint
number n = tests.ConstInt (pos n) (record { 0 = 3 })

abbrev f1_ : Tests
f1_ = (record { 0 = 0 }, number 1) ∷ []

abbrev f_2 : Tests
f_2 = (record { 0 = 1 }, number 2) ∷ []

abbrev f3_ : Tests
f3_ = (record { 0 = 0 }, number 3) ∷ []

only : {X : Type 0} (x y : X) → Contains (x ∷ []) y → x ≡ y
only x y (zero, within, is) = is
only x y (suc k, within, is) = absurd (omega arith)

-- (f 1 _) and (f _ 2) may match together: f(1, 2)
pub first_and_second : AreApart f1_ f_2 → ⊥
first_and_second a =
    let e = ap (λ x. x.0.0) (only _ _ a.has_one) in
    let f = ap (λ x. x.0.0) (only _ _ a.has_other) in omega arith

-- (f _ 2) and (f 3 _) may match together: f(3, 2)
pub second_and_third : AreApart f_2 f3_ → ⊥
second_and_third a =
    let e = ap (λ x. x.0.0) (only _ _ a.has_one) in
    let f = ap (λ x. x.0.0) (only _ _ a.has_other) in omega arith

-- (f 1 _) and (f 3 _) never match together
pub first_and_third : AreApart f1_ f3_
first_and_third = record {
  site = record { 0 = 0 };
  one = number 1;
  other = number 3;
  has_one = (0, omega arith, refl);
  has_other = (0, omega arith, refl);
  differ = λ e. cc;
}
