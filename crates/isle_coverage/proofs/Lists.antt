-- Where the demands of a rule's tests stand in its row.
use Rattle.std.proofs.Common.{◌≡◌, inl, inr, ℕ, zero, suc, Bool, true, false, List, [], ◌∷◌, ◌++◌, map, refl, sym, ap, subst, ◌∙◌, arith, Contains}
use Rattle.std.specs.List.{AllZip, flat_map}
use Rattle.std.proofs.lemmas.List.Elements.{Contains-append_left, Contains-append_right, Contains-append_cases}
use Rattle.isle_missing.specs.declared.demand.Demand.{Demand}
use Rattle.isle_missing.specs.declared.demand.Demand.TheVariants.{Passes, Same}
use Rattle.isle_missing.specs.Demands.{passes, equals}
use Rattle.isle_blocks.specs.declared.ids.BindingId.{BindingId}
use Rattle.isle_blocks.specs.declared.constraint.Constraint.{Constraint}
use Rattle.isle_coverage.specs.Inside.Rows.{IsTestDemand, same_demands}
use Rattle.isle_coverage.specs.Inside.Tables.{HasNumber}

-- the first site of a demand, and its test or its other site
abbrev pub first_of : Demand → ℕ
first_of (Passes s t) = s.0
first_of (Same a b) = a.0

abbrev pub second_of : Demand → ℕ
second_of (Passes s t) = t.0
second_of (Same a b) = b.0

-- whether a demand is one of a test
abbrev pub is_test : Demand → Bool
is_test (Passes s t) = true
is_test (Same a b) = false

pub member_head : {X : Type 0} (x : X) (xs : List X) → Contains (x ∷ xs) x
member_head x xs = (0, omega arith, refl)

pub member_tail : {X : Type 0} (x y : X) (xs : List X) → Contains xs y → Contains (x ∷ xs) y
member_tail x y xs (k, below, same) = (suc k, omega arith, same)

pub no_member : {X : Type 0} (y : X) → Contains [] y → ⊥
no_member y (k, below, same) = omega arith

-- what is demanded of a test that stands there
pub demand_of : (table : List Constraint) (tests : List (BindingId × Constraint)) (row : List Demand) (site : BindingId) (c : Constraint)
    → AllZip (IsTestDemand table) tests row → Contains tests (site, c) → (t : ℕ) × HasNumber table c t × Contains row (passes site.0 t)
demand_of table [] row site c z m = absurd (no_member (site, c) m)
demand_of table (x ∷ xs) [] site c z m = absurd z
demand_of table (x ∷ xs) (d ∷ ds) site c z (zero, below, same) =
    let (t, numbered, is) = z.0 in (
      t,
      subst (λ (p : BindingId × Constraint). HasNumber table p.1 t) same numbered,
      (0, omega arith, is ∙ ap (λ (p : BindingId × Constraint). passes p.0.0 t) same),
    )
demand_of table (x ∷ xs) (d ∷ ds) site c z (suc k, below, same) =
    let (t, numbered, m) = demand_of table xs ds site c (z.1) (k, omega arith, same) in (t, numbered, member_tail d (passes site.0 t) ds m)

-- and the test of what is demanded
pub test_of_demand : (table : List Constraint) (tests : List (BindingId × Constraint)) (row : List Demand) (s t : ℕ)
    → AllZip (IsTestDemand table) tests row → Contains row (passes s t)
    → (site : BindingId) × (c : Constraint) × Contains tests (site, c) × (site.0 ≡ s) × HasNumber table c t
test_of_demand table tests [] s t z m = absurd (no_member (passes s t) m)
test_of_demand table [] (d ∷ ds) s t z m = absurd z
test_of_demand table (x ∷ xs) (d ∷ ds) s t z (zero, below, same) =
    let (u, numbered, is) = z.0 in
    let both : passes x.0.0 u ≡ passes s t = sym is ∙ same in
    (x.0, x.1, member_head x xs, ap first_of both, subst (HasNumber table x.1) (ap second_of both) numbered)
test_of_demand table (x ∷ xs) (d ∷ ds) s t z (suc k, below, same) =
    let (site, c, m, of, numbered) = test_of_demand table xs ds s t (z.1) (k, omega arith, same) in
    (site, c, member_tail x (site, c) xs m, of, numbered)

-- each demand of tests is one of a test
tests_are : (table : List Constraint) (tests : List (BindingId × Constraint)) (row : List Demand) (d : Demand)
    → AllZip (IsTestDemand table) tests row → Contains row d → is_test d ≡ true
tests_are table tests [] d z m = absurd (no_member d m)
tests_are table [] (e ∷ es) d z m = absurd z
tests_are table (x ∷ xs) (e ∷ es) d z (zero, below, same) = let (u, numbered, is) = z.0 in ap is_test (sym same ∙ is)
tests_are table (x ∷ xs) (e ∷ es) d z (suc k, below, same) = tests_are table xs es d (z.1) (k, omega arith, same)

-- that two sites hold the same is demanded for one of the others
pub same_of : (first : BindingId) (others : List BindingId) (d : Demand)
    → Contains (map (λ (other : BindingId). equals first.0 other.0) others) d
    → (other : BindingId) × Contains others other × (equals first.0 other.0 ≡ d)
same_of first [] d m = absurd (no_member d m)
same_of first (x ∷ xs) d (zero, below, same) = (x, member_head x xs, same)
same_of first (x ∷ xs) d (suc k, below, same) =
    let (other, m, e) = same_of first xs d (k, omega arith, same) in (other, member_tail x other xs m, e)

pub of_same : (first other : BindingId) (others : List BindingId) → Contains others other
    → Contains (map (λ (y : BindingId). equals first.0 y.0) others) (equals first.0 other.0)
of_same first other [] m = absurd (no_member other m)
of_same first other (x ∷ xs) (zero, below, same) = (0, omega arith, ap (λ (y : BindingId). equals first.0 y.0) same)
of_same first other (x ∷ xs) (suc k, below, same) =
    member_tail (equals first.0 x.0) (equals first.0 other.0) (map (λ (y : BindingId). equals first.0 y.0) xs)
    (of_same first other xs (k, omega arith, same))

-- of sets it is demanded for one of them
pub set_of_same : (sets : List (List BindingId)) (d : Demand) → Contains (flat_map same_demands sets) d
    → (set : List BindingId) × Contains sets set × Contains (same_demands set) d
set_of_same [] d m = absurd (no_member d m)
set_of_same (set ∷ sets) d m = elim (Contains-append_cases (same_demands set) (flat_map same_demands sets) d m) [
  | inl here ↦ (set, member_head set sets, here)
  | inr later ↦ let (own, there, inside) = set_of_same sets d later in (own, member_tail set own sets there, inside)
]

pub same_of_set : (sets : List (List BindingId)) (set : List BindingId) (d : Demand) → Contains sets set → Contains (same_demands set) d
    → Contains (flat_map same_demands sets) d
same_of_set [] set d m inside = absurd (no_member set m)
same_of_set (x ∷ xs) set d (zero, below, same) inside =
    Contains-append_left (same_demands x) (flat_map same_demands xs) d
    (subst (λ (own : List BindingId). Contains (same_demands own) d) (sym same) inside)
same_of_set (x ∷ xs) set d (suc k, below, same) inside =
    Contains-append_right (same_demands x) (flat_map same_demands xs) d (same_of_set xs set d (k, omega arith, same) inside)

-- none of them is one of a test
same_is_none : (set : List BindingId) (d : Demand) → Contains (same_demands set) d → is_test d ≡ false
same_is_none [] d m = absurd (no_member d m)
same_is_none (first ∷ others) d m = let (other, inside, e) = same_of first others d m in ap is_test (sym e)

pub sets_are_none : (sets : List (List BindingId)) (d : Demand) → Contains (flat_map same_demands sets) d → is_test d ≡ false
sets_are_none sets d m = let (set, there, inside) = set_of_same sets d m in same_is_none set d inside

-- a demand of a row that is one of a test stands among those of the tests
pub among_tests : (tested : List Demand) (sets : List (List BindingId)) (s t : ℕ)
    → Contains (tested ++ flat_map same_demands sets) (passes s t) → Contains tested (passes s t)
among_tests tested sets s t m = elim (Contains-append_cases tested (flat_map same_demands sets) (passes s t) m) [
  | inl here ↦ here
  | inr later ↦ absurd (let e : true ≡ false = sets_are_none sets (passes s t) later in cc)
]

-- one that is none of a test stands behind them
pub among_sets : (table : List Constraint) (tests : List (BindingId × Constraint)) (tested : List Demand) (sets : List (List BindingId)) (a b : ℕ)
    → AllZip (IsTestDemand table) tests tested → Contains (tested ++ flat_map same_demands sets) (equals a b)
    → Contains (flat_map same_demands sets) (equals a b)
among_sets table tests tested sets a b z m = elim (Contains-append_cases tested (flat_map same_demands sets) (equals a b) m) [
  | inl here ↦ absurd (let e : false ≡ true = tests_are table tests tested (equals a b) z here in cc)
  | inr later ↦ later
]
