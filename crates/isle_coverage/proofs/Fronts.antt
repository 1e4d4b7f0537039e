-- What stands before a demand in a row whose tests ascend by their sites.
use Rattle.std.proofs.Common.{◌≡◌, ◌<◌, ℕ, zero, suc, true, false, List, [], ◌∷◌, ◌++◌, sym, ap, subst, ◌∙◌, arith, Contains}
use Rattle.std.specs.List.{AllZip}
use Rattle.std.specs.List.Sorted.{IsStrictlySortedBy}
use Rattle.std.specs.Map.{keys_of}
use Rattle.std.specs.Ordering.{nat_cmp}
use Rattle.std.specs.declared.cmp.Ordering.TheVariants.{Less}
use Rattle.std.proofs.lemmas.Bool.Decides.{nat_tests}
use Rattle.std.proofs.lemmas.Map.Keys.{sorted_tail}
use Rattle.std.proofs.lemmas.Map.Views.{All-after_first}
use Rattle.isle_missing.specs.declared.demand.Demand.{Demand}
use Rattle.isle_missing.specs.Demands.{passes}
use Rattle.isle_blocks.specs.declared.ids.BindingId.{BindingId}
use Rattle.isle_blocks.specs.declared.constraint.Constraint.{Constraint}
use Rattle.isle_blocks.specs.Rules.{site_cmp}
use Rattle.isle_coverage.specs.Inside.Rows.{IsTestDemand}
use Rattle.isle_coverage.proofs.Lists.{first_of, is_test, member_tail, no_member, test_of_demand}

-- the first demand, and the others
abbrev head_of : Demand → List Demand → Demand
head_of d [] = d
head_of d (x ∷ xs) = x

abbrev tail_of : List Demand → List Demand
tail_of [] = []
tail_of (x ∷ xs) = xs

heads : (x y : Demand) (xs ys : List Demand) → x ∷ xs ≡ y ∷ ys → x ≡ y
heads x y xs ys e = ap (head_of x) e

tails : (x y : Demand) (xs ys : List Demand) → x ∷ xs ≡ y ∷ ys → xs ≡ ys
tails x y xs ys e = ap tail_of e

-- less by their order
pub less_apart : (m n : ℕ) → nat_cmp m n ≡ Less → m < n
less_apart m n e = grind (arith, nat_tests)

-- the site of a test is a key
key_in : (tests : List (BindingId × Constraint)) (id : BindingId) (c : Constraint) → Contains tests (id, c) → Contains (keys_of tests) id
key_in [] id c m = absurd (no_member (id, c) m)
key_in (x ∷ xs) id c (zero, below, same) = (0, omega arith, ap (λ (p : BindingId × Constraint). p.0) same)
key_in (x ∷ xs) id c (suc k, below, same) = let (j, low, e) = key_in xs id c (k, omega arith, same) in (suc j, omega arith, e)

-- the sites behind the first are greater
later_key : (x : BindingId × Constraint) (xs : List (BindingId × Constraint)) (id : BindingId) → IsStrictlySortedBy site_cmp (keys_of (x ∷ xs))
    → Contains (keys_of xs) id → x.0.0 < id.0
later_key x xs id sorted (k, low, e) =
    less_apart x.0.0 id.0
    (subst (λ (q : BindingId). site_cmp x.0 q ≡ Less) e (All-after_first site_cmp x.0 (keys_of xs) sorted k id low))

-- A test of a lesser site stands before.
pub before_test : (table : List Constraint) (tests : List (BindingId × Constraint)) (tested others front back : List Demand) (s t u w : ℕ)
    → AllZip (IsTestDemand table) tests tested → IsStrictlySortedBy site_cmp (keys_of tests)
    → tested ++ others ≡ front ++ passes s t ∷ back → u < s → Contains tested (passes u w) → Contains front (passes u w)
before_test table tests [] others front back s t u w z sorted e low m = absurd (no_member (passes u w) m)
before_test table [] (d ∷ ds) others front back s t u w z sorted e low m = absurd z
before_test table (x ∷ xs) (d ∷ ds) others [] back s t u w z sorted e low (zero, below, same) =
    let here : d ≡ passes s t = heads d (passes s t) (ds ++ others) back e in
    let one : u ≡ s = ap first_of (sym same ∙ here) in absurd (omega (arith, one, low))
before_test table (x ∷ xs) (d ∷ ds) others [] back s t u w z sorted e low (suc k, below, same) =
    let here : d ≡ passes s t = heads d (passes s t) (ds ++ others) back e in
    let (site, c, there, of, numbered) = test_of_demand table xs ds u w (z.1) (k, omega arith, same) in
    let (v, first, is) = z.0 in
    let own : x.0.0 ≡ s = ap first_of (sym is ∙ here) in
    let less : x.0.0 < site.0 = later_key x xs site sorted (key_in xs site c there) in
    absurd (omega (arith, own, less, of, low))
before_test table (x ∷ xs) (d ∷ ds) others (f ∷ front) back s t u w z sorted e low (zero, below, same) =
    (0, omega arith, sym (heads d f (ds ++ others) (front ++ passes s t ∷ back) e) ∙ same)
before_test table (x ∷ xs) (d ∷ ds) others (f ∷ front) back s t u w z sorted e low (suc k, below, same) =
    member_tail f (passes u w) front
    (before_test table xs ds others front back s t u w (z.1) (sorted_tail site_cmp x.0 (keys_of xs) sorted)
    (tails d f (ds ++ others) (front ++ passes s t ∷ back) e) low (k, omega arith, same))

-- All tests stand before what is none.
pub before_same : (table : List Constraint) (tests : List (BindingId × Constraint)) (tested others front back : List Demand) (d : Demand) (u w : ℕ)
    → AllZip (IsTestDemand table) tests tested → is_test d ≡ false
    → tested ++ others ≡ front ++ d ∷ back → Contains tested (passes u w) → Contains front (passes u w)
before_same table tests [] others front back d u w z none e m = absurd (no_member (passes u w) m)
before_same table [] (x ∷ xs) others front back d u w z none e m = absurd z
before_same table (y ∷ ys) (x ∷ xs) others [] back d u w z none e m =
    let (v, first, is) = z.0 in
    let here : is_test d ≡ true = ap is_test (sym (heads x d (xs ++ others) back e) ∙ is) in
    absurd (let f : false ≡ true = sym none ∙ here in cc)
before_same table (y ∷ ys) (x ∷ xs) others (f ∷ front) back d u w z none e (zero, below, same) =
    (0, omega arith, sym (heads x f (xs ++ others) (front ++ d ∷ back) e) ∙ same)
before_same table (y ∷ ys) (x ∷ xs) others (f ∷ front) back d u w z none e (suc k, below, same) =
    member_tail f (passes u w) front
    (before_same table ys xs others front back d u w (z.1) none (tails x f (xs ++ others) (front ++ d ∷ back) e) (k, omega arith, same))
