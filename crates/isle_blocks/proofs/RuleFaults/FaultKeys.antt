-- The faults that are found by keys of rules.
-- The order of keys.
pub mod Order
-- Pairs of places in order.
pub mod Pairs
use Rattle.std.proofs.Common.{◌≡◌, ◌<◌, ◌+◌, ◌++◌, ◌⊎◌, inl, inr, ℕ, zero, suc, List, [], ◌∷◌, length, get_or, Option, Some, None, slice_get}
use Rattle.std.proofs.Common.{Equal, refl, sym, ap, subst, ◌∙◌, arith}
use Rattle.std.specs.Prelude.{ℤ, ◌<ℤ◌, Contains, IsPermutation, IsSorted}
use Rattle.std.specs.BTreeMap.{is_at}
use Rattle.std.specs.Map.{lookup}
use Rattle.std.specs.List.{dedup}
use Rattle.std.specs.Ordering.{nat_cmp, MatchOrdering}
use Rattle.std.specs.declared.cmp.Ordering.{Ordering}
use Rattle.std.specs.Cmp.{Equal-is, ranks}
use Rattle.std.proofs.lemmas.Bool.{cases_eq, cases_lt}
use Rattle.std.proofs.lemmas.Option.{same_Some, slice_get_within, slice_get-get_or}
use Rattle.std.proofs.lemmas.List.Elements.{Contains-append_left, Contains-append_right, Contains-append_cases}
use Rattle.std.proofs.lemmas.Map.Entries.{place_from_lookup}
use lib.Signed.{<ℤ_irrefl}
use Rattle.isle_blocks.specs.declared.ids.BindingId.{BindingId}
use Rattle.isle_blocks.specs.declared.constraint.Constraint.{Constraint}
use Rattle.isle_blocks.specs.declared.rule.Rule.{Rule}
use Rattle.isle_blocks.specs.declared.faults.Fault.{Fault}
use Rattle.isle_blocks.specs.declared.faults.Fault.TheVariants.{Overlap, Shadow}
use Rattle.isle_blocks.specs.Rules.{Tests, Differ, site_cmp}
use Rattle.isle_blocks.specs.FaultsBetween.{FaultAt, ListsPairs}
use Rattle.isle_blocks.specs.Inside.FaultKeys.{Key, test_at, AreKeys, MayMeet, IsEarlier, IsListed, FindsFaults, AddsFault}
use Rattle.isle_blocks.proofs.Counting.{stands_at}
use Rattle.isle_blocks.proofs.RuleFaults.FaultKeys.Order.{none_meets}
use Rattle.isle_blocks.proofs.RuleFaults.FaultKeys.Pairs.{pair_order, pairs_eq, listed_once}

-- faults are of places in the list
pub fault_in_range : (rules : List Rule) (fault : Fault) (i j : ℕ) → FaultAt rules fault i j → (i < length rules) × (j < length rules)
fault_in_range rules Overlap i j f = (slice_get_within rules i _ f.first_at, slice_get_within rules j _ f.second_at)
fault_in_range rules Shadow i j f = (slice_get_within rules i _ f.high_at, slice_get_within rules j _ f.low_at)

-- no rule has a fault with itself
pub not_itself : (rules : List Rule) (fault : Fault) (i j : ℕ) → FaultAt rules fault i j → i ≡ j → ⊥
not_itself rules Overlap i j f same = let less = f.in_order in absurd (omega arith)
not_itself rules Shadow i j f same =
    let one : f.high ≡ f.low = same_Some f.high f.low (sym f.high_at ∙ ap (λ (x : ℕ). slice_get rules x) same ∙ f.low_at) in
    let above = f.shadow.above in
    <ℤ_irrefl (subst (λ (z : ℤ). f.low.prio <ℤ z) (ap (λ (r : Rule). r.prio) one) above)

-- rules that differ have none
pub differ_apart : (rules : List Rule) (fault : Fault) (i j : ℕ) (a b : Rule) → slice_get rules i ≡ Some a → slice_get rules j ≡ Some b → Differ a b
    → FaultAt rules fault i j → ⊥
differ_apart rules Overlap i j a b at there differ f =
    let one : a ≡ f.first = same_Some a f.first (sym at ∙ f.first_at) in
    let other : b ≡ f.second = same_Some b f.second (sym there ∙ f.second_at) in
    f.overlap.1 (subst (λ (x : Rule). Differ x f.second) one (subst (λ (y : Rule). Differ a y) other differ))
differ_apart rules Shadow i j a b at there differ f =
    let one : a ≡ f.high = same_Some a f.high (sym at ∙ f.high_at) in
    let other : b ≡ f.low = same_Some b f.low (sym there ∙ f.low_at) in
    f.shadow.meet (subst (λ (x : Rule). Differ x f.low) one (subst (λ (y : Rule). Differ a y) other differ))

turned_differ : (a b : Rule) → Differ a b → Differ b a
turned_differ a b d = record {
  site = d.site;
  one = d.other;
  other = d.one;
  has_one = d.has_other;
  has_other = d.has_one;
  differ = λ e. d.differ (sym e);
}

-- the test that is found of a site is one of the tests
found_in : (site : BindingId) (tests : Tests) (test : Constraint) → lookup (is_at (site_cmp site)) tests ≡ Some test → Contains tests (site, test)
found_in site tests test h =
    let (i, key, at, is) = place_from_lookup (is_at (site_cmp site)) tests test h in
    let same : site.0 ≡ key.0 = subst (λ (r : Ordering). MatchOrdering r (site.0 < key.0) (site.0 ≡ key.0) (key.0 < site.0))
    ((Equal-is (nat_cmp site.0 key.0)).0 is) (ranks site.0 key.0) in
    let one : key ≡ site = λ x. record { 0 = (sym same) x } in
    stands_at tests i (site, test) (at ∙ ap (λ (k : BindingId). Some (k, test)) one)

tests_differ : (site : BindingId) (a b : Rule) (t u : Option Constraint) → test_at site a ≡ t → test_at site b ≡ u → (MayMeet t u → ⊥) → Differ a b
tests_differ site a b None u at there apart = absurd (apart (inl refl))
tests_differ site a b (Some x) None at there apart = absurd (apart (inr (inl refl)))
tests_differ site a b (Some x) (Some y) at there apart = record {
  site = site;
  one = x;
  other = y;
  has_one = found_in site a.constraints x at;
  has_other = found_in site b.constraints y there;
  differ = λ e. apart (inr (inr (ap Some e)));
}

module _ (site : BindingId) (rules : List Rule) (keys : List Key) (are : AreKeys site rules keys) where
  -- rules of keys that may not meet have no fault
  pub no_fault : (fault : Fault) (p l : ℕ) (a c : Key) → slice_get keys p ≡ Some a → slice_get keys l ≡ Some c → (MayMeet a.0 c.0 → ⊥)
      → (FaultAt rules fault a.1 c.1 → ⊥) × (FaultAt rules fault c.1 a.1 → ⊥)
  no_fault fault p l a c p_at l_at apart =
      let (one, one_at, first) = are.each p a p_at in
      let (other, other_at, second) = are.each l c l_at in
      let differ = tests_differ site one other a.0 c.0 (sym first) (sym second) apart in (
        differ_apart rules fault a.1 c.1 one other one_at other_at differ,
        differ_apart rules fault c.1 a.1 other one other_at one_at (turned_differ one other differ),
      )

-- ---- faults found so far

module _ (rules : List Rule) (fault : Fault) (keys : List Key) (P Q : ℕ → ℕ → Type 0) where
  -- pairs of keys without a fault are no more to find
  pub finds_also : (pairs : List (ℕ × ℕ)) → FindsFaults rules fault keys P pairs
      → ((k l : ℕ) (a b : Key) → Q k l → slice_get keys k ≡ Some a → slice_get keys l ≡ Some b
      → P k l ⊎ ((FaultAt rules fault a.1 b.1 → ⊥) × (FaultAt rules fault b.1 a.1 → ⊥)))
      → FindsFaults rules fault keys Q pairs
  finds_also pairs finds cases = record {
    sound = finds.sound;
    all = λ k l a b q at there. elim (cases k l a b q at there) [
      | inl p ↦ finds.all k l a b p at there
      | inr none ↦ (λ f. absurd (none.0 f), λ f. absurd (none.1 f))
    ];
  }

  -- the pair of two keys is added, either way round
  pub finds_more : (old mid new : List (ℕ × ℕ)) (k l : ℕ) (a b : Key) → slice_get keys k ≡ Some a → slice_get keys l ≡ Some b
      → FindsFaults rules fault keys P old → AddsFault rules fault a.1 b.1 old mid → AddsFault rules fault b.1 a.1 mid new
      → ((x y : ℕ) → Q x y → P x y ⊎ ((x ≡ k) × (y ≡ l))) → FindsFaults rules fault keys Q new
  finds_more old mid new k l a b a_at b_at finds first second cases = record {
    sound = λ i j h. elim (second.only i j h) [
      | inl before ↦ elim (first.only i j before) [ inl earlier ↦ finds.sound i j earlier | inr f ↦ f ]
      | inr f ↦ f
    ];
    all = λ x y c d q c_at d_at. elim (cases x y q) [
      | inl p ↦
          let (ahead, back) = finds.all x y c d p c_at d_at in
          (λ f. second.kept (c.1, d.1) (first.kept (c.1, d.1) (ahead f)), λ f. second.kept (d.1, c.1) (first.kept (d.1, c.1) (back f)))
      | inr (e, g) ↦
          let one : a ≡ c = same_Some a c (sym a_at ∙ ap (λ (n : ℕ). slice_get keys n) (sym e) ∙ c_at) in
          let other : b ≡ d = same_Some b d (sym b_at ∙ ap (λ (n : ℕ). slice_get keys n) (sym g) ∙ d_at) in
          subst (λ (z : Key). IsListed rules fault new z.1 d.1 × IsListed rules fault new d.1 z.1) one
          (subst (λ (z : Key). IsListed rules fault new a.1 z.1 × IsListed rules fault new z.1 a.1) other
          (λ f. second.kept (a.1, b.1) (first.added f), second.added))
    ];
  }

only_one : (x y : ℕ × ℕ) → Contains (x ∷ []) y → x ≡ y
only_one x y (zero, within, is) = is
only_one x y (suc k, within, is) = absurd (omega arith)

-- a pair that has the fault comes last
pub adds_pair : (rules : List Rule) (fault : Fault) (i j : ℕ) (old new : List (ℕ × ℕ)) → new ≡ old ++ (i, j) ∷ [] → FaultAt rules fault i j
    → AddsFault rules fault i j old new
adds_pair rules fault i j old new is f = record {
  kept = λ pair h. into pair (Contains-append_left old ((i, j) ∷ []) pair h);
  added = λ g. into (i, j) (Contains-append_right old ((i, j) ∷ []) (i, j) (0, omega arith, refl));
  only = λ p q h. elim (Contains-append_cases old ((i, j) ∷ []) (p, q) (subst (λ (l : List (ℕ × ℕ)). Contains l (p, q)) is h)) [
    | inl before ↦ inl before
    | inr last ↦ inr (subst (λ (x : ℕ × ℕ). FaultAt rules fault x.0 x.1) (only_one (i, j) (p, q) last) f)
  ];
}
  where
    into : (pair : ℕ × ℕ) → Contains (old ++ (i, j) ∷ []) pair → Contains new pair
    into pair h = subst (λ (l : List (ℕ × ℕ)). Contains l pair) (sym is) h

-- ---- the pairs of one key

-- a pair of keys of which the first stands before a place, or at it and the second before another
abbrev pub IsCompared : ℕ → ℕ → ℕ → ℕ → Type 0
IsCompared first second k l = IsEarlier first k l ⊎ ((k ≡ first) × (k < l) × (l < second))

module _ (rules : List Rule) (fault : Fault) (keys : List Key) (first : ℕ) where
  -- none yet
  pub compared_none : (pairs : List (ℕ × ℕ)) → FindsFaults rules fault keys (IsEarlier first) pairs
      → FindsFaults rules fault keys (IsCompared first (first + 1)) pairs
  compared_none pairs finds = finds_also rules fault keys (IsEarlier first) (IsCompared first (first + 1)) pairs finds
      (λ k l a b q at there. elim q [ inl p ↦ inl p | inr (e, less, below) ↦ absurd (omega arith) ])

  -- one more
  pub compared_more : (second : ℕ) (a b : Key) (old mid new : List (ℕ × ℕ)) → slice_get keys first ≡ Some a → slice_get keys second ≡ Some b
      → FindsFaults rules fault keys (IsCompared first second) old → AddsFault rules fault a.1 b.1 old mid → AddsFault rules fault b.1 a.1 mid new
      → FindsFaults rules fault keys (IsCompared first (second + 1)) new
  compared_more second a b old mid new a_at b_at finds one other =
      finds_more rules fault keys (IsCompared first second) (IsCompared first (second + 1)) old mid new first second a b a_at b_at finds one other
      (λ x y q. elim q [
        | inl p ↦ inl (inl p)
        | inr (e, less, below) ↦ elim (cases_lt y second) [ inl before ↦ inl (inr (e, less, before)) | inr last ↦ inr (e, omega arith) ]
      ])

  -- all that may meet
  pub compared_all : (site : BindingId) (end : ℕ) (pairs : List (ℕ × ℕ)) → AreKeys site rules keys → first < length keys → first < end
      → ((a b : Key) → slice_get keys first ≡ Some a → slice_get keys end ≡ Some b → MayMeet a.0 b.0 → ⊥)
      → FindsFaults rules fault keys (IsCompared first end) pairs → FindsFaults rules fault keys (IsEarlier (first + 1)) pairs
  compared_all site end pairs are within behind stops finds =
      finds_also rules fault keys (IsCompared first end) (IsEarlier (first + 1)) pairs finds
      (λ k l a b (early, less) at there. elim (cases_lt k first) [
        | inl before ↦ inl (inl (before, less))
        | inr last ↦ elim (cases_lt l end) [
          | inl near ↦ inl (inr (omega arith, less, near))
          | inr far ↦
              let same : k ≡ first = omega arith in
              let here : slice_get keys first ≡ Some a = ap (λ (n : ℕ). slice_get keys n) (sym same) ∙ at in
              let inside = slice_get_within keys l b there in
              let stop : slice_get keys end ≡ Some (get_or keys end b) = slice_get-get_or keys end b (omega arith) in
              inr (no_fault site rules keys are fault first l a b here there
              (none_meets site rules keys are first end l a (get_or keys end b) b here stop there behind far (stops a (get_or keys end b) here stop)))
        ]
      ])

-- ---- all pairs

-- with all pairs of keys compared, all faults are listed
pub all_found : (site : BindingId) (rules : List Rule) (fault : Fault) (keys : List Key) (made sorted left : List (ℕ × ℕ)) → AreKeys site rules keys
    → FindsFaults rules fault keys (IsEarlier (length keys)) made → IsPermutation made sorted → IsSorted pair_order sorted
    → left ≡ dedup pairs_eq sorted → ListsPairs (FaultAt rules fault) left
all_found site rules fault keys made sorted left are finds moved ascends once =
    listed_once (FaultAt rules fault) made sorted left moved ascends once (λ i j. (finds.sound i j, listed i j))
  where
    listed : (i j : ℕ) → FaultAt rules fault i j → Contains made (i, j)
    listed i j f =
        let (i_in, j_in) = fault_in_range rules fault i j f in
        let (p, a, p_at, first) = are.all i i_in in
        let (q, b, q_at, second) = are.all j j_in in
        let here : FaultAt rules fault a.1 b.1 =
        subst (λ (x : ℕ). FaultAt rules fault x b.1) (sym first) (subst (λ (y : ℕ). FaultAt rules fault i y) (sym second) f) in
        let p_in = slice_get_within keys p a p_at in
        let q_in = slice_get_within keys q b q_at in
        let told : Contains made (a.1, b.1) = elim (cases_lt p q) [
          | inl less ↦ (finds.all p q a b (p_in, less) p_at q_at).0 here
          | inr more ↦ elim (cases_eq p q) [
            | inl same ↦
                let one : a ≡ b = same_Some a b (sym p_at ∙ ap (λ (x : ℕ). slice_get keys x) same ∙ q_at) in
                absurd (not_itself rules fault a.1 b.1 here (ap (λ (k : Key). k.1) one))
            | inr other ↦ (finds.all q p b a (q_in, omega arith) q_at p_at).1 here
          ]
        ] in
        subst (λ (x : ℕ). Contains made (x, j)) first (subst (λ (y : ℕ). Contains made (a.1, y)) second told)
