-- Pairs of places in order, each once.
use Rattle.std.proofs.Common.{Bool, true, ◌&&◌, nat_eq, ◌≡◌, ◌<◌, inl, inr, ℕ, zero, suc, List, [], ◌∷◌, length, get_or}
use Rattle.std.proofs.Common.{Ordering, Less, Equal, Greater, refl, sym, ap, subst, ◌∙◌, ◌↔◌, arith}
use Rattle.std.specs.Prelude.{Contains, IsPermutation, IsSorted}
use Rattle.std.specs.Ordering.{nat_cmp, ordering_then, eq_by_cmp, MatchOrdering}
use Rattle.std.specs.Cmp.{IsTotalOrder, IsEquivalence, Equal-is, ranks, then_total, on_total, nat_cmp_total, and_equiv, on_equiv, nat_eq_equiv}
use Rattle.std.specs.Cmp.{both_tied, unsigned_ties}
use Rattle.std.specs.List.Sorted.{IsStrictlySortedBy}
use Rattle.std.specs.List.{dedup}
use Rattle.std.proofs.lemmas.List.Elements.{All-from_recursion}
use Rattle.std.proofs.lemmas.List.Kept.{Contains-dedup, Contains-from_dedup, IsStrictlySortedBy-dedup}
use Rattle.std.proofs.lemmas.List.Sorted.{Contains-permutation, IsPermutation-sym}
use Rattle.isle_blocks.specs.FaultsBetween.{IsBefore, ListsPairs}

abbrev pub pair_order : ℕ × ℕ → ℕ × ℕ → Ordering
pair_order p q = ordering_then (nat_cmp p.0 q.0) (nat_cmp p.1 q.1)

nat_less : (x y : ℕ) → nat_cmp x y ≡ Less → x < y
nat_less x y e = subst (λ (r : Ordering). MatchOrdering r (x < y) (x ≡ y) (y < x)) e (ranks x y)

nat_same : (x y : ℕ) → nat_cmp x y ≡ Equal → x ≡ y
nat_same x y e = subst (λ (r : Ordering). MatchOrdering r (x < y) (x ≡ y) (y < x)) e (ranks x y)

order_before : (p q : ℕ × ℕ) → pair_order p q ≡ Less → IsBefore p q.0 q.1
order_before p q less = by (nat_cmp p.0 q.0) refl
  where
    by : (r : Ordering) → nat_cmp p.0 q.0 ≡ r → IsBefore p q.0 q.1
    by Less e = inl (nat_less p.0 q.0 e)
    by Equal e = inr (nat_same p.0 q.0 e, nat_less p.1 q.1 (sym (ap (λ (r : Ordering). ordering_then r (nat_cmp p.1 q.1)) e) ∙ less))
    by Greater e = absurd (let x = sym (ap (λ (r : Ordering). ordering_then r (nat_cmp p.1 q.1)) e) ∙ less in cc)

-- pairs in strictly ascending order
sorted_before : (pairs : List (ℕ × ℕ)) → IsStrictlySortedBy pair_order pairs → (k l : ℕ) (d : ℕ × ℕ) → k < l → l < length pairs
    → pair_order (get_or pairs k d) (get_or pairs l d) ≡ Less
unfolding IsStrictlySortedBy
sorted_before [] sorted k l d less within = absurd (omega arith)
sorted_before (x ∷ xs) sorted zero zero d less within = absurd (omega arith)
sorted_before (x ∷ xs) sorted zero (suc l) d less within = All-from_recursion (λ (y : ℕ × ℕ). pair_order x y ≡ Less) xs sorted.0 l d (omega arith)
sorted_before (x ∷ xs) sorted (suc k) zero d less within = absurd (omega arith)
sorted_before (x ∷ xs) sorted (suc k) (suc l) d less within = sorted_before xs sorted.1 k l d (omega arith) (omega arith)

then_equal : (r s : Ordering) → ordering_then r s ≡ Equal → (r ≡ Equal) × (s ≡ Equal)
then_equal Less s e = absurd cc
then_equal Equal s e = (refl, e)
then_equal Greater s e = absurd cc

-- pairs that the order doesn't tell apart are one
same_pair : (p q : ℕ × ℕ) → pair_order p q ≡ Equal → p ≡ q
same_pair p q is =
    let (first, second) = then_equal (nat_cmp p.0 q.0) (nat_cmp p.1 q.1) is in
    λ i. (nat_same p.0 q.0 first i, nat_same p.1 q.1 second i)

pairs_total : IsTotalOrder pair_order
pairs_total = then_total (on_total (λ (p : ℕ × ℕ). p.0) nat_cmp_total) (on_total (λ (p : ℕ × ℕ). p.1) nat_cmp_total)

abbrev pub pairs_eq : ℕ × ℕ → ℕ × ℕ → Bool
pairs_eq p q = nat_eq p.0 q.0 && nat_eq p.1 q.1

pairs_equiv : IsEquivalence pairs_eq
pairs_equiv = and_equiv (on_equiv (λ (p : ℕ × ℕ). p.0) nat_eq_equiv) (on_equiv (λ (p : ℕ × ℕ). p.1) nat_eq_equiv)

pairs_tied : (p q : ℕ × ℕ) → pairs_eq p q ≡ eq_by_cmp pair_order p q
pairs_tied p q = both_tied (nat_eq p.0 q.0) (nat_eq p.1 q.1) (nat_cmp p.0 q.0) (nat_cmp p.1 q.1) (unsigned_ties p.0 q.0) (unsigned_ties p.1 q.1)

one_pair : (p q : ℕ × ℕ) → pairs_eq p q ≡ true → p ≡ q
one_pair p q e = same_pair p q ((Equal-is (pair_order p q)).0 (sym (pairs_tied p q) ∙ e))

-- pairs made, sorted, each left once
pub listed_once : (P : ℕ → ℕ → Type 0) (made sorted left : List (ℕ × ℕ)) → IsPermutation made sorted → IsSorted pair_order sorted
    → left ≡ dedup pairs_eq sorted → ((i j : ℕ) → Contains made (i, j) ↔ P i j) → ListsPairs P left
listed_once P made sorted left moved ascends once all = subst (λ (pairs : List (ℕ × ℕ)). ListsPairs P pairs) (sym once) (record {
  all = λ i j. (λ h. (all i j).0 (came (i, j) (Contains-from_dedup pairs_eq sorted (i, j) h)), λ p. stays (i, j) ((all i j).1 p));
  ascending = λ k l d less within. order_before (get_or (dedup pairs_eq sorted) k d) (get_or (dedup pairs_eq sorted) l d)
      (sorted_before (dedup pairs_eq sorted) (IsStrictlySortedBy-dedup pairs_total pairs_tied sorted ascends) k l d less within);
})
  where
    came : (pair : ℕ × ℕ) → Contains sorted pair → Contains made pair
    came pair h = Contains-permutation sorted made pair (IsPermutation-sym made sorted moved) h

    stays : (pair : ℕ × ℕ) → Contains made pair → Contains (dedup pairs_eq sorted) pair
    stays pair h = Contains-dedup pairs_equiv one_pair sorted pair (Contains-permutation made sorted pair moved h)
