-- How groups of pairs are made: counts of partners, the greatest of them, and what is left.
use Rattle.std.proofs.Common.{◌≡◌, ◌≢◌, ℕ, ◌+◌, ◌<◌, ◌≤◌, List, [], ◌∷◌, ◌++◌, length, get_or, slice_get, take, cond, not, ◌==◌}
use Rattle.std.proofs.Common.{Bool, Some, None, option_map, is_some, true, false, refl, sym, ap, ◌∙◌, inl, inr, eq-eqb, arith, append_assoc}
use Rattle.std.specs.Cmp.{IsTotalOrder}
use Rattle.std.specs.Ordering.{is_gt, ordering_reverse}
use Rattle.std.specs.declared.cmp.Ordering.{Ordering}
use Rattle.std.specs.declared.cmp.Ordering.TheVariants.{Less, Equal, Greater}
use Rattle.std.proofs.lemmas.Bool.{cases_eq, cases_lt, cases_Bool}
use Rattle.std.proofs.lemmas.Bool.Decides.{Decides-eqb}
use Rattle.std.proofs.lemmas.Cmp.{upto, tied_itself, nat_cmp_total, on_total, then_total}
use Rattle.std.proofs.lemmas.List.{append-nil, take_more}
use Rattle.std.proofs.lemmas.List.Elements.{All-filter, All-head, filter_map-append}
use Rattle.std.proofs.lemmas.List.Filters.{length-filter_both}
use Rattle.std.proofs.lemmas.List.Sums.{length-filter, sum_by-cons}
use Rattle.std.proofs.lemmas.Option.{slice_get-get_or, get_or_from_slice_get, slice_get_within}
use Rattle.isle_ast.specs.declared.pos.Pos.{Pos}
use Rattle.isle_blocks.specs.declared.faults.Fault.{Fault}
use Rattle.isle_blocks.specs.declared.faults.Fault.TheVariants.{Overlap, Shadow}
use Rattle.isle_blocks.specs.declared.report.RulePlace.{RulePlace}
use Rattle.isle_blocks.specs.declared.report.Group.{Group}
use Rattle.isle_blocks.specs.Reports.{ArePairs, AreGroups, headed, no_pairs, AddsGroups, IsBelow, IsGreatest, IsGroup, partner, partners}
use Rattle.isle_blocks.specs.Reports.{partner_count, pairs_without, positions, place_order}

abbrev IsPair : ℕ → ℕ × ℕ → Type 0
IsPair n pair = (pair.0 < n) × (pair.1 < n) × (pair.0 ≢ pair.1)

-- the counts of the partners among some pairs
pub record AreCounts (fault : Fault) (n : ℕ) (pairs : List (ℕ × ℕ)) (counts : List ℕ) : Type 0 where
  pub len : length counts ≡ n
  pub each : (i : ℕ) → i < n → get_or counts i 0 ≡ partner_count fault i pairs

-- the greatest of the first n
pub record IsBest (rules : List RulePlace) (counts : List ℕ) (n best : ℕ) : Type 0 where
  pub in_range : best < n
  pub most : (j : ℕ) → j < n → get_or counts j 0 ≤ get_or counts best 0
  pub last : (j : ℕ) (d : RulePlace) → j < n → get_or counts j 0 ≡ get_or counts best 0
      → is_gt (place_order (get_or rules j d) (get_or rules best d)) ≡ false

-- the groups so far, with those of the pairs left, are the ones to add
pub record IsGrouping (fault : Fault) (rules : List RulePlace) (pairs left : List (ℕ × ℕ)) (old found : List Group) : Type 0 where
  pub in_range : ArePairs (length rules) left
  pub grown : (rest : List Group) → AreGroups fault rules left rest → AddsGroups fault rules pairs old (found ++ rest)

-- a rule, for places past the end
abbrev pub any_place : RulePlace
any_place = record { pos = record { file = 0; offset = 0 }; id = record { 0 = 0 } }

place_total : IsTotalOrder place_order
place_total =
    then_total
    (on_total (λ (p : RulePlace). p.pos) (then_total (on_total (λ (q : Pos). q.file) nat_cmp_total) (on_total (λ (q : Pos). q.offset) nat_cmp_total)))
    (on_total (λ (p : RulePlace). p.id.0) nat_cmp_total)

is_greater : (o : Ordering) → is_gt o ≡ true → o ≡ Greater
is_greater Less e = cc
is_greater Equal e = cc
is_greater Greater e = refl

module _ (rules : List RulePlace) (counts : List ℕ) (n best : ℕ) where
  pub below_by_count : n < length rules → best < length rules → get_or counts best 0 < get_or counts n 0 → IsBelow rules counts best n
  below_by_count ln lb lt = record {
    first = get_or rules best any_place;
    second = get_or rules n any_place;
    first_at = slice_get-get_or rules best any_place lb;
    second_at = slice_get-get_or rules n any_place ln;
    below = inl lt;
  }

  -- a place that is above the best becomes it
  pub best_takes : IsBest rules counts n best → IsBelow rules counts best n → IsBest rules counts (n + 1) n
  best_takes b below = record {
    in_range = omega arith;
    most = λ j lj. let no_less : get_or counts best 0 ≤ get_or counts n 0 = elim below.below [ inl lt ↦ omega arith | inr (e, less) ↦ omega arith ] in
        elim (cases_eq j n) [
          | inl same ↦ let e = ap (λ k. get_or counts k 0) same in omega arith
          | inr other ↦ let m = b.most j (omega arith) in omega arith
        ];
    last = λ j d lj same. elim (cases_eq j n) [
      | inl e ↦ rw (e, tied_itself place_total (get_or rules n d)) refl
      | inr other ↦
          let m = b.most j (omega arith) in
          elim below.below [
            | inl lt ↦ absurd (omega arith)
            | inr (e, less) ↦
                let first = get_or_from_slice_get rules best below.first d below.first_at in
                let second = get_or_from_slice_get rules n below.second d below.second_at in
                let early = b.last j d (omega arith) (omega arith) in
                let late : is_gt (place_order (get_or rules best d) (get_or rules n d)) ≡ false = rw (first, second, less) refl in
                upto place_total (get_or rules j d) (get_or rules best d) (get_or rules n d) early late
          ]
    ];
  }

  -- a place that is not above the best leaves it
  pub best_keeps : IsBest rules counts n best → n < length rules → (IsBelow rules counts best n → ⊥) → IsBest rules counts (n + 1) best
  best_keeps b ln not_below =
      let lb = b.in_range in
      let no_more : get_or counts n 0 ≤ get_or counts best 0 = elim (cases_lt (get_or counts best 0) (get_or counts n 0)) [
        | inl lt ↦ absurd (not_below (below_by_count ln (omega arith) lt))
        | inr le ↦ le
      ] in
      record {
        in_range = omega arith;
        most = λ j lj. elim (cases_eq j n) [
          | inl same ↦ let e = ap (λ k. get_or counts k 0) same in omega arith
          | inr other ↦ b.most j (omega arith)
        ];
        last = λ j d lj same. elim (cases_eq j n) [
          | inl e ↦
              let f = ap (λ k. get_or counts k 0) e in
              rw e (elim (cases_Bool (is_gt (place_order (get_or rules n d) (get_or rules best d)))) [
                | inl t ↦
                    let less : place_order (get_or rules best d) (get_or rules n d) ≡ Less =
                    place_total.antisymm (get_or rules best d) (get_or rules n d) ∙ ap ordering_reverse (is_greater _ t) in
                    absurd (not_below (record {
                      first = get_or rules best d;
                      second = get_or rules n d;
                      first_at = slice_get-get_or rules best d (omega arith);
                      second_at = slice_get-get_or rules n d ln;
                      below = inr (omega arith, less);
                    }))
                | inr none ↦ none
              ])
          | inr other ↦ b.last j d (omega arith) same
        ];
      }

pub greatest_from_best : (rules : List RulePlace) (counts : List ℕ) (best : ℕ) → IsBest rules counts (length rules) best
    → IsGreatest rules (λ i. get_or counts i 0) best
greatest_from_best rules counts best b = record {
  rule = get_or rules best any_place;
  at = slice_get-get_or rules best any_place b.in_range;
  most = b.most;
  last = λ j other at same.
      let e = get_or_from_slice_get rules j other any_place at in
      rw e at (b.last j any_place (slice_get_within rules j other at) same);
}

-- the same by another way to count
pub greatest_by : (rules : List RulePlace) (f g : ℕ → ℕ) (i : ℕ) → ((j : ℕ) → j < length rules → f j ≡ g j)
    → IsGreatest rules f i → IsGreatest rules g i
greatest_by rules f g i same m =
    let here = same i (slice_get_within rules i m.rule m.at) in
    record {
      rule = m.rule;
      at = m.at;
      most = λ j lj. let e = same j lj in let o = m.most j lj in omega arith;
      last = λ j other at e. let f = same j (slice_get_within rules j other at) in m.last j other at (omega arith);
    }

-- a pair more: its other place comes behind, if it is headed by the place
pub positions_some : (rules : List RulePlace) (fault : Fault) (i : ℕ) (pairs : List (ℕ × ℕ)) (k other : ℕ) (rule : RulePlace) (d : ℕ × ℕ)
    → k < length pairs → partner fault i (get_or pairs k d) ≡ Some other → slice_get rules other ≡ Some rule
    → positions rules (partners fault i (take (k + 1) pairs)) ≡ positions rules (partners fault i (take k pairs)) ++ rule.pos ∷ []
positions_some rules fault i pairs k other rule d lt is at =
    rw (
      take_more pairs k d lt,
      filter_map-append (partner fault i) (take k pairs) (get_or pairs k d ∷ []),
      is,
      filter_map-append (λ j. option_map (λ (r : RulePlace). r.pos) (slice_get rules j)) (partners fault i (take k pairs)) (other ∷ []),
      at,
    ) refl

pub positions_none : (rules : List RulePlace) (fault : Fault) (i : ℕ) (pairs : List (ℕ × ℕ)) (k : ℕ) (d : ℕ × ℕ)
    → k < length pairs → partner fault i (get_or pairs k d) ≡ None
    → positions rules (partners fault i (take (k + 1) pairs)) ≡ positions rules (partners fault i (take k pairs))
positions_none rules fault i pairs k d lt is =
    rw (
      take_more pairs k d lt,
      filter_map-append (partner fault i) (take k pairs) (get_or pairs k d ∷ []),
      is,
      append-nil (partners fault i (take k pairs)),
    ) refl

-- pairs with a rule that heads some are fewer without it
pub fewer_without : (fault : Fault) (i : ℕ) (pairs : List (ℕ × ℕ)) → 0 < partner_count fault i pairs
    → length (pairs_without fault i pairs) < length pairs
fewer_without fault i pairs some =
    let p = λ (pair : ℕ × ℕ). is_some (partner fault i pair) in
    let both = length-filter_both p (λ pair. not (p pair)) (λ x. refl) pairs in
    let counted = length-filter p pairs in omega arith

first_heads : (fault : Fault) (pair : ℕ × ℕ) → is_some (partner fault pair.0 pair) ≡ true
first_heads Overlap pair = rw (eq-eqb pair.0 pair.0 refl) refl
first_heads Shadow pair = rw (eq-eqb pair.0 pair.0 refl) refl

-- where pairs are left, the greatest count isn't 0
pub some_headed : (fault : Fault) (rules : List RulePlace) (i : ℕ) (pair : ℕ × ℕ) (pairs : List (ℕ × ℕ)) → ArePairs (length rules) (pair ∷ pairs)
    → IsGreatest rules (λ j. partner_count fault j (pair ∷ pairs)) i → 0 < partner_count fault i (pair ∷ pairs)
some_headed fault rules i pair pairs in_range m =
    let (inside, second, apart) = All-head (IsPair (length rules)) pair pairs in_range in
    let most : partner_count fault pair.0 (pair ∷ pairs) ≤ partner_count fault i (pair ∷ pairs) = m.most pair.0 inside in
    let one : partner_count fault pair.0 (pair ∷ pairs) ≡ 1 + partner_count fault pair.0 pairs =
    sum_by-cons (λ (q : ℕ × ℕ). cond (is_some (partner fault pair.0 q)) 1 0) pair pairs
    ∙ ap (λ (b : Bool). cond b 1 0 + partner_count fault pair.0 pairs) (first_heads fault pair) in
    omega arith

-- one group more
pub grouping_step : (fault : Fault) (rules : List RulePlace) (pairs left : List (ℕ × ℕ)) (old found : List Group) (i : ℕ) (group : Group)
    → IsGrouping fault rules pairs left old found → 0 < partner_count fault i left → IsGreatest rules (λ j. partner_count fault j left) i
    → IsGroup fault rules i left group → IsGrouping fault rules pairs (pairs_without fault i left) old (found ++ group ∷ [])
grouping_step fault rules pairs left old found i group so_far some greatest is_group = record {
  in_range = All-filter (λ pair. not (is_some (partner fault i pair))) (IsPair (length rules)) left so_far.in_range;
  grown = λ rest groups. rw (append_assoc found (group ∷ []) rest) (so_far.grown (group ∷ rest) (headed some greatest is_group groups));
}

pub grouping_end : (fault : Fault) (rules : List RulePlace) (pairs left : List (ℕ × ℕ)) (old found : List Group)
    → IsGrouping fault rules pairs left old found → left ≡ [] → AddsGroups fault rules pairs old found
grouping_end fault rules pairs left old found g none =
    rw (append-nil found) at (g.grown [] (rw none no_pairs))

-- the greatest by counts of partners heads some pair
pub head_is : (fault : Fault) (rules : List RulePlace) (pairs : List (ℕ × ℕ)) (counts : List ℕ) (i : ℕ) → 0 < length pairs
    → ArePairs (length rules) pairs → ((j : ℕ) → j < length rules → get_or counts j 0 ≡ partner_count fault j pairs)
    → IsGreatest rules (λ j. get_or counts j 0) i
    → IsGreatest rules (λ j. partner_count fault j pairs) i × (0 < partner_count fault i pairs)
head_is fault rules [] counts i some in_range are m = absurd (omega arith)
head_is fault rules (pair ∷ pairs) counts i some in_range are m =
    let same = greatest_by rules (λ j. get_or counts j 0) (λ j. partner_count fault j (pair ∷ pairs)) i are m in
    (same, some_headed fault rules i pair pairs in_range same)

pub some_place : (rules : List RulePlace) (pairs : List (ℕ × ℕ)) → 0 < length pairs → ArePairs (length rules) pairs → 0 < length rules
some_place rules [] some in_range = absurd (omega arith)
some_place rules (pair ∷ pairs) some in_range = let (inside, second, apart) = All-head (IsPair (length rules)) pair pairs in_range in omega arith

partner_below : (fault : Fault) (i n : ℕ) (pair : ℕ × ℕ) (other : ℕ) → IsPair n pair → partner fault i pair ≡ Some other → other < n
partner_below Overlap i n pair other (first, second, apart) e = elim (cases_Bool (pair.0 == i)) [
  | inl t ↦ let f : Some pair.1 ≡ Some other = rw t at e in let g : pair.1 ≡ other = (cc) in omega arith
  | inr f ↦ elim (cases_Bool (pair.1 == i)) [
    | inl t ↦ let g : Some pair.0 ≡ Some other = rw (f, t) at e in let h : pair.0 ≡ other = (cc) in omega arith
    | inr g ↦ let h : None ≡ Some other = rw (f, g) at e in (cc)
  ]
]
partner_below Shadow i n pair other (first, second, apart) e = elim (cases_Bool (pair.0 == i)) [
  | inl t ↦ let f : Some pair.1 ≡ Some other = rw t at e in let g : pair.1 ≡ other = (cc) in omega arith
  | inr f ↦ let h : None ≡ Some other = rw f at e in (cc)
]

-- partners are places of the list
pub partner_in_range : (fault : Fault) (i n : ℕ) (pairs : List (ℕ × ℕ)) (k other : ℕ) → ArePairs n pairs → k < length pairs
    → partner fault i (get_or pairs k (0, 0)) ≡ Some other → other < n
partner_in_range fault i n pairs k other in_range lt e = partner_below fault i n (get_or pairs k (0, 0)) other (in_range k (0, 0) lt) e

pub none_left : (pairs : List (ℕ × ℕ)) (n : ℕ) → n ≡ length pairs → true ≡ (n == 0) → pairs ≡ []
none_left [] n e none = refl
none_left (pair ∷ pairs) n e none = let zero = (Decides-eqb n 0).0 (sym none) in absurd (omega arith)
