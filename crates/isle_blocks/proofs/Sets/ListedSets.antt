-- Sets of equal sites taken out one by one, the one with the least site first.
use Rattle.std.proofs.Common.{◌≡◌, ◌<◌, ◌≤◌, ◌⊎◌, ◌↔◌, ◌+◌, ◌++◌, ◌∷◌, ◌&&◌, inl, inr, [], ℕ, zero, suc, Bool, true, false, not, List, Some, length, get_or, slice_get}
use Rattle.std.proofs.Common.{refl, sym, ap, subst, ◌∙◌, arith, append_assoc, true≢false}
use Rattle.std.specs.Prelude.{All, Contains}
use Rattle.std.specs.List.Sorted.{IsPermutation, IsSorted, IsStrictlySortedBy}
use Rattle.std.specs.Ordering.{nat_cmp}
use Rattle.std.specs.Set.{is_member}
use Rattle.std.specs.declared.cmp.Ordering.TheVariants.{Less}
use Rattle.std.proofs.lemmas.Bool.{cases_Bool, cases_eq}
use Rattle.std.proofs.lemmas.Bool.Decides.{nat_tests}
use Rattle.std.proofs.lemmas.Cmp.{nat_cmp_total, on_total}
use Rattle.std.proofs.lemmas.List.{append-nil, get_or_append_left, get_or_at, length_push}
use Rattle.std.proofs.lemmas.List.Elements.{All-append, All-cons, All-nil, Contains-append_left, Contains-append_right, Contains-append_cases, Contains-get_or, Contains-push}
use Rattle.std.proofs.lemmas.List.Elements.{Contains-push_cases, filter_map-append}
use Rattle.std.proofs.lemmas.List.Sorted.{Contains-permutation, IsPermutation-sym, length_permutation}
use Rattle.std.proofs.lemmas.Map.Keys.{Less-from_sorted, sorted_from_all_adjacent}
use Rattle.std.proofs.lemmas.Map.Made.{IsDistinct-from_AllPairs}
use Rattle.std.proofs.lemmas.Map.Views.{Contains-from_any}
use Rattle.std.proofs.lemmas.Option.{slice_get-get_or, slice_get_within}
use Rattle.isle_containers.specs.JoinedSets.{AreDisjoint, AreSameSets, are_joined, members, set_of}
use Rattle.isle_containers.proofs.Lists.{slice_get-kept}
use Rattle.isle_blocks.specs.declared.ids.BindingId.{BindingId}
use Rattle.isle_blocks.specs.ClosedRules.{same_site}
use Rattle.isle_blocks.specs.ListedSets.{firsts, ListsEqualSites}
use Rattle.isle_blocks.specs.Rules.{site_cmp}
use Rattle.isle_blocks.proofs.ClosedEqualities.{id_tells, InOne, in_one, joined_at, is_in, both_true, member_of_set, members_once, set_long, one_id}
use Rattle.isle_blocks.proofs.Counting.{Once, once_both, once_left, once_right, once_pairs, place_of}
use Rattle.isle_blocks.proofs.RuleFaults.StrictCalls.{once_moved, strictly}
use Rattle.isle_blocks.proofs.VariantTerms.{after_first}

-- some of the sets are listed, and the others have no number below a bound
pub record AreListedBelow (equals left sets : List (List BindingId)) (n : ℕ) : Type 0 where
  pub split : (a b : BindingId) → InOne equals a b ↔ (InOne sets a b ⊎ InOne left a b)
  pub later : (a : BindingId) → Contains (members left) a → n ≤ a.0
  pub long : All (λ set. 2 ≤ length set) sets
  pub once : Once (members sets)
  pub apart : (a : BindingId) → Contains (members sets) a → Contains (members left) a → ⊥
  pub ascending : All (λ set. IsStrictlySortedBy site_cmp set) sets
  pub in_order : IsStrictlySortedBy site_cmp (firsts sets)
  pub low : All (λ a. a.0 < n) (firsts sets)

-- what is taken out: the set that has a number, or nothing
pub record Takes (left : List (List BindingId)) (x : BindingId) (set : List BindingId) (rest : List (List BindingId)) : Type 0 where
  pub moved : IsPermutation (set_of same_site left x) set
  pub sorted : IsSorted site_cmp set
  pub parted : IsPermutation (members left) (set ++ members rest)
  pub joined : (a b : BindingId) → are_joined same_site rest a b ≡ (are_joined same_site left a b && not (are_joined same_site left x a))

joined_of : (sets : List (List BindingId)) (a b : BindingId) → InOne sets a b → are_joined same_site sets a b ≡ true
joined_of sets a b one = joined_at sets a b one.set one.stands one.first one.second

bool_same : (p q : Bool) → (p ≡ true → q ≡ true) → (q ≡ true → p ≡ true) → p ≡ q
bool_same true q f g = sym (f refl)
bool_same false true f g = g refl
bool_same false false f g = refl

id_same : (a b : BindingId) → a.0 ≡ b.0 → a ≡ b
id_same a b same = λ i. record { 0 = same i }

less_is : (m n : ℕ) → m < n → nat_cmp m n ≡ Less
less_is m n less = grind (arith, nat_tests)

below_is : (m n : ℕ) → nat_cmp m n ≡ Less → m < n
below_is m n less = grind (arith, nat_tests)

-- what stands once doesn't stand in both parts
pub both_apart : {X : Type 0} (xs ys : List X) → Once (xs ++ ys) → (a : X) → Contains xs a → Contains ys a → ⊥
both_apart xs ys once a in_first in_second =
    let (k, at) = place_of xs a in_first in let (j, there) = place_of ys a in_second in
    let within = slice_get_within xs k a at in
    let same = once k (length xs + j) a (slice_get-kept xs ys k a at) (after_first xs ys j ∙ there) in omega (arith, same)

-- the set that has a number, or nothing where none has it
set_cases : (sets : List (List BindingId)) (x : BindingId)
    → (Contains sets (set_of same_site sets x) × Contains (set_of same_site sets x) x) ⊎
    ((set_of same_site sets x ≡ []) × (Contains (members sets) x → ⊥))
set_cases [] x = inr (refl, λ (k, within, is). omega arith)
set_cases (set ∷ sets) x = elim (cases_Bool (is_member same_site set x)) [
  | inl has ↦ inl (rw has ((0, omega arith, refl), Contains-from_any one_id x set has))
  | inr lacks ↦ elim (set_cases sets x) [
    | inl ((k, within, is), inside) ↦ inl (rw lacks ((suc k, omega arith, is), inside))
    | inr (none, absent) ↦ inr (rw lacks (
      none,
      λ among. elim (Contains-append_cases set (members sets) x among) [
        | inl here ↦ true≢false (sym (is_in x set here) ∙ lacks)
        | inr there ↦ absent there
      ],
    ))
  ]
]

-- sets that share a number are one
same_set : (sets : List (List BindingId)) → Once (members sets) → (s t : List BindingId) (x : BindingId) → Contains sets s → Contains sets t
    → Contains s x → Contains t x → s ≡ t
same_set [] once s t x (k, within, is) in_t x_s x_t = absurd (omega arith)
same_set (u ∷ us) once s t x (zero, low, is) (zero, high, at) x_s x_t = let e : u ≡ s = is in let f : u ≡ t = at in sym e ∙ f
same_set (u ∷ us) once s t x (zero, low, is) (suc l, high, at) x_s x_t =
    let e : u ≡ s = is in
    absurd (both_apart u (members us) once x (subst (λ (v : List BindingId). Contains v x) (sym e) x_s)
    (member_of_set us x t (l, omega arith, at) x_t))
same_set (u ∷ us) once s t x (suc k, low, is) (zero, high, at) x_s x_t =
    let f : u ≡ t = at in
    absurd (both_apart u (members us) once x (subst (λ (v : List BindingId). Contains v x) (sym f) x_t)
    (member_of_set us x s (k, omega arith, is) x_s))
same_set (u ∷ us) once s t x (suc k, low, is) (suc l, high, at) x_s x_t =
    same_set us (once_right u (members us) once) s t x (k, omega arith, is) (l, omega arith, at) x_s x_t

members_put : (sets : List (List BindingId)) (set : List BindingId) → members (sets ++ set ∷ []) ≡ members sets ++ set
members_put [] set = append-nil set
members_put (s ∷ sets) set = ap (λ (l : List BindingId). s ++ l) (members_put sets set) ∙ sym (append_assoc s (members sets) set)

-- a set behind others
put_cases : (sets : List (List BindingId)) (set : List BindingId) (a b : BindingId) → InOne (sets ++ set ∷ []) a b
    → InOne sets a b ⊎ (Contains set a × Contains set b)
put_cases sets set a b one = elim (Contains-push_cases sets set one.set one.stands) [
  | inl earlier ↦ inl (record { set = one.set; stands = earlier; first = one.first; second = one.second })
  | inr last ↦ inr (
    subst (λ (l : List BindingId). Contains l a) (sym last) one.first,
    subst (λ (l : List BindingId). Contains l b)
        (sym last) one.second,
  )
]

put_one : (sets : List (List BindingId)) (set : List BindingId) (a b : BindingId) → InOne sets a b ⊎ (Contains set a × Contains set b)
    → InOne (sets ++ set ∷ []) a b
put_one sets set a b (inl one) =
    record { set = one.set; stands = Contains-append_left sets (set ∷ []) one.set one.stands; first = one.first; second = one.second }
put_one sets set a b (inr (first, second)) = record { set = set; stands = Contains-push sets set; first = first; second = second }

-- numbers in order with a greater one behind
sorted_put : (ids : List BindingId) (x : BindingId) → IsStrictlySortedBy site_cmp ids → All (λ a. a.0 < x.0) ids
    → IsStrictlySortedBy site_cmp (ids ++ x ∷ [])
sorted_put ids x sorted low =
    sorted_from_all_adjacent (on_total (λ (id : BindingId). id.0) nat_cmp_total) (ids ++ x ∷ []) x (λ k within.
    let size = length_push ids x in
    let early : get_or (ids ++ x ∷ []) k x ≡ get_or ids k x = get_or_append_left ids _ x k (omega arith) in
    elim (cases_eq (k + 1) (length ids)) [
      | inl last ↦
          let late : get_or (ids ++ x ∷ []) (k + 1) x ≡ x = get_or_at ids x [] x (k + 1) (sym last) in
          rw (early, late) (less_is _ _ (low k x (omega arith)))
      | inr inside ↦
          let late : get_or (ids ++ x ∷ []) (k + 1) x ≡ get_or ids (k + 1) x = get_or_append_left ids _ x (k + 1) (omega arith) in
          rw (early, late) (Less-from_sorted site_cmp ids k (k + 1) x sorted (omega arith) (omega arith))
    ])

-- the least number of a set in order is its first
first_is : (set : List BindingId) (x : BindingId) → IsStrictlySortedBy site_cmp set → Contains set x
    → ((a : BindingId) → Contains set a → x.0 ≤ a.0) → slice_get set 0 ≡ Some x
first_is set x sorted (zero, within, is) least = slice_get-get_or set 0 x within ∙ ap Some is
first_is set x sorted (suc k, within, is) least =
    let up : (get_or set 0 x).0 < (get_or set (suc k) x).0 = below_is _ _ (Less-from_sorted site_cmp set 0 (suc k) x sorted (omega arith) within) in
    let low = least (get_or set 0 x) (Contains-get_or set 0 x (omega arith)) in
    let same : (get_or set (suc k) x).0 ≡ x.0 = ap (λ (a : BindingId). a.0) is in absurd (omega arith)

-- nothing is listed yet of the same sets
pub none_listed : (equals left : List (List BindingId)) → AreSameSets same_site equals left → AreListedBelow equals left [] 0
none_listed equals left same = record {
  split = λ a b. (
    λ one. inr (in_one left a b (same.joined a b ∙ joined_of equals a b one)),
    λ h. elim h [
      | inl one ↦ absurd (let (k, within, is) = one.stands in omega arith)
      | inr one ↦ in_one equals a b (sym (same.joined a b) ∙ joined_of left a b one)
    ],
  );
  later = λ a among. omega arith;
  long = λ k d within. absurd (omega arith);
  once = λ i j a e f. absurd cc;
  apart = λ a (k, within, is) there. omega arith;
  ascending = λ k d within. absurd (omega arith);
  in_order = sorted_from_all_adjacent (on_total (λ (id : BindingId). id.0) nat_cmp_total) [] (record { 0 = 0 }) (λ k within. absurd (omega arith));
  low = λ k d within. absurd (omega arith);
}

module _ (equals left sets : List (List BindingId)) (n : ℕ) (listed : AreListedBelow equals left sets n) (d : AreDisjoint same_site left)
    (set : List BindingId) (rest : List (List BindingId)) where
  abbrev x : BindingId
  x = record { 0 = n }

  module _ (takes : Takes left x set rest) where
    -- what is left was there
    rest_in : (a : BindingId) → Contains (members rest) a → Contains (members left) a
    rest_in a among =
        Contains-permutation (set ++ members rest) (members left) a (IsPermutation-sym (members left) (set ++ members rest) takes.parted)
        (Contains-append_right set (members rest) a among)

    set_in : (a : BindingId) → Contains set a → Contains (members left) a
    set_in a among =
        Contains-permutation (set ++ members rest) (members left) a (IsPermutation-sym (members left) (set ++ members rest) takes.parted)
        (Contains-append_left set (members rest) a among)

    parts_once : Once (set ++ members rest)
    parts_once = once_moved (members left) (set ++ members rest) takes.parted (members_once left d)

    rest_one : (a b : BindingId) → InOne rest a b → InOne left a b
    rest_one a b one =
        in_one left a b (both_true (are_joined same_site left a b) (not (are_joined same_site left x a))
        (sym (takes.joined a b) ∙ joined_of rest a b one)).0

    -- no set has the number
    pub nothing_taken : length set ≡ 0 → AreListedBelow equals rest sets (n + 1)
    nothing_taken none =
        let none_there : length (set_of same_site left x) ≡ 0 = sym (length_permutation (set_of same_site left x) set takes.moved) ∙ none in
        let absent : Contains (members left) x → ⊥ = elim (set_cases left x) [
          | inl (stands, (k, within, is)) ↦ absurd (omega arith)
          | inr (empty, missing) ↦ missing
        ] in
        let apart : (a : BindingId) → are_joined same_site left x a ≡ false = λ a. elim (cases_Bool (are_joined same_site left x a)) [
          | inl both ↦ let one = in_one left x a both in absurd (absent (member_of_set left x one.set one.stands one.first))
          | inr lacks ↦ lacks
        ] in
        record {
          split = λ a b. (
            λ one. elim ((listed.split a b).0 one) [
              | inl old ↦ inl old
              | inr other ↦ inr (in_one rest a b (takes.joined a b ∙ (rw (joined_of left a b other, apart a) refl)))
            ],
            λ h. (listed.split a b).1 (elim h [ inl old ↦ inl old | inr other ↦ inr (rest_one a b other) ]),
          );
          later = λ a among. let low = listed.later a (rest_in a among) in elim (cases_eq a.0 n) [
            | inl same ↦ absurd (absent (subst (λ (b : BindingId). Contains (members left) b) (id_same a x same) (rest_in a among)))
            | inr other ↦ omega arith
          ];
          long = listed.long;
          once = listed.once;
          apart = λ a among there. listed.apart a among (rest_in a there);
          ascending = listed.ascending;
          in_order = listed.in_order;
          low = λ k e within. let less = listed.low k e within in omega arith;
        }

    -- a set has it
    pub one_taken : 0 < length set → AreListedBelow equals rest (sets ++ set ∷ []) (n + 1)
    one_taken some =
        let own = set_of same_site left x in
        let as_many : length own ≡ length set = sym (length_permutation own set takes.moved) in
        let (stands, inside) : Contains left own × Contains own x = elim (set_cases left x) [
          | inl found ↦ found
          | inr (empty, missing) ↦ absurd (let none : length own ≡ 0 = ap length empty in omega arith)
        ] in
        let there : (a : BindingId) → Contains own a → Contains set a = λ a among. Contains-permutation own set a takes.moved among in
        let back : (a : BindingId) → Contains set a → Contains own a =
        λ a among. Contains-permutation set own a (IsPermutation-sym own set takes.moved) among in
        let here = there x inside in
        let up : IsStrictlySortedBy site_cmp set = strictly set takes.sorted (once_left set (members rest) parts_once) in
        let first : slice_get set 0 ≡ Some x = first_is set x up here (λ a among. listed.later a (set_in a among)) in
        let heads : firsts (sets ++ set ∷ []) ≡ firsts sets ++ x ∷ [] =
        filter_map-append (λ (s : List BindingId). slice_get s 0) sets (set ∷ []) ∙ (rw first refl) in
        record {
          split = λ a b. (
            λ one. elim ((listed.split a b).0 one) [
              | inl old ↦ inl (put_one sets set a b (inl old))
              | inr other ↦ elim (cases_Bool (are_joined same_site left x a)) [
                | inl both ↦
                    let with_x = in_one left x a both in
                    let same = same_set left (members_once left d) with_x.set own x with_x.stands stands with_x.first inside in
                    let also = same_set left (members_once left d) other.set with_x.set a other.stands with_x.stands other.first with_x.second in
                    let is : other.set ≡ own = also ∙ same in
                    inl (put_one sets set a b (inr (
                      there a (subst (λ (l : List BindingId). Contains l a) is other.first),
                      there b (subst (λ (l : List BindingId). Contains l b) is other.second),
                    )))
                | inr apart ↦ inr (in_one rest a b (takes.joined a b ∙ (rw (joined_of left a b other, apart) refl)))
              ]
            ],
            λ h. (listed.split a b).1 (elim h [
              | inl mine ↦ elim (put_cases sets set a b mine) [
                | inl old ↦ inl old
                | inr (one, other) ↦ inr (record { set = own; stands = stands; first = back a one; second = back b other })
              ]
              | inr other ↦ inr (rest_one a b other)
            ]),
          );
          later = λ a among. let low = listed.later a (rest_in a among) in elim (cases_eq a.0 n) [
            | inl same ↦ absurd (both_apart set (members rest) parts_once x here
                (subst (λ (b : BindingId). Contains (members rest) b) (id_same a x same) among))
            | inr other ↦ omega arith
          ];
          long = All-append (λ (s : List BindingId). 2 ≤ length s) sets (set ∷ []) listed.long
              (let two : 2 ≤ length own = set_long left own d stands in
              All-cons (λ (s : List BindingId). 2 ≤ length s) set [] (omega arith) (All-nil (λ (s : List BindingId). 2 ≤ length s)));
          once = subst (λ (l : List BindingId). Once l) (sym (members_put sets set))
              (once_both (members sets) set listed.once (once_left set (members rest) parts_once)
              (λ a among mine. listed.apart a among (set_in a mine)));
          apart = λ a among other.
              elim (Contains-append_cases (members sets) set a (subst (λ (l : List BindingId). Contains l a) (members_put sets set) among)) [
                | inl old ↦ listed.apart a old (rest_in a other)
                | inr mine ↦ both_apart set (members rest) parts_once a mine other
              ];
          ascending = All-append (λ (s : List BindingId). IsStrictlySortedBy site_cmp s) sets (set ∷ []) listed.ascending
              (All-cons (λ (s : List BindingId). IsStrictlySortedBy site_cmp s) set [] up
              (All-nil (λ (s : List BindingId). IsStrictlySortedBy site_cmp s)));
          in_order = subst (λ (l : List BindingId). IsStrictlySortedBy site_cmp l) (sym heads)
              (sorted_put (firsts sets) x listed.in_order listed.low);
          low = subst (λ (l : List BindingId). All (λ a. a.0 < n + 1) l) (sym heads)
              (All-append (λ (a : BindingId). a.0 < n + 1) (firsts sets) (x ∷ []) (λ k e within. let less = listed.low k e within in omega arith)
              (All-cons (λ (a : BindingId). a.0 < n + 1) x [] (omega arith) (All-nil (λ (a : BindingId). a.0 < n + 1))));
        }

-- where no other set is left with a number of a site, the sets are those of equal sites
pub all_listed : (equals left sets : List (List BindingId)) (n : ℕ) → AreListedBelow equals left sets n → (left ≡ []) ⊎ (65536 ≤ n)
    → ListsEqualSites equals sets
all_listed equals left sets n listed done = record {
  joined = λ a b small. bool_same (are_joined same_site sets a b) (are_joined same_site equals a b) (only a b)
      (λ both. elim ((listed.split a b).0 (in_one equals a b both)) [
        | inl mine ↦ joined_of sets a b mine
        | inr other ↦ elim done [
          | inl none ↦ absurd (let (k, within, is) = subst (λ (l : List (List BindingId)). Contains l other.set) none other.stands in omega arith)
          | inr past ↦ absurd (let low = listed.later a (member_of_set left a other.set other.stands other.first) in omega arith)
        ]
      ]);
  only = only;
  disjoint = record {
    at_least_two = listed.long;
    distinct = IsDistinct-from_AllPairs id_tells (members sets)
        (once_pairs (members sets) listed.once);
  };
  ascending = listed.ascending;
  in_order = listed.in_order;
}
  where
    only : (a b : BindingId) → are_joined same_site sets a b ≡ true → are_joined same_site equals a b ≡ true
    only a b both = joined_of equals a b ((listed.split a b).1 (inl (in_one sets a b both)))
