-- A rule's equalities and tests by number are those of its demands, and as many.
use Rattle.std.proofs.Common.{◌≡◌, ◌+◌, ◌<◌, ◌≤◌, ◌⊎◌, ◌↔◌, ◌&&◌, Bool, ℕ, zero, suc, true, false, List, [], ◌∷◌, ◌++◌, length, get_or, refl, sym, ap, subst, ◌∙◌, inl, inr, Contains, arith, true≢false}
use Rattle.std.specs.List.Sorted.{IsStrictlySortedBy}
use Rattle.std.specs.Map.{keys_of}
use Rattle.std.specs.Ordering.{nat_cmp}
use Rattle.std.specs.declared.cmp.Ordering.TheVariants.{Less}
use Rattle.std.proofs.lemmas.Bool.{cases_Bool, or_cases, eqb-true, eq-eqb}
use Rattle.std.proofs.lemmas.Bool.Decides.{nat_tests}
use Rattle.std.proofs.lemmas.List.{length-append}
use Rattle.std.proofs.lemmas.List.Elements.{Contains-append_left, Contains-append_right, Contains-append_cases}
use Rattle.std.proofs.lemmas.Map.Entries.{length-keys_of}
use Rattle.std.proofs.lemmas.Map.Keys.{Less-from_sorted}
use Rattle.std.proofs.lemmas.Map.Made.{AllPairs-from_IsDistinct}
use Rattle.std.proofs.lemmas.Map.Views.{Contains-from_any}
use Rattle.std.specs.Set.{is_member}
use Rattle.isle_containers.specs.JoinedSets.{AreDisjoint, are_joined, members}
use Rattle.isle_types.specs.declared.ids.Sym.{Sym}
use Rattle.isle_meaning.specs.Sites.{Site}
use Rattle.isle_meaning.specs.Demands.{Demand, constrained, equal, Among}
use Rattle.isle_meaning.specs.Derived.{Derived, Closed}
use Rattle.isle_meaning.specs.Faults as faults
use Rattle.isle_meaning.specs.Faults.{AreSoMany, IsConstrained, IsLeftEqual}
use Rattle.isle_meaning.specs.Numbered.{Row, At}
use Rattle.isle_meaning.proofs.Matching.Numbering.{one_site}
use Rattle.isle_containers.proofs.RootedTables.{Contains-map}
use Rattle.isle_blocks.specs.declared.ids.BindingId.{BindingId}
use Rattle.isle_blocks.specs.declared.constraint.Constraint.{Constraint}
use Rattle.isle_blocks.specs.declared.rule.Rule.{Rule}
use Rattle.isle_blocks.specs.Rows.{IsInjective, test_of}
use Rattle.isle_blocks.specs.Rules.{Tests, site_cmp}
use Rattle.isle_blocks.specs.Rules as rules
use Rattle.isle_blocks.specs.ClosedRules.{StandOnce, AreLeftEqual, IsClosedRule, same_site}
use Rattle.isle_blocks.specs.ClosedRules.{NumbersSayFree, NumbersSayCount, NumbersSayTotal, NumbersSaySubset, NumbersSayOverlaps, NumbersSayShadows}
use Rattle.isle_blocks.proofs.ClosedRules.{numbers_say_differ, numbers_say_within, same_id}
use Rattle.isle_blocks.proofs.Counting.{Once, counted, one_number, once_both, once_left, once_right, other_item, pairs_once}

pub one_id : (a b : BindingId) → same_site a b ≡ true → a ≡ b
one_id a b e = same_id a b (eqb-true a.0 b.0 e)

pub id_tells : (a b : BindingId) → (same_site a b ≡ true → a ≡ b) × (a ≡ b → same_site a b ≡ true)
id_tells a b = (one_id a b, λ e. eq-eqb a.0 b.0 (ap (λ (i : BindingId). i.0) e))

-- both stand in a set
pub record InOne (sets : List (List BindingId)) (x y : BindingId) : Type 0 where
  pub set : List BindingId
  pub stands : Contains sets set
  pub first : Contains set x
  pub second : Contains set y

pub is_in : (q : BindingId) (set : List BindingId) → Contains set q → is_member same_site set q ≡ true
is_in q [] (k, within, is) = absurd (omega arith)
is_in q (x ∷ set) (zero, within, is) = let e : same_site q x ≡ true = eq-eqb q.0 x.0 (ap (λ (i : BindingId). i.0) (sym is)) in rw e refl
is_in q (x ∷ set) (suc k, within, is) = let e = is_in q set (k, omega arith, is) in elim (cases_Bool (same_site q x)) [
  | inl holds ↦ rw holds refl
  | inr fails ↦ rw fails e
]

pub both_true : (a b : Bool) → (a && b) ≡ true → (a ≡ true) × (b ≡ true)
both_true true b e = (refl, e)
both_true false b e = absurd (true≢false (sym e))

pub in_one : (sets : List (List BindingId)) (x y : BindingId) → are_joined same_site sets x y ≡ true → InOne sets x y
in_one [] x y e = absurd (true≢false (sym e))
in_one (set ∷ sets) x y e = elim (or_cases (is_member same_site set x && is_member same_site set y) (are_joined same_site sets x y) e) [
  | inl h ↦ let (p, q) = both_true _ _ h in
      record { set = set; stands = (0, omega arith, refl); first = Contains-from_any one_id x set p; second = Contains-from_any one_id y set q }
  | inr h ↦ let r = in_one sets x y h in let (k, within, is) = r.stands in
      record { set = r.set; stands = (suc k, omega arith, is); first = r.first; second = r.second }
]

pub joined_at : (sets : List (List BindingId)) (x y : BindingId) (set : List BindingId) → Contains sets set → Contains set x → Contains set y
    → are_joined same_site sets x y ≡ true
joined_at [] x y set (k, within, is) p q = absurd (omega arith)
joined_at (s ∷ sets) x y set (zero, within, is) p q =
    let e : s ≡ set = is in
    rw (is_in x s (subst (λ l. Contains l x) (sym e) p), is_in y s (subst (λ l. Contains l y) (sym e) q)) refl
joined_at (s ∷ sets) x y set (suc k, within, is) p q =
    let rest = joined_at sets x y set (k, omega arith, is) p q in
    elim (cases_Bool (is_member same_site s x && is_member same_site s y)) [
      | inl holds ↦ rw holds refl
      | inr fails ↦ rw fails rest
    ]

set_of_member : (sets : List (List BindingId)) (x : BindingId) → Contains (members sets) x
    → (set : List BindingId) × Contains sets set × Contains set x
set_of_member [] x (k, within, is) = absurd (omega arith)
set_of_member (set ∷ sets) x h = elim (Contains-append_cases set (members sets) x h) [
  | inl p ↦ (set, (0, omega arith, refl), p)
  | inr q ↦ let (found, (k, within, is), stands) = set_of_member sets x q in (found, (suc k, omega arith, is), stands)
]

pub member_of_set : (sets : List (List BindingId)) (x : BindingId) (set : List BindingId) → Contains sets set → Contains set x
    → Contains (members sets) x
member_of_set [] x set (k, within, is) h = absurd (omega arith)
member_of_set (s ∷ sets) x set (zero, within, is) h =
    let e : s ≡ set = is in Contains-append_left s (members sets) x (subst (λ l. Contains l x) (sym e) h)
member_of_set (s ∷ sets) x set (suc k, within, is) h =
    Contains-append_right s (members sets) x (member_of_set sets x set (k, omega arith, is) h)

set_once : (sets : List (List BindingId)) (set : List BindingId) → Once (members sets) → Contains sets set → Once set
set_once [] set once (k, within, is) = absurd (omega arith)
set_once (s ∷ sets) set once (zero, within, is) = subst Once is (once_left s (members sets) once)
set_once (s ∷ sets) set once (suc k, within, is) = set_once sets set (once_right s (members sets) once) (k, omega arith, is)

pub set_long : (sets : List (List BindingId)) (set : List BindingId) → AreDisjoint same_site sets → Contains sets set → 2 ≤ length set
set_long sets set d (k, within, is) = subst (λ l. 2 ≤ length l) is (d.at_least_two k set within)

pub members_once : (sets : List (List BindingId)) → AreDisjoint same_site sets → Once (members sets)
members_once sets d = pairs_once (members sets) (AllPairs-from_IsDistinct id_tells (members sets) d.distinct)

less_apart : (m n : ℕ) → nat_cmp m n ≡ Less → m < n
less_apart m n e = grind (arith, nat_tests)

keys_once : (ids : List BindingId) → IsStrictlySortedBy site_cmp ids → Once ids
keys_once ids ascending = pairs_once ids (λ i j d lt within e.
    let below : (get_or ids i d).0 < (get_or ids j d).0 = less_apart _ _ (Less-from_sorted site_cmp ids i j d ascending lt within) in
    let same : (get_or ids i d).0 ≡ (get_or ids j d).0 = ap (λ (id : BindingId). id.0) e in omega arith)

key_of : (tests : Tests) (id : BindingId) → Contains (keys_of tests) id → (test : Constraint) × Contains tests (id, test)
key_of [] id (k, within, is) = absurd (omega arith)
key_of (e ∷ tests) id (zero, within, is) = (e.1, (0, omega arith, λ i. (is i, e.1)))
key_of (e ∷ tests) id (suc k, within, is) =
    let (test, stands) = key_of tests id (k, omega arith, is) in let (l, inside, was) = stands in (test, (suc l, omega arith, was))

module _ (rows : List Row) (once : StandOnce rows) where
  stands_one : (x w : BindingId) (s : Site) → At rows s x.0 → At rows s w.0 → x ≡ w
  stands_one x w s p q = same_id x w (once s x.0 w.0 p q)

  stands_alike : (x : BindingId) (s u : Site) → At rows s x.0 → At rows u x.0 → s ≡ u
  stands_alike x s u p q = one_site rows s u x.0 p q

  module _ (D : Demand → Type 0) (equals : List (List BindingId)) (left : AreLeftEqual rows D equals) (disjoint : AreDisjoint same_site equals) where
    -- a member stands for a site that an equality is left of
    left_site : (x : BindingId) → Contains (members equals) x → (s : Site) × At rows s x.0 × (u : Site) × Closed D (equal s u)
    left_site x h =
        let (set, stands, within) = set_of_member equals x h in
        let (y, apart, beside) = other_item set x (set_long equals set disjoint stands)
        (set_once equals set (members_once equals disjoint) stands) within in
        let (s, u, at, there, closed) = left.left x y apart (joined_at equals x y set stands within beside) in
        (s, at, u, closed)

    members_of : (x y : BindingId) → are_joined same_site equals x y ≡ true → Contains (members equals) x × Contains (members equals) y
    members_of x y h = let r = in_one equals x y h in (member_of_set equals x r.set r.stands r.first, member_of_set equals y r.set r.stands r.second)

    left_member : (s : Site) → IsLeftEqual D s → (x : BindingId) × Contains (members equals) x × At rows s x.0
    left_member s (u, inl closed) = let (x, y, at, there, joined) = left.all s u closed in (x, (members_of x y joined).0, at)
    left_member s (u, inr closed) = let (x, y, at, there, joined) = left.all u s closed in (y, (members_of x y joined).1, there)

    free_meant : equals ≡ [] → faults.IsFree D
    free_meant e s u closed =
        let (x, y, at, there, joined) = left.all s u closed in
        let none : are_joined same_site [] x y ≡ true = subst (λ sets. are_joined same_site sets x y ≡ true) e joined in
        true≢false (sym none)

    no_member : faults.IsFree D → (x : BindingId) → Contains (members equals) x → ⊥
    no_member free x h = let (s, at, u, closed) = left_site x h in free s u closed

no_sets : (sets : List (List BindingId)) → AreDisjoint same_site sets → ((x : BindingId) → Contains (members sets) x → ⊥) → sets ≡ []
no_sets [] d none = refl
no_sets ([] ∷ sets) d none = let two : 2 ≤ 0 = d.at_least_two 0 [] (omega arith) in absurd (omega arith)
no_sets ((x ∷ set) ∷ sets) d none = absurd (none x (0, omega arith, refl))

module _ (name : Sym → List ℕ) (rows : List Row) (once : StandOnce rows) (D : Demand → Type 0) (rule : Rule)
    (closed : IsClosedRule name rows D rule) where
  say_free : (rule.equals ≡ []) ↔ faults.IsFree D
  say_free = (
    free_meant rows once D rule.equals closed.equalities closed.disjoint,
    λ free. no_sets rule.equals closed.disjoint (no_member rows once D rule.equals closed.equalities closed.disjoint free),
  )

  key_site : (id : BindingId) → Contains (keys_of rule.constraints) id → (s : Site) × At rows s id.0 × IsConstrained D s
  key_site id h =
      let (test, stands) = key_of rule.constraints id h in
      let (s, at, derived) = closed.tests.derived id test stands in
      (s, at, (test_of name test, derived))

  site_key : (s : Site) → IsConstrained D s → (id : BindingId) × Contains (keys_of rule.constraints) id × At rows s id.0
  site_key s (c, derived) =
      let (id, test, stands, at, is) = closed.tests.all s c derived in
      (id, Contains-map (λ (e : BindingId × Constraint). e.0) rule.constraints (id, test) stands, at)

  has_constraints : faults.HasConstraints D (length rule.constraints)
  has_constraints = subst (faults.HasConstraints D) (length-keys_of rule.constraints)
      (counted (IsConstrained D) (λ (id : BindingId) (s : Site). At rows s id.0) (keys_of rule.constraints)
      (keys_once (keys_of rule.constraints) closed.ascending) (stands_one rows once) (stands_alike rows once) key_site site_key)

  say_count : (n : ℕ) → (length rule.constraints ≡ n) ↔ faults.HasConstraints D n
  say_count n = (
    λ e. subst (faults.HasConstraints D) e has_constraints,
    λ h. one_number (IsConstrained D) (length rule.constraints) n has_constraints h,
  )

  -- no site is tested and left equal
  apart : (id : BindingId) → Contains (keys_of rule.constraints) id → Contains (members rule.equals) id → ⊥
  apart id h g =
      let (s, at, constrained_by) = key_site id h in
      let (c, derived) = constrained_by in
      let (u, there, w, left) = left_site rows once D rule.equals closed.equalities closed.disjoint id g in
      let same : s ≡ u = stands_alike rows once id s u at there in
      left.2 c (subst (λ (v : Site). Derived D (constrained v c)) same derived)

  either_site : (id : BindingId) → Contains (keys_of rule.constraints ++ members rule.equals) id
      → (s : Site) × At rows s id.0 × (IsConstrained D s ⊎ IsLeftEqual D s)
  either_site id h = elim (Contains-append_cases (keys_of rule.constraints) (members rule.equals) id h) [
    | inl p ↦ let (s, at, c) = key_site id p in (s, at, inl c)
    | inr q ↦ let (s, at, u, left) = left_site rows once D rule.equals closed.equalities closed.disjoint id q in (s, at, inr (u, inl left))
  ]

  site_either : (s : Site) → IsConstrained D s ⊎ IsLeftEqual D s
      → (id : BindingId) × Contains (keys_of rule.constraints ++ members rule.equals) id × At rows s id.0
  site_either s (inl c) = let (id, h, at) = site_key s c in (id, Contains-append_left (keys_of rule.constraints) (members rule.equals) id h, at)
  site_either s (inr e) =
      let (id, h, at) = left_member rows once D rule.equals closed.equalities closed.disjoint s e in
      (id, Contains-append_right (keys_of rule.constraints) (members rule.equals) id h, at)

  has_total : faults.HasTotal D (length rule.constraints + length (members rule.equals))
  has_total =
      let both = once_both (keys_of rule.constraints) (members rule.equals) (keys_once (keys_of rule.constraints) closed.ascending)
      (members_once rule.equals closed.disjoint) apart in
      let as_many : length (keys_of rule.constraints ++ members rule.equals) ≡ length rule.constraints + length (members rule.equals) =
      length-append (keys_of rule.constraints) (members rule.equals) ∙ ap (λ n. n + length (members rule.equals)) (length-keys_of rule.constraints) in
      subst (faults.HasTotal D) as_many
      (counted (λ s. IsConstrained D s ⊎ IsLeftEqual D s) (λ (id : BindingId) (s : Site). At rows s id.0)
      (keys_of rule.constraints ++ members rule.equals) both (stands_one rows once) (stands_alike rows once) either_site site_either)

  say_total : (n : ℕ) → (length rule.constraints + length (members rule.equals) ≡ n) ↔ faults.HasTotal D n
  say_total n = (
    λ e. subst (faults.HasTotal D) e has_total,
    λ h. one_number (λ s. IsConstrained D s ⊎ IsLeftEqual D s) (length rule.constraints + length (members rule.equals)) n has_total h,
  )

pub numbers_say_free : NumbersSayFree
numbers_say_free name injective rows once ds rule closed = say_free name rows once (Among ds) rule closed

pub numbers_say_count : NumbersSayCount
numbers_say_count name injective rows once ds rule closed = say_count name rows once (Among ds) rule closed

pub numbers_say_total : NumbersSayTotal
numbers_say_total name injective rows once ds rule closed = say_total name rows once (Among ds) rule closed

module _ (name : Sym → List ℕ) (injective : IsInjective name) (rows : List Row) (once : StandOnce rows) (ds es : List Demand)
    (a b : Rule) (left : IsClosedRule name rows (Among ds) a) (right : IsClosedRule name rows (Among es) b) where
  free_left : (a.equals ≡ []) ↔ faults.IsFree (Among ds)
  free_left = say_free name rows once (Among ds) a left

  free_right : (b.equals ≡ []) ↔ faults.IsFree (Among es)
  free_right = say_free name rows once (Among es) b right

  within : rules.AreWithin a.constraints b.constraints ↔ faults.IsWithin (Among ds) (Among es)
  within = numbers_say_within name injective rows once ds es a.constraints b.constraints left.tests right.tests

  back : rules.AreWithin b.constraints a.constraints ↔ faults.IsWithin (Among es) (Among ds)
  back = numbers_say_within name injective rows once es ds b.constraints a.constraints right.tests left.tests

  differ : rules.Differ a b ↔ faults.Differ (Among ds) (Among es)
  differ = numbers_say_differ name injective rows once ds es a.constraints b.constraints left.tests right.tests

  count_left : (n : ℕ) → (length a.constraints ≡ n) ↔ faults.HasConstraints (Among ds) n
  count_left = say_count name rows once (Among ds) a left

  count_right : (m : ℕ) → (length b.constraints ≡ m) ↔ faults.HasConstraints (Among es) m
  count_right = say_count name rows once (Among es) b right

  say_subset : (n m : ℕ) → faults.HasConstraints (Among ds) n → faults.HasConstraints (Among es) m
      → rules.IsSubset a b ↔ faults.IsSubset (Among ds) n (Among es) m
  say_subset n m p q =
      let e : length a.constraints ≡ n = (count_left n).1 p in
      let f : length b.constraints ≡ m = (count_right m).1 q in (
        λ s. (free_left.0 s.free, free_right.0 s.other_free, λ le. within.0 (s.fewer (omega arith)), λ lt. back.0 (s.more (omega arith))),
        λ s. record {
          free = free_left.1 s.0;
          other_free = free_right.1 s.1;
          fewer = λ le. within.1 (s.2 (omega arith));
          more = λ lt. back.1 (s.3 (omega arith));
        },
      )

  say_overlaps : rules.Overlaps a b ↔ faults.Overlaps (Among ds) a.prio (Among es) b.prio
  say_overlaps = (λ o. (o.0, λ d. o.1 (differ.1 d)), λ o. (o.0, λ d. o.1 (differ.0 d)))

  say_shadows : rules.Shadows a b ↔ faults.Shadows (Among ds) (Among es) a.prio b.prio
  say_shadows =
      let p : faults.HasConstraints (Among ds) (length a.constraints) = (count_left (length a.constraints)).0 refl in
      let q : faults.HasConstraints (Among es) (length b.constraints) = (count_right (length b.constraints)).0 refl in (
        λ s. record {
          above = s.above;
          meet = λ d. s.meet (differ.1 d);
          fewer = length a.constraints;
          many = length b.constraints;
          has_fewer = p;
          has_many = q;
          no_more = s.no_more;
          subset = (say_subset (length a.constraints) (length b.constraints) p q).0 s.subset;
        },
        λ s. record {
          above = s.above;
          meet = λ d. s.meet (differ.0 d);
          no_more =
              let e : length a.constraints ≡ s.fewer = (count_left s.fewer).1 s.has_fewer in
              let f : length b.constraints ≡ s.many = (count_right s.many).1 s.has_many in
              let le = s.no_more in omega arith;
          subset = (say_subset s.fewer s.many s.has_fewer s.has_many).1 s.subset;
        },
      )

pub numbers_say_subset : NumbersSaySubset
numbers_say_subset name injective rows once ds es a b left right = say_subset name injective rows once ds es a b left right

pub numbers_say_overlaps : NumbersSayOverlaps
numbers_say_overlaps name injective rows once ds es a b left right = say_overlaps name injective rows once ds es a b left right

pub numbers_say_shadows : NumbersSayShadows
numbers_say_shadows name injective rows once ds es a b left right = say_shadows name injective rows once ds es a b left right
