-- What rules of a set test, listed by rule and by site.
use Rattle.std.proofs.Common.{◌≡◌, ◌⊎◌, ◌<◌, ◌≤◌, ◌+◌, ◌-◌, ◌&&◌, ◌==◌, ◌++◌, ℕ, suc, zero, inl, inr, true, false, List, [], ◌∷◌, map, Option, Some, None}
use Rattle.std.proofs.Common.{length, length-append, take, set, append_assoc, eq-eqb, ◌≢◌, refl, sym, ◌∙◌, ap, subst, arith, get_or, slice_get, Bool}
use Rattle.std.proofs.lemmas.Bool.Decides.{nat_tests}
use Rattle.std.proofs.lemmas.List.{get_or_append_left, get_or-append_right, append-nil, map-append, take_more}
use Rattle.std.proofs.lemmas.Option.{get_or_from_slice_get, slice_get-get_or, slice_get_past, slice_get_read, slice_get_within}
use Rattle.std.proofs.Math.ListN.{get_or-map, length-map}
use Rattle.std.specs.BTreeMap.{is_at}
use Rattle.std.specs.Global.{Vec}
use Rattle.std.specs.List.{flat_map, list_any}
use Rattle.std.specs.Map.{lookup}
use Rattle.std.specs.Ordering.{is_eq, nat_cmp}
use Rattle.isle_containers.proofs.Lists.{slice_get-last}
use Rattle.isle_containers.specs.JoinedSets.{are_joined}
use Rattle.isle_trees.specs.Ranking.{AllBelow, AreAllWithin}
use Rattle.isle_trees.specs.Rules.{Want, has, one_value, Source, Elem}
use Rattle.isle_trees.specs.Scopes.{Test, has_test}
use Rattle.isle_trees.specs.Search.{added_at}
use Rattle.isle_trees.proofs.Asking.{elem_append}
use Rattle.isle_trees.proofs.Basics.{true_or, or_holds, eq_or, or_left, or_right, and_both, both_and, clash}
use Rattle.isle_trees.proofs.Building.Asked.{has_tested, tested_below}
use Rattle.isle_trees.proofs.Building.Gathering.{IsTestedSite}
use Rattle.isle_trees.proofs.Building.Lists.{less_or, not_same, elem_left, elem_right, elem_at, last_or, flat_append}
use Rattle.isle_blocks.specs.declared.ids.BindingId.{BindingId}
use Rattle.isle_blocks.specs.declared.constraint.Constraint.{Constraint}
use Rattle.isle_blocks.specs.declared.rule.Rule.{Rule}
use Rattle.isle_blocks.specs.ClosedRules.{same_site}
use Rattle.isle_blocks.specs.ListedSets.{ListsEqualSites}
use Rattle.isle_blocks.specs.RuleSets.{RulesOverSites}
use Rattle.isle_blocks.specs.Rows.{numbers_of}
use Rattle.isle_blocks.specs.Rules.{site_cmp}
use Rattle.isle_blocks.specs.Inside.Trees.Builder.{AreClasses, AreMembers, IsRising, items_at, items_in, rules_in, tested_in}
use Rattle.isle_blocks.specs.Trees.View.{has_loop, id_of, read_or, rule_joins, test_at, want_at, want_or}
use Rattle.isle_blocks.specs.Inside.Trees.Work.{AddsOnly}

-- sites by their numbers
same_number : (m n : ℕ) → is_eq (nat_cmp m n) ≡ true → m ≡ n
same_number m n e = grind (arith, nat_tests)

number_same : (m n : ℕ) → m ≡ n → is_eq (nat_cmp m n) ≡ true
number_same m n e = grind (arith, nat_tests)

site_is : (a b : BindingId) → same_site a b ≡ true → a.0 ≡ b.0
site_is a b e = grind (arith, nat_tests)

site_same : (a b : BindingId) → a.0 ≡ b.0 → same_site a b ≡ true
site_same a b e = grind (arith, nat_tests)

-- a site that is found among others is one of them
listed_any : (a : BindingId) (ids : List BindingId) → list_any (same_site a) ids ≡ true → Elem a.0 (numbers_of ids)
listed_any a [] e = cc
listed_any a (x ∷ xs) e = elim (or_holds (same_site a x) (list_any (same_site a) xs) e) [
  | inl h ↦ inl (site_is a x h)
  | inr h ↦ inr (listed_any a xs h)
]

any_listed : (a : BindingId) (ids : List BindingId) → Elem a.0 (numbers_of ids) → list_any (same_site a) ids ≡ true
any_listed a [] m = absurd m
any_listed a (x ∷ xs) (inl e) = or_left (same_site a x) (list_any (same_site a) xs) (site_same a x e)
any_listed a (x ∷ xs) (inr m) = or_right (same_site a x) (list_any (same_site a) xs) (any_listed a xs m)

-- a site that has a test stands among the keys
key_listed : (s : ℕ) (es : List (BindingId × Constraint)) (c : Constraint) → lookup (is_at (site_cmp (id_of s))) es ≡ Some c
    → Elem s (map (λ e. e.0.0) es)
key_listed s [] c e = cc
key_listed s (d ∷ ds) c e = elim (true_or (is_eq (nat_cmp s d.0.0))) [
  | inl h ↦ inl (same_number s d.0.0 h)
  | inr h ↦ inr (key_listed s ds c (rw h at e))
]

listed_key : (s : ℕ) (es : List (BindingId × Constraint)) → Elem s (map (λ e. e.0.0) es)
    → (c : Constraint) × (lookup (is_at (site_cmp (id_of s))) es ≡ Some c)
listed_key s [] m = absurd m
listed_key s (d ∷ ds) m = elim (true_or (is_eq (nat_cmp s d.0.0))) [
  | inl h ↦ (d.1, rw h refl)
  | inr h ↦ elim m [
    | inl e ↦ clash _ (number_same s d.0.0 e) h
    | inr n ↦ (let k = listed_key s ds n in (k.0, rw h (k.1)))
  ]
]

-- a class that has both sites has the first
class_listed : (a b : BindingId) (classes : List (List BindingId)) → are_joined same_site classes a b ≡ true → Elem a.0 (flat_map numbers_of classes)
class_listed a b [] e = cc
class_listed a b (x ∷ xs) e =
    let first = list_any (same_site a) x in
    let second = list_any (same_site b) x in
    elim (or_holds (first && second) (are_joined same_site xs a b) e) [
      | inl h ↦ elem_left a.0 (numbers_of x) (flat_map numbers_of xs) (listed_any a x ((and_both first second h).0))
      | inr h ↦ elem_right a.0 (numbers_of x) (flat_map numbers_of xs) (class_listed a b xs h)
    ]

-- a site of a class is joined with itself
listed_class : (a : BindingId) (classes : List (List BindingId)) → Elem a.0 (flat_map numbers_of classes) → are_joined same_site classes a a ≡ true
listed_class a [] m = absurd m
listed_class a (x ∷ xs) m = elim (elem_append a.0 (numbers_of x) (flat_map numbers_of xs) m) [
  | inl h ↦
      let k = any_listed a x h in
      or_left (list_any (same_site a) x && list_any (same_site a) x) (are_joined same_site xs a a) (both_and _ _ k k)
  | inr h ↦ or_right (list_any (same_site a) x && list_any (same_site a) x) (are_joined same_site xs a a) (listed_class a xs h)
]

slice_get_left : {A : Type 0} (xs ys : List A) (i : ℕ) → i < length xs → slice_get (xs ++ ys) i ≡ slice_get xs i
slice_get_left [] ys i l = absurd (omega arith)
slice_get_left (x ∷ xs) ys zero l = refl
slice_get_left (x ∷ xs) ys (suc i) l = slice_get_left xs ys i (omega arith)

-- one entry more
pub keys_more : (es : List (BindingId × Constraint)) (i : ℕ) (e : BindingId × Constraint) (old now new : List ℕ) → slice_get es i ≡ Some e
    → now ≡ old ++ map (λ e. e.0.0) (take i es) → new ≡ now ++ e.0.0 ∷ [] → new ≡ old ++ map (λ e. e.0.0) (take (i + 1) es)
keys_more es i e old now new there before step =
    let key : BindingId × Constraint → ℕ = λ e. e.0.0 in
    let one : take (i + 1) es ≡ take i es ++ e ∷ [] =
    take_more es i e (slice_get_within es i e there)
    ∙ ap (λ (x : BindingId × Constraint). take i es ++ x ∷ []) (get_or_from_slice_get es i e e there) in
    let keys : map key (take (i + 1) es) ≡ map key (take i es) ++ e.0.0 ∷ [] = ap (map key) one ∙ map-append key (take i es) (e ∷ []) in
    step ∙ (ap (λ (x : List ℕ). x ++ e.0.0 ∷ []) before
    ∙ (append_assoc old (map key (take i es)) (e.0.0 ∷ []) ∙ ap (λ (x : List ℕ). old ++ x) (sym keys)))

-- the number of a site at a place
pub number_at : (sites : List BindingId) (i : ℕ) → get_or (numbers_of sites) i 0 ≡ (get_or sites i (record { 0 = 0 })).0
number_at sites i = let number : BindingId → ℕ = λ id. id.0 in let some : BindingId = record { 0 = 0 } in get_or-map number sites i some

pub number_low : (sites : List BindingId) (i n : ℕ) → AllBelow (numbers_of sites) n → i < length sites → (get_or sites i (record { 0 = 0 })).0 < n
number_low sites i n all low =
    let within : i < length (numbers_of sites) = simp length-map low in
    let e = number_at sites i in
    let l = all (get_or (numbers_of sites) i 0) (elem_at (numbers_of sites) i 0 within) in
    omega arith

-- one site more, and one class more
pub sites_more : (sites : List BindingId) (i : ℕ) (old now new : List ℕ) → i < length sites → now ≡ old ++ take i (numbers_of sites)
    → new ≡ now ++ (get_or sites i (record { 0 = 0 })).0 ∷ [] → new ≡ old ++ take (i + 1) (numbers_of sites)
sites_more sites i old now new low before step =
    let some : BindingId = record { 0 = 0 } in
    let within : i < length (numbers_of sites) = simp length-map low in
    let one : take (i + 1) (numbers_of sites) ≡ take i (numbers_of sites) ++ (get_or sites i some).0 ∷ [] =
    take_more (numbers_of sites) i 0 within
    ∙ ap (λ (x : ℕ). take i (numbers_of sites) ++ x ∷ []) (number_at sites i) in
    step ∙ (ap (λ (x : List ℕ). x ++ (get_or sites i some).0 ∷ []) before
    ∙ (append_assoc old (take i (numbers_of sites)) ((get_or sites i some).0 ∷ []) ∙ ap (λ (x : List ℕ). old ++ x) (sym one)))

pub low_more : (sites : List BindingId) (i n : ℕ) → i < length sites → AllBelow (take i (numbers_of sites)) n
    → (get_or sites i (record { 0 = 0 })).0 < n
    → AllBelow (take (i + 1) (numbers_of sites)) n
low_more sites i n low all here x m =
    let some : BindingId = record { 0 = 0 } in
    let within : i < length (numbers_of sites) = simp length-map low in
    elim (last_or x 0 (numbers_of sites) i within m) [
      | inl o ↦ all x o
      | inr e ↦ let f : x ≡ (get_or sites i some).0 = e ∙ number_at sites i in omega arith
    ]

pub members_more : (classes : List (List BindingId)) (i : ℕ) (class : List BindingId) → i < length classes → class ≡ get_or classes i class
    → flat_map numbers_of (take (i + 1) classes) ≡ flat_map numbers_of (take i classes) ++ numbers_of class
members_more classes i class low is =
    let one : take (i + 1) classes ≡ take i classes ++ class ∷ [] =
    take_more classes i class low ∙ ap (λ (c : List BindingId). take i classes ++ c ∷ []) (sym is) in
    ap (flat_map numbers_of) one
    ∙ (flat_append numbers_of (take i classes) (class ∷ []) ∙ ap (λ (l : List ℕ). flat_map numbers_of (take i classes) ++ l)
    (append-nil (numbers_of class)))

-- one list more, and those past the last
pub list_more : {A : Type 0} (P : ℕ → List A → Type 0) (lists new : List (Vec A)) (v : Vec A) (n : ℕ) → length lists ≡ n → new ≡ lists ++ v ∷ []
    → ((i : ℕ) → i < n → P i (items_at lists i)) → P n v.items → (i : ℕ) → i < n + 1 → P i (items_at new i)
list_more {A} P lists new v n size e all here i l = elim (less_or i n) [
  | inl k ↦
      let f : slice_get new i ≡ slice_get lists i = ap (λ (y : List (Vec A)). slice_get y i) e ∙ slice_get_left lists (v ∷ []) i (omega arith) in
      subst (P i) (sym (ap items_in f)) (all i k)
  | inr k ↦
      let same : i ≡ length lists = omega arith in
      let f : slice_get new i ≡ Some v = ap (λ (y : List (Vec A)). slice_get y i) e ∙
      (ap (slice_get (lists ++ v ∷ [])) same ∙ slice_get-last lists v) in
      let at : n ≡ i = omega arith in
      subst (P i) (sym (ap items_in f)) (subst (λ (j : ℕ). P j v.items) at here)
]

pub list_all : {A : Type 0} (P : ℕ → List A → Type 0) (lists : List (Vec A)) (n : ℕ) → length lists ≡ n
    → ((i : ℕ) → i < n → P i (items_at lists i)) → ((i : ℕ) → n ≤ i → P i []) → (i : ℕ) → P i (items_at lists i)
list_all P lists n size all past i = elim (less_or i n) [
  | inl k ↦ all i k
  | inr k ↦ subst (P i) (sym (ap items_in (slice_get_past lists i (omega arith)))) (past i k)
]

-- one site more in one of the lists
items_here : (lists : List (Vec BindingId)) (at : ℕ) (v : Vec BindingId) → at < length lists → items_at (set lists at v) at ≡ v.items
items_here [] at v low = absurd (omega arith)
items_here (l ∷ ls) zero v low = refl
items_here (l ∷ ls) (suc at) v low = items_here ls at v (omega arith)

items_other : (lists : List (Vec BindingId)) (at s : ℕ) (v : Vec BindingId) → s ≢ at → items_at (set lists at v) s ≡ items_at lists s
items_other [] at s v n = refl
items_other (l ∷ ls) zero zero v n = absurd (n refl)
items_other (l ∷ ls) zero (suc s) v n = refl
items_other (l ∷ ls) (suc at) zero v n = refl
items_other (l ∷ ls) (suc at) (suc s) v n = items_other ls at s v (λ e. n (ap suc e))

pub items_read : (lists : List (Vec BindingId)) (at k : ℕ) (v : Vec BindingId) → at < length lists → k ≡ at → v ≡ get_or lists k v
    → v.items ≡ items_at lists at
items_read lists at k v low same is =
    let e : slice_get lists at ≡ Some (get_or lists at v) = slice_get-get_or lists at v low in
    ap (λ (w : Vec BindingId). w.items) is
    ∙ (ap (λ (j : ℕ). (get_or lists j v).items) same ∙ sym (ap (λ (o : Option (Vec BindingId)). items_in o) e))

pub number_added : (lists : List (Vec BindingId)) (at s : ℕ) (v : Vec BindingId) (site : BindingId) → at < length lists
    → v.items ≡ items_at lists at ++ site ∷ []
    → numbers_of (items_at (set lists at v) s) ≡ added_at (numbers_of (items_at lists s)) at site.0 s
number_added lists at s v site low e = elim (eq_or s at) [
  | inl same ↦
      let f : numbers_of v.items ≡ numbers_of (items_at lists at) ++ site.0 ∷ [] =
      ap numbers_of e ∙ map-append (λ (id : BindingId). id.0) (items_at lists at) (site ∷ []) in
      rw (eq-eqb s at same, same) (ap numbers_of (items_here lists at v low) ∙ f)
  | inr other ↦ rw (not_same s at other) (ap numbers_of (items_other lists at s v other))
]

-- what a rule wants of a site
wanted_or : (loops : Bool) (o : Option Constraint) (w : Want Constraint) → want_or loops o ≡ Some w
    → ((c : Constraint) × (o ≡ Some c)) ⊎ (loops ≡ true)
wanted_or true o w e = inr refl
wanted_or false None w e = cc
wanted_or false (Some c) w e = inl (c, refl)

has_want : (loops : Bool) (o : Option Constraint) (c : Constraint) → o ≡ Some c → want_or loops o ≡ Some (has c)
has_want loops o c e = rw e refl

loop_want : (loops : Bool) (o : Option Constraint) → loops ≡ true → (w : Want Constraint) × (want_or loops o ≡ Some w)
loop_want loops None e = (one_value, rw e refl)
loop_want loops (Some c) e = (has c, refl)

-- the rule at a place
pub rule_there : (rules seen all : List Rule) (at : ℕ) (rule : Rule) → seen ≡ rules → all ≡ rules → at < length all → rule ≡ get_or seen at rule
    → slice_get rules at ≡ Some rule
rule_there rules seen all at rule e f low is =
    let m = ap length e in
    let n = ap length f in
    sym (ap (λ (l : List Rule). slice_get l at) e) ∙ slice_get_read seen (length seen) at rule refl (omega (arith, m, n)) is

module _ (set : RulesOverSites) where
  -- past the last rule nothing is tested
  pub never_tested : (i s : ℕ) → length set.rules ≤ i → IsTestedSite (rules_in set) i s → ⊥
  never_tested i _ l (IsTestedSite.wanted s w e) = let f = slice_get_past set.rules i l in let g : None ≡ Some w = rw f at e in cc
  never_tested i _ l (IsTestedSite.joined a b e) = let f = slice_get_past set.rules i l in let g : false ≡ true = rw f at e in cc

  pub never_has : (i : ℕ) (t : Test) → length set.rules ≤ i → has_test (rules_in set) i t ≡ true → ⊥
  never_has i t l e = never_tested i _ l (has_tested (rules_in set) i t e)

  pub no_classes : (i : ℕ) → length set.rules ≤ i → AreClasses set i []
  no_classes i l a b e = absurd (never_tested i a.0 l (IsTestedSite.joined a.0 b.0 e))

  -- what tests make are sites
  pub made_below : (x : ℕ) (m : Source Constraint) → (rules_in set).made x ≡ Some m → x < length set.sites
  made_below x m e = elim (less_or x (length set.sites)) [
    | inl l ↦ l
    | inr l ↦ let f = slice_get_past set.sites x l in let g : None ≡ Some m = rw f at e in cc
  ]

  module _ (i : ℕ) (rule : Rule) (there : slice_get set.rules i ≡ Some rule) where
    want_is : (s : ℕ) → (rules_in set).at i s ≡ want_at s rule
    want_is s = ap (λ (o : Option Rule). read_or None (want_at s) o) there

    joins_is : (a b : ℕ) → (rules_in set).joins i a b ≡ rule_joins a b rule
    joins_is a b = ap (λ (o : Option Rule). read_or false (rule_joins a b) o) there

    -- the sites of a rule's tests are listed
    pub tested_listed : (classes : List (List BindingId)) → AreClasses set i classes → (s : ℕ) → IsTestedSite (rules_in set) i s
        → Elem s (tested_in rule classes)
    tested_listed classes are _ (IsTestedSite.wanted s w e) = elim (wanted_or (has_loop s rule) (test_at s rule) w (sym (want_is s) ∙ e)) [
      | inl (c, h) ↦
          elem_left s (map (λ e. e.0.0) rule.constraints ++ numbers_of rule.iterators) (flat_map numbers_of classes)
          (elem_left s (map (λ e. e.0.0) rule.constraints) (numbers_of rule.iterators) (key_listed s rule.constraints c h))
      | inr h ↦
          elem_left s (map (λ e. e.0.0) rule.constraints ++ numbers_of rule.iterators) (flat_map numbers_of classes)
          (elem_right s (map (λ e. e.0.0) rule.constraints) (numbers_of rule.iterators) (listed_any (id_of s) rule.iterators h))
    ]
    tested_listed classes are _ (IsTestedSite.joined a b e) =
        elem_right a (map (λ e. e.0.0) rule.constraints ++ numbers_of rule.iterators) (flat_map numbers_of classes)
        (class_listed (id_of a) (id_of b) classes (are (id_of a) (id_of b) e))

    -- and all that are listed are sites of its tests
    listed_tested : (classes : List (List BindingId)) (x : ℕ) → AreMembers set i classes → AllBelow (flat_map numbers_of classes) 65536
        → Elem x (tested_in rule classes) → IsTestedSite (rules_in set) i x
    listed_tested classes x joined low m =
        elim (elem_append x (map (λ e. e.0.0) rule.constraints ++ numbers_of rule.iterators) (flat_map numbers_of classes) m) [
          | inl n ↦ elim (elem_append x (map (λ e. e.0.0) rule.constraints) (numbers_of rule.iterators) n) [
            | inl k ↦
                let found = listed_key x rule.constraints k in
                IsTestedSite.wanted x (has found.0) (want_is x ∙ has_want (has_loop x rule) (test_at x rule) found.0 found.1)
            | inr k ↦
                let wants = loop_want (has_loop x rule) (test_at x rule) (any_listed (id_of x) rule.iterators k) in
                IsTestedSite.wanted x wants.0 (want_is x ∙ wants.1)
          ]
          | inr n ↦ IsTestedSite.joined x x (joined x (low x n) n)
        ]

    pub tested_few : (classes : List (List BindingId)) → AreAllWithin (rules_in set) (length set.sites) → AreMembers set i classes
        → AllBelow (flat_map numbers_of classes) 65536 → AllBelow (tested_in rule classes) (length set.sites)
    tested_few classes within joined low x m =
        tested_below (rules_in set) (length set.sites) i x within (listed_tested classes x joined low m)

    -- the sets of equal sites of a rule are its classes
    pub classes_are : (sets : List (List BindingId)) → AreAllWithin (rules_in set) (length set.sites) → length set.sites ≤ 65536
        → ListsEqualSites rule.equals sets → AreClasses set i sets
    classes_are sets within few lists a b e =
        let low : a.0 < length set.sites = tested_below (rules_in set) (length set.sites) i a.0 within (IsTestedSite.joined a.0 b.0 e) in
        lists.joined a b (omega arith) ∙ (sym (joins_is a.0 b.0) ∙ e)

    pub members_are : (sets : List (List BindingId)) → ListsEqualSites rule.equals sets → AreMembers set i sets
    members_are sets lists x low m = joins_is x x ∙ (sym (lists.joined (id_of x) (id_of x) (omega arith)) ∙ listed_class (id_of x) sets m)

-- numbers added behind a list
module _ (i : ℕ) (old new : List ℕ) (adds : AddsOnly i old new) where
  pub adds_once : (at s : ℕ) (last : List ℕ) → last ≡ added_at new at i s → AddsOnly i old last
  adds_once at s last e = elim (true_or (s == at)) [
    | inl h ↦
        let f : last ≡ new ++ i ∷ [] = e ∙ (rw h refl) in
        record {
          more = adds.more ++ i ∷ [];
          behind = f ∙ (ap (λ (y : List ℕ). y ++ i ∷ []) adds.behind ∙ append_assoc old adds.more (i ∷ []));
          only = λ x m. elim (elem_append x adds.more (i ∷ []) m) [
            | inl k ↦ adds.only x k
            | inr k ↦ elim k [ inl q ↦ q | inr z ↦ absurd z ]
          ];
        }
    | inr h ↦
        let f : last ≡ new = e ∙ (rw h refl) in
        record { more = adds.more; behind = f ∙ adds.behind; only = adds.only }
  ]

  pub kept_still : (x : ℕ) → Elem x old → Elem x new
  kept_still x m = let P : List ℕ → Type 0 = λ l. Elem x l in subst P (sym adds.behind) (elem_left x old adds.more m)

-- a list stays in order where a number is added that none of it passes
module _ (i : ℕ) (old new : List ℕ) (low : (x : ℕ) → Elem x old → x ≤ i) (adds : AddsOnly i old new) where
  pub low_still : (x : ℕ) → Elem x new → x ≤ i
  low_still x m =
      let P : List ℕ → Type 0 = λ l. Elem x l in
      elim (elem_append x old adds.more (subst P adds.behind m)) [
        | inl k ↦ low x k
        | inr k ↦ let e = adds.only x k in omega arith
      ]

  added_is : (l d : ℕ) → length old ≤ l → l < length new → get_or new l d ≡ i
  added_is l d from to =
      let e : length new ≡ length old + length adds.more = ap length adds.behind ∙ length-append old adds.more in
      let k : l - length old < length adds.more = omega arith in
      ap (λ (y : List ℕ). get_or y l d) adds.behind ∙ (get_or-append_right old adds.more (length old) l d refl from
      ∙ adds.only (get_or adds.more (l - length old) d) (elem_at adds.more (l - length old) d k))

  pub rising_still : IsRising old → IsRising new
  rising_still up k l d before within = elim (less_or l (length old)) [
    | inl short ↦
        let e : get_or new k d ≡ get_or old k d = ap (λ (y : List ℕ). get_or y k d) adds.behind ∙ get_or_append_left old adds.more d k
        (omega arith) in
        let f : get_or new l d ≡ get_or old l d = ap (λ (y : List ℕ). get_or y l d) adds.behind ∙ get_or_append_left old adds.more d l short in
        let g : get_or old k d ≤ get_or old l d = up k l d before short in
        omega arith
    | inr long ↦
        let e : get_or new l d ≡ i = added_is l d long within in
        let f : get_or new k d ≤ i = low_still (get_or new k d) (elem_at new k d (omega arith)) in
        omega arith
  ]
