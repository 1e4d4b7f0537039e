-- What a rooted table says of the sets that it stands for.
use Rattle.std.proofs.Common.{◌≡◌, zero, suc, Bool, true, false, not, ◌&&◌, ◌||◌, List, [], ◌∷◌, map, refl, sym, ap, ◌∙◌, arith}
use Rattle.std.specs.Prelude.{Option, Some, None, find, slice_get, Contains}
use Rattle.std.specs.List.{list_any, IsDistinct, AllByRecursion}
use Rattle.std.specs.Cmp.{IsEquivalence}
use Rattle.std.specs.Map.{keys_of, lookup, lookup_entry}
use Rattle.std.specs.Set.{is_member}
use Rattle.std.proofs.lemmas.Map.{lookup-none}
use Rattle.std.proofs.lemmas.Map.Entries.{none_past_head}
use Rattle.std.proofs.lemmas.Map.Keys.{IsDistinct-head, IsDistinct-tail}
use Rattle.std.proofs.lemmas.Map.Views.{lookup-from_Contains}
use Rattle.std.proofs.lemmas.List.Elements.{recursion_from_All, All-from_recursion, All-contains, All-contains_itself}
use Rattle.std.proofs.lemmas.Bool.{or_right, or_left, and_right, false≢true}
use Rattle.isle_containers.specs.JoinedSets.{set_of, representative, are_joined}
use Rattle.isle_containers.specs.JoinedTables.{roots, others_of, sets_of, IsRooted}

-- whether a member with this value is in the set of r
abbrev pub has_root : {T : Type 0} → (T → T → Bool) → T → Option T → Bool
has_root eq r None = false
has_root eq r (Some v) = eq v r

-- whether members with these values are in one set
abbrev pub same_root : {T : Type 0} → (T → T → Bool) → Option T → Option T → Bool
same_root eq None q = false
same_root eq (Some a) q = has_root eq a q

-- the set of a member with this value
abbrev pub set_at : {T : Type 0} → (T → T → Bool) → List (T × T) → Option T → List T
set_at eq table None = []
set_at eq table (Some r) = r ∷ others_of eq table r

pub or_and_not : (a h : Bool) → (a ≡ true → h ≡ true) → (a || (h && not a)) ≡ h
or_and_not true h f = sym (f refl)
or_and_not false true f = refl
or_and_not false false f = refl

pub and_self : (a : Bool) → (a && a) ≡ a
and_self true = refl
and_self false = refl

pub Contains-map : {A B : Type 0} (f : A → B) (xs : List A) (x : A) → Contains xs x → Contains (map f xs) (f x)
Contains-map f [] x (k, l, at) = absurd (omega arith)
Contains-map f (y ∷ xs) x (zero, l, at) = (0, (omega arith), ap f at)
Contains-map f (y ∷ xs) x (suc k, l, at) =
    let c = Contains-map f xs x (k, (omega arith), at) in
    (suc c.0, (omega arith), c.2)

module _ {T : Type 0} {eq : T → T → Bool} (laws : IsEquivalence eq) where
  pub eq_right : (x y z : T) → eq x y ≡ true → eq z x ≡ eq z y
  eq_right x y z h = laws.symm z x ∙ laws.congr x y z h ∙ laws.symm y z

  pub lookup_alike : {X : Type 0} (x y : T) (es : List (T × X)) → eq x y ≡ true → lookup (eq x) es ≡ lookup (eq y) es
  lookup_alike x y [] h = refl
  lookup_alike x y (e ∷ es) h = rw (laws.congr x y e.0 h, lookup_alike x y es h)

  others_member_step : (x r : T) (e : T × T) (es : List (T × T)) → IsDistinct eq (keys_of (e ∷ es))
      → list_any (eq x) (others_of eq es r) ≡ (has_root eq r (lookup (eq x) es) && not (eq x r)) → (a b : Bool) → eq x e.0 ≡ a
      → (eq e.1 r && not (eq e.0 r)) ≡ b → list_any (eq x) (others_of eq (e ∷ es) r) ≡ (has_root eq r (lookup (eq x) (e ∷ es)) && not (eq x r))
  others_member_step x r e es d ih true true p t = rw (t, p) (sym (rw (laws.congr x e.0 r p) t))
  others_member_step x r e es d ih true false p t =
      let none = lookup-none (eq x) es (none_past_head laws x e es d p) in
      rw (t, p) (rw none at ih ∙ sym (rw (laws.congr x e.0 r p) t))
  others_member_step x r e es d ih false true p t = rw (t, p) ih
  others_member_step x r e es d ih false false p t = rw (t, p) ih

  -- the other members of the set of r
  pub others_member : (x r : T) (es : List (T × T)) → IsDistinct eq (keys_of es)
      → list_any (eq x) (others_of eq es r) ≡ (has_root eq r (lookup (eq x) es) && not (eq x r))
  others_member x r [] d = refl
  others_member x r (e ∷ es) d = others_member_step x r e es d (others_member x r es (IsDistinct-tail eq e.0 (keys_of es) d)) (eq x e.0)
      (eq e.1 r && not (eq e.0 r)) refl refl

  -- the members of the set of r
  pub set_member : (x r : T) (es : List (T × T)) → IsDistinct eq (keys_of es) → lookup (eq r) es ≡ Some r
      → is_member eq (r ∷ others_of eq es r) x ≡ has_root eq r (lookup (eq x) es)
  set_member x r es d root =
      rw (others_member x r es d) (or_and_not (eq x r) _ (λ h. rw (lookup_alike x r es h, root) (laws.refl r)))

  -- an entry is the one that a look-up finds
  pub entry_found : (q : T) (e : T × T) (es : List (T × T)) → IsDistinct eq (keys_of es) → Contains es e → eq q e.0 ≡ true
      → lookup_entry (eq q) es ≡ Some e
  entry_found q e [] d (k, l, at) h = absurd (omega arith)
  entry_found q e (f ∷ es) d (zero, l, at) h = rw (at, h)
  entry_found q e (f ∷ es) d (suc k, l, at) h =
      let c : Contains es e = (k, (omega arith), at) in
      let apart : eq f.0 e.0 ≡ false = All-contains (λ y. eq f.0 y ≡ false) (keys_of es) e.0
      (All-from_recursion _ _ (IsDistinct-head eq f.0 (keys_of es) d)) (Contains-map (λ (e : T × T). e.0) es e c) in
      rw (laws.congr q e.0 f.0 h ∙ laws.symm e.0 f.0 ∙ apart) (entry_found q e es (IsDistinct-tail eq f.0 (keys_of es) d) c h)

  -- two entries of equal keys are one
  pub entry_same : (e f : T × T) (es : List (T × T)) → IsDistinct eq (keys_of es) → Contains es e → Contains es f → eq e.0 f.0 ≡ true → e ≡ f
  entry_same e f es d c k h =
      let p = entry_found e.0 e es d c (laws.refl e.0) in
      let q = entry_found e.0 f es d k h in
      cc

  roots_found_step : (es : List (T × T)) → IsRooted eq es → (z : T × T) (zs : List (T × T)) → Contains es z
      → AllByRecursion (λ r. lookup (eq r) es ≡ Some r) (roots eq zs) → (b : Bool) → eq z.0 z.1 ≡ b
      → AllByRecursion (λ r. lookup (eq r) es ≡ Some r) (roots eq (z ∷ zs))
  roots_found_step es i z zs c ih false p = rw p ih
  roots_found_step es i z zs c ih true p =
      let found = lookup-from_Contains laws z.0 z.1 es i.distinct c in
      let same = entry_same z (z.1, z.1) es i.distinct c (i.rooted z.0 z.1 found) p in
      let key : z.0 ≡ z.1 = ap (λ (e : T × T). e.0) same in
      rw p (found ∙ ap Some (sym key), ih)

  -- the members that represent themselves are found with themselves
  roots_found : (es : List (T × T)) → IsRooted eq es → (zs : List (T × T)) → AllByRecursion (Contains es) zs
      → AllByRecursion (λ r. lookup (eq r) es ≡ Some r) (roots eq zs)
  roots_found es i [] a = tt
  roots_found es i (z ∷ zs) a = roots_found_step es i z zs a.0 (roots_found es i zs a.1) (eq z.0 z.1) refl

  roots_has_step : (v : T) (e : T × T) (es : List (T × T)) → list_any (eq v) (roots eq es) ≡ true → (b : Bool) → eq e.0 e.1 ≡ b
      → list_any (eq v) (roots eq (e ∷ es)) ≡ true
  roots_has_step v e es ih false p = rw p ih
  roots_has_step v e es ih true p = rw p (or_right (eq v e.0) _ ih)

  -- a value is among the members that represent themselves
  pub roots_has : (v : T) (es : List (T × T)) → Contains es (v, v) → list_any (eq v) (roots eq es) ≡ true
  roots_has v [] (k, l, at) = absurd (omega arith)
  roots_has v (e ∷ es) (zero, l, at) = rw (at, laws.refl v) (or_left (eq v v) _ (laws.refl v))
  roots_has v (e ∷ es) (suc k, l, at) = roots_has_step v e es (roots_has v es (k, (omega arith), at)) (eq e.0 e.1) refl

  any_none : (rs : List T) → list_any (λ r. false) rs ≡ false
  any_none [] = refl
  any_none (r ∷ rs) = any_none rs

  any_alike : (a b : T) (rs : List T) → eq b a ≡ true → list_any (λ r. eq a r && eq b r) rs ≡ list_any (eq a) rs
  any_alike a b [] p = refl
  any_alike a b (r ∷ rs) p = rw (laws.congr b a r p, any_alike a b rs p) (ap (λ t. t || list_any (eq a) rs) (and_self (eq a r)))

  any_apart_step : (a b r : T) (rs : List T) → eq b a ≡ false → list_any (λ r. eq a r && eq b r) rs ≡ false → (t : Bool) → eq a r ≡ t
      → list_any (λ r. eq a r && eq b r) (r ∷ rs) ≡ false
  any_apart_step a b r rs p ih false q = rw q ih
  any_apart_step a b r rs p ih true q = rw (q, sym (eq_right a r b q) ∙ p) ih

  any_apart : (a b : T) (rs : List T) → eq b a ≡ false → list_any (λ r. eq a r && eq b r) rs ≡ false
  any_apart a b [] p = refl
  any_apart a b (r ∷ rs) p = any_apart_step a b r rs p (any_apart a b rs p) (eq a r) refl

  any_both : (a b : T) (rs : List T) → list_any (eq a) rs ≡ true → (t : Bool) → eq b a ≡ t → list_any (λ r. eq a r && eq b r) rs ≡ t
  any_both a b rs h false p = any_apart a b rs p
  any_both a b rs h true p = any_alike a b rs p ∙ h

  any_and_none : (a : T) (rs : List T) → list_any (λ r. eq a r && false) rs ≡ false
  any_and_none a [] = refl
  any_and_none a (r ∷ rs) = rw (and_right (eq a r) false refl, any_and_none a rs)

  any_root : (p q : Option T) (rs : List T) → ((v : T) → p ≡ Some v → list_any (eq v) rs ≡ true)
      → list_any (λ r. has_root eq r p && has_root eq r q) rs ≡ same_root eq p q
  any_root None q rs h = any_none rs
  any_root (Some a) None rs h = any_and_none a rs
  any_root (Some a) (Some b) rs h = any_both a b rs (h a refl) (eq b a) refl

  module _ (es : List (T × T)) (i : IsRooted eq es) where
    -- a value represents itself
    pub root_found : (x v : T) → lookup (eq x) es ≡ Some v → lookup (eq v) es ≡ Some v
    root_found x v h = lookup-from_Contains laws v v es i.distinct (i.rooted x v h)

    pub all_roots_found : AllByRecursion (λ r. lookup (eq r) es ≡ Some r) (roots eq es)
    all_roots_found = roots_found es i es (recursion_from_All (Contains es) es (All-contains_itself es))

    -- equal values are one
    pub root_same : (x y v w : T) → lookup (eq x) es ≡ Some v → lookup (eq y) es ≡ Some w → eq v w ≡ true → v ≡ w
    root_same x y v w p q h =
        let a = root_found x v p in
        let b = root_found y w q in
        let c = lookup_alike v w es h in
        cc

    find_none : (x : T) (rs : List T) → AllByRecursion (λ r. lookup (eq r) es ≡ Some r) rs → lookup (eq x) es ≡ None
        → find (λ set. is_member eq set x) (map (λ r. r ∷ others_of eq es r) rs) ≡ None
    find_none x [] a n = refl
    find_none x (r ∷ rs) a n = rw (set_member x r es i.distinct a.0, n) (find_none x rs a.1 n)

    find_some_step : (x v r : T) (rs : List T) → AllByRecursion (λ r. lookup (eq r) es ≡ Some r) (r ∷ rs) → lookup (eq x) es ≡ Some v
        → list_any (eq v) (r ∷ rs) ≡ true
        → (list_any (eq v) rs ≡ true → find (λ set. is_member eq set x) (map (λ r. r ∷ others_of eq es r) rs) ≡ Some (v ∷ others_of eq es v))
        → (b : Bool) → eq v r ≡ b → find (λ set. is_member eq set x) (map (λ r. r ∷ others_of eq es r) (r ∷ rs)) ≡ Some
        (v ∷ others_of eq es v)
    find_some_step x v r rs a n h ih true p =
        rw (set_member x r es i.distinct a.0, n, p) (rw (root_same x r v r n a.0 p))
    find_some_step x v r rs a n h ih false p =
        rw (set_member x r es i.distinct a.0, n, p) (ih (rw p at h))

    find_some : (x v : T) (rs : List T) → AllByRecursion (λ r. lookup (eq r) es ≡ Some r) rs → lookup (eq x) es ≡ Some v
        → list_any (eq v) rs ≡ true → find (λ set. is_member eq set x) (map (λ r. r ∷ others_of eq es r) rs) ≡ Some (v ∷ others_of eq es v)
    find_some x v [] a n h = absurd (false≢true h)
    find_some x v (r ∷ rs) a n h = find_some_step x v r rs a n h (λ k. find_some x v rs a.1 n k) (eq v r) refl

    set_of_step : (x : T) (o : Option T) → lookup (eq x) es ≡ o → set_of eq (sets_of eq es) x ≡ set_at eq es o
    set_of_step x None n = rw (find_none x (roots eq es) all_roots_found n)
    set_of_step x (Some v) n = rw (find_some x v (roots eq es) all_roots_found n (roots_has v es (i.rooted x v n)))

    -- the set of a member, by its value
    pub set_of_is : (x : T) → set_of eq (sets_of eq es) x ≡ set_at eq es (lookup (eq x) es)
    set_of_is x = set_of_step x (lookup (eq x) es) refl

    first_of_set_at : (o : Option T) → slice_get (set_at eq es o) 0 ≡ o
    first_of_set_at None = refl
    first_of_set_at (Some v) = refl

    -- the representative is the value
    pub representative_is : (x : T) → representative eq (sets_of eq es) x ≡ lookup (eq x) es
    representative_is x = rw (set_of_is x) (first_of_set_at (lookup (eq x) es))

    joined_by_roots : (x y : T) (rs : List T) → AllByRecursion (λ r. lookup (eq r) es ≡ Some r) rs
        → are_joined eq (map (λ r. r ∷ others_of eq es r) rs) x y ≡ list_any
        (λ r. has_root eq r (lookup (eq x) es) && has_root eq r (lookup (eq y) es)) rs
    joined_by_roots x y [] a = refl
    joined_by_roots x y (r ∷ rs) a = rw (set_member x r es i.distinct a.0, set_member y r es i.distinct a.0, joined_by_roots x y rs a.1)

    -- two members are joined if they have one value
    pub are_joined_is : (x y : T) → are_joined eq (sets_of eq es) x y ≡ same_root eq (lookup (eq x) es) (lookup (eq y) es)
    are_joined_is x y = joined_by_roots x y (roots eq es) all_roots_found
        ∙ any_root (lookup (eq x) es) (lookup (eq y) es) (roots eq es) (λ v n. roots_has v es (i.rooted x v n))

    -- whether two members are joined, by their values
    pub joined_found : (x y a b : T) → lookup (eq x) es ≡ Some a → lookup (eq y) es ≡ Some b → are_joined eq (sets_of eq es) x y ≡ eq a b
    joined_found x y a b p q = are_joined_is x y ∙ rw (p, q) (laws.symm b a)

    pub joined_left : (x y : T) → lookup (eq x) es ≡ None → are_joined eq (sets_of eq es) x y ≡ false
    joined_left x y p = are_joined_is x y ∙ rw p refl

    pub joined_right : (x y a : T) → lookup (eq x) es ≡ Some a → lookup (eq y) es ≡ None → are_joined eq (sets_of eq es) x y ≡ false
    joined_right x y a p q = are_joined_is x y ∙ rw (p, q) refl
