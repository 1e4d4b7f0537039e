-- The members of a rooted table's sets are its keys.
use Rattle.std.proofs.Common.{◌≡◌, zero, suc, ◌≤◌, Bool, true, false, cond, List, [], ◌∷◌, length, refl, sym, ap, ◌∙◌, subst, arith}
use Rattle.std.specs.Prelude.{Some, filter, Contains, IsPermutation}
use Rattle.std.specs.List.{flat_map, list_any, IsDistinct, AllByRecursion}
use Rattle.std.specs.Cmp.{IsEquivalence}
use Rattle.std.specs.Map.{keys_of, lookup}
use Rattle.std.proofs.lemmas.Map.Entries.{length-keys_of}
use Rattle.std.proofs.lemmas.Map.Keys.{IsDistinct-head, IsDistinct-tail, IsDistinct-IsPermutation}
use Rattle.std.proofs.lemmas.Map.Made.{IsDistinct-keys_filter}
use Rattle.std.proofs.lemmas.Map.Views.{lookup-from_Contains}
use Rattle.std.proofs.lemmas.List.Elements.{recursion_from_All, All-from_recursion, All-contains, All-contains_itself, All-map}
use Rattle.std.proofs.lemmas.List.Folds.{flat_map-map}
use Rattle.std.proofs.lemmas.List.Sorted.{IsPermutation-refl, IsPermutation-sym, IsPermutation-cons, IsPermutation-middle, IsPermutation-append}
use Rattle.std.proofs.lemmas.List.Sorted.{IsPermutation-append_right, IsPermutation-trans, length_permutation}
use Rattle.std.proofs.lemmas.Bool.{false≢true}
use Rattle.isle_containers.specs.JoinedSets.{members, AreDisjoint}
use Rattle.isle_containers.specs.JoinedTables.{roots, others_of, members_at, sets_of, IsRooted, IsJoinedTable}
use Rattle.isle_containers.proofs.RootedTables.{Contains-map, roots_has, all_roots_found}

module _ {T : Type 0} {eq : T → T → Bool} (laws : IsEquivalence eq) where
  others_all_step : (r : T) (e : T × T) (es : List (T × T)) → eq e.0 r ≡ false → others_of eq es r ≡ members_at eq es r → (b : Bool)
      → eq e.1 r ≡ b → others_of eq (e ∷ es) r ≡ members_at eq (e ∷ es) r
  others_all_step r e es apart ih true p = rw (p, apart) (ap (λ ks. e.0 ∷ ks) ih)
  others_all_step r e es apart ih false p = rw p ih

  -- where no key equals r, r is not among them
  others_all : (r : T) (es : List (T × T)) → AllByRecursion (λ y. eq r y ≡ false) (keys_of es) → others_of eq es r ≡ members_at eq es r
  others_all r [] a = refl
  others_all r (e ∷ es) a = others_all_step r e es (laws.symm e.0 r ∙ a.0) (others_all r es a.1) (eq e.1 r) refl

  members_at_step : (r : T) (e : T × T) (es : List (T × T)) → eq e.0 r ≡ false → IsPermutation (members_at eq es r) (r ∷ others_of eq es r)
      → (b : Bool) → eq e.1 r ≡ b → IsPermutation (members_at eq (e ∷ es) r) (r ∷ others_of eq (e ∷ es) r)
  members_at_step r e es apart ih true p =
      rw (p, apart) (IsPermutation-trans _ _ _ (IsPermutation-cons e.0 _ _ ih) (IsPermutation-middle (e.0 ∷ []) r (others_of eq es r)))
  members_at_step r e es apart ih false p = rw p ih

  -- the members with the value r are r and the others
  pub members_at_is : (r : T) (es : List (T × T)) → IsDistinct eq (keys_of es) → Contains es (r, r)
      → IsPermutation (members_at eq es r) (r ∷ others_of eq es r)
  members_at_is r [] d (k, l, at) = absurd (omega arith)
  members_at_is r (e ∷ es) d (zero, l, at) =
      let key : e.0 ≡ r = ap (λ (f : T × T). f.0) at in
      let apart : AllByRecursion (λ y. eq r y ≡ false) (keys_of es) = subst (λ (k : T). AllByRecursion (λ y. eq k y ≡ false) (keys_of es)) key
      (IsDistinct-head eq e.0 (keys_of es) d) in
      rw (at, laws.refl r) (rw (others_all r es apart) (IsPermutation-refl _))
  members_at_is r (e ∷ es) d (suc k, l, at) =
      let c : Contains es (r, r) = (k, (omega arith), at) in
      let apart : eq e.0 r ≡ false = All-contains (λ y. eq e.0 y ≡ false) (keys_of es) r
      (All-from_recursion _ _ (IsDistinct-head eq e.0 (keys_of es) d)) (Contains-map (λ (f : T × T). f.0) es (r, r) c) in
      members_at_step r e es apart (members_at_is r es (IsDistinct-tail eq e.0 (keys_of es) d) c) (eq e.1 r) refl

  spread_none : (z : T × T) (r : T) (F : T → List (T × T)) (rs : List T) → eq z.1 r ≡ true → AllByRecursion (λ y. eq r y ≡ false) rs
      → flat_map (λ r. keys_of (cond (eq z.1 r) (z ∷ F r) (F r))) rs ≡ flat_map (λ r. keys_of (F r)) rs
  spread_none z r F [] p a = refl
  spread_none z r F (s ∷ rs) p a = rw (laws.congr z.1 r s p ∙ a.0, spread_none z r F rs p a.1)

  spread_step : (z : T × T) (F : T → List (T × T)) (r : T) (rs : List T) → AllByRecursion (λ y. eq r y ≡ false) rs
      → list_any (eq z.1) (r ∷ rs) ≡ true
      → (list_any (eq z.1) rs ≡ true → IsPermutation (z.0 ∷ flat_map (λ r. keys_of (F r)) rs)
      (flat_map (λ r. keys_of (cond (eq z.1 r) (z ∷ F r) (F r))) rs)) → (b : Bool) → eq z.1 r ≡ b
      → IsPermutation (z.0 ∷ flat_map (λ r. keys_of (F r)) (r ∷ rs)) (flat_map (λ r. keys_of (cond (eq z.1 r) (z ∷ F r) (F r))) (r ∷ rs))
  spread_step z F r rs a h ih true p = rw (p, spread_none z r F rs p a) (IsPermutation-refl _)
  spread_step z F r rs a h ih false p =
      rw p (IsPermutation-trans _ _ _ (IsPermutation-sym _ _ (IsPermutation-middle (keys_of (F r)) z.0 (flat_map (λ r. keys_of (F r)) rs)))
      (IsPermutation-append_right (keys_of (F r)) _ _ (ih (rw p at h))))

  -- one more entry goes to one of the lists
  spread : (z : T × T) (F : T → List (T × T)) (rs : List T) → IsDistinct eq rs → list_any (eq z.1) rs ≡ true
      → IsPermutation (z.0 ∷ flat_map (λ r. keys_of (F r)) rs) (flat_map (λ r. keys_of (cond (eq z.1 r) (z ∷ F r) (F r))) rs)
  spread z F [] d h = absurd (false≢true h)
  spread z F (r ∷ rs) d h = spread_step z F r rs (IsDistinct-head eq r rs d) h (λ k. spread z F rs (IsDistinct-tail eq r rs d) k) (eq z.1 r) refl

  none_spread : (rs : List T) → [] ≡ flat_map (λ (r : T). keys_of {K = T} {X = T} []) rs
  none_spread [] = refl
  none_spread (r ∷ rs) = none_spread rs

  -- the keys by their values
  keys_by_value : (rs : List T) → IsDistinct eq rs → (zs : List (T × T)) → AllByRecursion (λ z. list_any (eq z.1) rs ≡ true) zs
      → IsPermutation (keys_of zs) (flat_map (λ r. members_at eq zs r) rs)
  keys_by_value rs d [] a = subst (λ (ks : List T). IsPermutation [] ks) (none_spread rs) (IsPermutation-refl [])
  keys_by_value rs d (z ∷ zs) a =
      IsPermutation-trans _ _ _ (IsPermutation-cons z.0 _ _ (keys_by_value rs d zs a.1)) (spread z (λ r. filter (λ e. eq e.1 r) zs) rs d a.0)

  flat_map_permutation : (f g : T → List T) (rs : List T) → AllByRecursion (λ r. IsPermutation (f r) (g r)) rs
      → IsPermutation (flat_map f rs) (flat_map g rs)
  flat_map_permutation f g [] a = IsPermutation-refl []
  flat_map_permutation f g (r ∷ rs) a = IsPermutation-append _ _ _ _ a.0 (flat_map_permutation f g rs a.1)

  all_weaker : {X : Type 0} (P Q : X → Type 0) → ((x : X) → P x → Q x) → (xs : List X) → AllByRecursion P xs → AllByRecursion Q xs
  all_weaker P Q f [] a = tt
  all_weaker P Q f (x ∷ xs) a = (f x a.0, all_weaker P Q f xs a.1)

  module _ (es : List (T × T)) (i : IsRooted eq es) where
    -- the keys are the members
    pub keys_are_members : IsPermutation (keys_of es) (members (sets_of eq es))
    keys_are_members =
        let rs = roots eq es in
        let placed = all_weaker (Contains es) (λ z. list_any (eq z.1) rs ≡ true)
        (λ z c. roots_has laws z.1 es (i.rooted z.0 z.1 (lookup-from_Contains laws z.0 z.1 es i.distinct c))) es
        (recursion_from_All (Contains es) es (All-contains_itself es)) in
        let each = all_weaker (λ r. lookup (eq r) es ≡ Some r) (λ r. IsPermutation (members_at eq es r) (r ∷ others_of eq es r))
        (λ r found. members_at_is r es i.distinct (i.rooted r r found)) rs (all_roots_found laws es i) in
        rw (flat_map-map (λ (set : List T). set) (λ (r : T). r ∷ others_of eq es r) rs)
        (IsPermutation-trans _ _ _ (keys_by_value rs (IsDistinct-keys_filter eq (λ e. eq e.0 e.1) es i.distinct) es placed)
        (flat_map_permutation _ _ rs each))

    -- there are as many members as entries
    pub length_members : length (members (sets_of eq es)) ≡ length es
    length_members = length_permutation _ _ keys_are_members ∙ length-keys_of es

    pub members_distinct : IsDistinct eq (members (sets_of eq es))
    members_distinct = IsDistinct-IsPermutation eq laws.symm _ _ keys_are_members i.distinct

  another_step : (p : T × T → Bool) (e : T × T) (es : List (T × T)) → list_any p (e ∷ es) ≡ true
      → (list_any p es ≡ true → 1 ≤ length (keys_of (filter p es))) → (b : Bool) → p e ≡ b → 1 ≤ length (keys_of (filter p (e ∷ es)))
  another_step p e es h ih true q = rw q (omega arith)
  another_step p e es h ih false q = rw q (ih (rw q at h))

  another : (p : T × T → Bool) (es : List (T × T)) → list_any p es ≡ true → 1 ≤ length (keys_of (filter p es))
  another p [] h = absurd (false≢true h)
  another p (e ∷ es) h = another_step p e es h (another p es) (p e) refl

  -- the sets of a table share no member
  pub sets_disjoint : (es : List (T × T)) → IsJoinedTable eq es → AreDisjoint eq (sets_of eq es)
  sets_disjoint es j = record {
    at_least_two = All-map (λ (set : List T). 2 ≤ length set) (λ (r : T). r ∷ others_of eq es r) (roots eq es)
        (All-from_recursion _ _ (all_weaker (λ r. lookup (eq r) es ≡ Some r) (λ r. 2 ≤ suc (length (others_of eq es r)))
        (λ r found. let one = another _ es (j.paired r r found) in omega arith) (roots eq es) (all_roots_found laws es j.is_rooted)));
    distinct = members_distinct es j.is_rooted;
  }

  -- a rooted table with no set is empty
  pub empty_from_sets : (es : List (T × T)) → IsRooted eq es → sets_of eq es ≡ [] → length es ≡ 0
  empty_from_sets es i h = sym (length_members es i) ∙ ap (λ sets. length (members sets)) h

  pub sets_from_empty : (es : List (T × T)) → length es ≡ 0 → sets_of eq es ≡ []
  sets_from_empty [] h = refl
  sets_from_empty (e ∷ es) h = absurd (omega arith)
