-- The table after a merge: x and y are entered, and the representative of y gives way to that of x.
use Rattle.std.proofs.Common.{◌≡◌, suc, Bool, true, false, not, cond, ◌&&◌, ◌||◌, List, [], ◌∷◌, map, refl, sym, ap, ◌∙◌, subst, arith}
use Rattle.std.specs.Prelude.{IsPermutation, Option, Some, None, unwrap_or, is_some, option_map, Contains}
use Rattle.std.specs.Option.{option_or}
use Rattle.std.specs.List.{list_any, IsDistinct}
use Rattle.std.specs.Cmp.{IsEquivalence}
use Rattle.std.specs.Map.{keys_of, lookup}
use Rattle.std.proofs.lemmas.Map.Made.{lookup-map_values, keys_of-map_values, is_some-lookup}
use Rattle.std.proofs.lemmas.List.Sorted.{Contains-permutation, list_any-IsPermutation, IsPermutation-sym, IsPermutation-cons, IsPermutation-map}
use Rattle.std.proofs.lemmas.List.Sorted.{IsPermutation-trans}
use Rattle.std.proofs.lemmas.Bool.{or_left, or_right, and_parts, false≢true, false_from_ne_true}
use Rattle.isle_containers.specs.JoinedSets.{representative, are_joined, comes_together, members, with_member}
use Rattle.isle_containers.specs.JoinedTables.{sets_of, entered, relabeled, IsRooted, IsJoinedTable, IsReorderedTable}
use Rattle.isle_containers.proofs.RootedTables.{Contains-map, lookup_alike, eq_right, root_found, representative_is, are_joined_is}
use Rattle.isle_containers.proofs.TableMembers.{keys_are_members}
use Rattle.isle_containers.proofs.JoinedRoots.{comes, after_entry, after_merge, entered_root, cond_alike, Some≢None, Some_same, after_entry_is}
use Rattle.isle_containers.proofs.JoinedRoots.{merged_root, merged_joined, comes_by_y}

-- each value is an entry with itself
abbrev pub AreRoots : {T : Type 0} → (T → T → Bool) → List (T × T) → Type 0
AreRoots {T} eq es = (x r : T) → lookup (eq x) es ≡ Some r → Contains es (r, r)

any_weaker_step : {X : Type 0} (p q : X → Bool) → ((x : X) → p x ≡ true → q x ≡ true) → (x : X) (xs : List X) → list_any p (x ∷ xs) ≡ true
    → (list_any p xs ≡ true → list_any q xs ≡ true) → (b : Bool) → p x ≡ b → list_any q (x ∷ xs) ≡ true
any_weaker_step p q f x xs h ih true e = or_left (q x) _ (f x e)
any_weaker_step p q f x xs h ih false e = or_right (q x) _ (ih (rw e at h))

pub any_weaker : {X : Type 0} (p q : X → Bool) → ((x : X) → p x ≡ true → q x ≡ true) → (xs : List X) → list_any p xs ≡ true → list_any q xs ≡ true
any_weaker p q f [] h = absurd (false≢true h)
any_weaker p q f (x ∷ xs) h = any_weaker_step p q f x xs h (any_weaker p q f xs) (p x) refl

pub any-map : {X Y : Type 0} (p : Y → Bool) (f : X → Y) (xs : List X) → list_any p (map f xs) ≡ list_any (λ x. p (f x)) xs
any-map p f [] = refl
any-map p f (x ∷ xs) = ap (λ b. p (f x) || b) (any-map p f xs)

option_or_some : {X : Type 0} (o : Option X) (x : X) (p : Option X) → option_or (option_or o (Some x)) p ≡ Some (unwrap_or o x)
option_or_some None x p = refl
option_or_some (Some y) x p = refl

option_or_none : {X : Type 0} (o : Option X) → option_or o None ≡ o
option_or_none None = refl
option_or_none (Some x) = refl

module _ {T : Type 0} {eq : T → T → Bool} (laws : IsEquivalence eq) where
  lookup_cond : (a x : T) (es : List (T × T)) (b : Bool)
      → lookup (eq a) (cond b es ((x, x) ∷ es)) ≡ cond b (lookup (eq a) es) (cond (eq a x) (Some x) (lookup (eq a) es))
  lookup_cond a x es true = refl
  lookup_cond a x es false = refl

  -- the value of an item once x is entered
  pub lookup-entered : (a x : T) (es : List (T × T)) → lookup (eq a) (entered eq es x) ≡ after_entry eq (λ b. lookup (eq b) es) x a
  lookup-entered a x es = lookup_cond a x es (is_some (lookup (eq x) es))

  entered_at : (x : T) (es : List (T × T)) → AreRoots eq es → (a r : T) (b : Bool) → cond b (Some x) (lookup (eq a) es) ≡ Some r
      → Contains ((x, x) ∷ es) (r, r)
  entered_at x es i a r true h = let e : x ≡ r = Some_same h in (0, (omega arith), ap (λ (k : T). (k, k)) e)
  entered_at x es i a r false h = let c = i a r h in (suc c.0, (omega arith), c.2)

  entered_cond : (x : T) (es : List (T × T)) → AreRoots eq es → (b : Bool) → AreRoots eq (cond b es ((x, x) ∷ es))
  entered_cond x es i true a r h = i a r h
  entered_cond x es i false a r h = entered_at x es i a r (eq a x) h

  entered_roots : (x : T) (es : List (T × T)) → AreRoots eq es → AreRoots eq (entered eq es x)
  entered_roots x es i = entered_cond x es i (is_some (lookup (eq x) es))

  pub reordered_roots : (es ns : List (T × T)) → IsReorderedTable eq es ns → AreRoots eq es → AreRoots eq ns
  reordered_roots es ns m i a r h = Contains-permutation es ns (r, r) m.moved (i a r (sym (m.same a) ∙ h))

  another_step : (q v : T) (e : T × T) (es : List (T × T)) → lookup (eq q) (e ∷ es) ≡ Some v → eq q v ≡ false
      → (lookup (eq q) es ≡ Some v → eq q v ≡ false → list_any (λ e. eq e.1 v && not (eq e.0 v)) es ≡ true) → (b : Bool) → eq q e.0 ≡ b
      → list_any (λ e. eq e.1 v && not (eq e.0 v)) (e ∷ es) ≡ true
  another_step q v e es h apart ih true p =
      let same : e.1 ≡ v = Some_same (rw p at h) in
      let there : eq e.1 v ≡ true = ap (λ (w : T). eq w v) same ∙ laws.refl v in
      let other : eq e.0 v ≡ false = sym (laws.congr q e.0 v p) ∙ apart in
      rw (there, other)
  another_step q v e es h apart ih false p = or_right _ _ (ih (rw p at h) apart)

  -- an entry whose key is not its value
  another_at : (q v : T) (es : List (T × T)) → lookup (eq q) es ≡ Some v → eq q v ≡ false → list_any (λ e. eq e.1 v && not (eq e.0 v)) es ≡ true
  another_at q v [] h apart = absurd (Some≢None (sym h))
  another_at q v (e ∷ es) h apart = another_step q v e es h apart (another_at q v es) (eq q e.0) refl

  any_cond : (p : T × T → Bool) (x : T) (es : List (T × T)) → list_any p es ≡ true → (b : Bool) → list_any p (cond b es ((x, x) ∷ es)) ≡ true
  any_cond p x es h true = h
  any_cond p x es h false = or_right (p (x, x)) _ h

  any_entered : (p : T × T → Bool) (x : T) (es : List (T × T)) → list_any p es ≡ true → list_any p (entered eq es x) ≡ true
  any_entered p x es h = any_cond p x es h (is_some (lookup (eq x) es))

  keys_cond : (x : T) (es : List (T × T)) (b : Bool) → keys_of (cond b es ((x, x) ∷ es)) ≡ cond b (keys_of es) (x ∷ keys_of es)
  keys_cond x es true = refl
  keys_cond x es false = refl

  -- the keys once x is entered
  keys_entered : (x : T) (es : List (T × T)) → keys_of (entered eq es x) ≡ with_member eq (keys_of es) x
  keys_entered x es = keys_cond x es (is_some (lookup (eq x) es)) ∙ ap (λ b. cond b (keys_of es) (x ∷ keys_of es)) (is_some-lookup (eq x) es)

  with_cond : (x : T) (xs ys : List T) → IsPermutation xs ys → (b : Bool) → IsPermutation (cond b xs (x ∷ xs)) (cond b ys (x ∷ ys))
  with_cond x xs ys m true = m
  with_cond x xs ys m false = IsPermutation-cons x xs ys m

  with_moved : (x : T) (xs ys : List T) → IsPermutation xs ys → IsPermutation (with_member eq xs x) (with_member eq ys x)
  with_moved x xs ys m = rw (list_any-IsPermutation (eq x) xs ys m) (with_cond x xs ys m (list_any (eq x) ys))

  -- one more member, where a table has x entered
  gained : (x : T) (xs : List T) (es ns : List (T × T)) → IsPermutation xs (keys_of es) → IsPermutation (entered eq es x) ns
      → IsPermutation (with_member eq xs x) (keys_of ns)
  gained x xs es ns m n =
      let keys = IsPermutation-map (λ (e : T × T). e.0) (entered eq es x) ns n in
      IsPermutation-trans _ _ _ (with_moved x xs (keys_of es) m) (rw (keys_entered x es) at keys)

  -- es is the table before, fs and hs have it in another order, once x and y are entered, and ns is the table after
  module _ (es fs gs hs ns : List (T × T)) (x y : T) (j : IsJoinedTable eq es) (apart : eq x y ≡ false) (to_fs : IsReorderedTable eq es fs)
      (to_gs : IsReorderedTable eq (entered eq fs x) gs) (to_hs : IsReorderedTable eq (entered eq gs y) hs) (into from : T)
      (into_is : into ≡ unwrap_or (lookup (eq x) fs) x) (from_is : from ≡ unwrap_or (lookup (eq y) gs) y)
      (ns_is : ns ≡ relabeled eq hs from into) (distinct : IsDistinct eq (keys_of ns)) where
    alike : (a b : T) → eq a b ≡ true → lookup (eq a) es ≡ lookup (eq b) es
    alike a b h = lookup_alike laws a b es h

    rooted : (a v : T) → lookup (eq a) es ≡ Some v → lookup (eq v) es ≡ Some v
    rooted = root_found laws es j.is_rooted

    into_root : into ≡ entered_root (λ a. lookup (eq a) es) x
    into_root = into_is ∙ ap (λ o. unwrap_or o x) (to_fs.same x)

    root_fs : (a : T) → after_entry eq (λ b. lookup (eq b) fs) x a ≡ after_entry eq (λ b. lookup (eq b) es) x a
    root_fs a = rw (to_fs.same x, to_fs.same a)

    root_gs : (a : T) → lookup (eq a) gs ≡ option_or (lookup (eq a) es) (cond (eq a x) (Some x) None)
    root_gs a = to_gs.same a ∙ lookup-entered a x fs ∙ root_fs a ∙ after_entry_is laws (λ b. lookup (eq b) es) alike x a

    gs_alike : (a b : T) → eq a b ≡ true → lookup (eq a) gs ≡ lookup (eq b) gs
    gs_alike a b h = lookup_alike laws a b gs h

    root_hs : (a : T) → lookup (eq a) hs ≡ option_or (option_or (lookup (eq a) es) (cond (eq a x) (Some x) None)) (cond (eq a y) (Some y) None)
    root_hs a = to_hs.same a ∙ lookup-entered a y gs ∙ after_entry_is laws (λ b. lookup (eq b) gs) gs_alike y a
        ∙ ap (λ o. option_or o (cond (eq a y) (Some y) None)) (root_gs a)

    from_root : from ≡ entered_root (λ a. lookup (eq a) es) y
    from_root = from_is ∙ rw (root_gs y, laws.symm y x ∙ apart, option_or_none (lookup (eq y) es))

    -- the values after the merge
    pub root_ns : (a : T) → lookup (eq a) ns ≡ after_merge eq (λ b. lookup (eq b) es) x y a
    root_ns a =
        let moved : lookup (eq a) ns ≡ option_map (λ v. cond (eq v from) into v) (lookup (eq a) hs) = rw ns_is
        (lookup-map_values (λ v. cond (eq v from) into v) (eq a) hs) in
        moved ∙ rw (root_hs a, from_root, into_root) (merged_root laws (λ b. lookup (eq b) es) alike rooted x y a)

    roots_gs : AreRoots eq gs
    roots_gs = reordered_roots (entered eq fs x) gs to_gs (entered_roots x fs (reordered_roots es fs to_fs j.is_rooted.rooted))

    roots_hs : AreRoots eq hs
    roots_hs = reordered_roots (entered eq gs y) hs to_hs (entered_roots y gs roots_gs)

    root_x : lookup (eq x) hs ≡ Some into
    root_x = root_hs x ∙ rw (laws.refl x, into_root) (option_or_some (lookup (eq x) es) x _)

    moved_root : (w : T) (b : Bool) → eq w from ≡ b → Contains hs (w, w) → Contains hs (into, into)
        → Contains (relabeled eq hs from into) (cond b into w, cond b into w)
    moved_root w true p c d =
        subst (Contains (relabeled eq hs from into)) (ap (λ (k : T). (into, k)) (cond_alike (eq into from) into))
        (Contains-map (λ (e : T × T). (e.0, cond (eq e.1 from) into e.1)) hs (into, into) d)
    moved_root w false p c d =
        subst (Contains (relabeled eq hs from into)) (ap (λ (b : Bool). (w, cond b into w)) p)
        (Contains-map (λ (e : T × T). (e.0, cond (eq e.1 from) into e.1)) hs (w, w) c)

    rooted_step : (a v : T) (o : Option T) → lookup (eq a) hs ≡ o → option_map (λ v. cond (eq v from) into v) o ≡ Some v → Contains ns (v, v)
    rooted_step a v None p h = absurd (Some≢None (sym h))
    rooted_step a v (Some w) p h =
        let is : cond (eq w from) into w ≡ v = Some_same h in
        rw ns_is (subst (λ (k : T). Contains (relabeled eq hs from into) (k, k)) is
        (moved_root w (eq w from) refl (roots_hs a w p) (roots_hs x into root_x)))

    rooted_ns : IsRooted eq ns
    rooted_ns = record {
      distinct = distinct;
      rooted = λ a v h. rooted_step a v (lookup (eq a) hs) refl
          (sym (lookup-map_values (λ v. cond (eq v from) into v) (eq a) hs) ∙ ap (lookup (eq a)) (sym ns_is) ∙ h);
    }

    -- x and y have different keys and one value, so one of them is another member
    joined_paired : (m : T) → lookup (eq x) ns ≡ Some m → lookup (eq y) ns ≡ Some m → (b : Bool) → eq x m ≡ b
        → list_any (λ e. eq e.1 m && not (eq e.0 m)) ns ≡ true
    joined_paired m p q false h = another_at x m ns p h
    joined_paired m p q true h = another_at y m ns q (sym (eq_right laws x m y h) ∙ laws.symm y x ∙ apart)

    other_test : (v : T) → (eq v from ≡ true → ⊥) → (e : T × T) → (eq e.1 v && not (eq e.0 v)) ≡ true
        → (eq (cond (eq e.1 from) into e.1) v && not (eq e.0 v)) ≡ true
    other_test v far e h =
        let near = and_parts (eq e.1 v) _ h in
        let stays : eq e.1 from ≡ false = false_from_ne_true _ (λ k. far (sym (laws.congr e.1 v from near.0) ∙ k)) in
        rw stays h

    other_paired : (v : T) → (eq v from ≡ true → ⊥) → list_any (λ e. eq e.1 v && not (eq e.0 v)) es ≡ true
        → list_any (λ e. eq e.1 v && not (eq e.0 v)) ns ≡ true
    other_paired v far h =
        let p : T × T → Bool = λ e. eq e.1 v && not (eq e.0 v) in
        let in_fs : list_any p fs ≡ true = sym (list_any-IsPermutation p es fs to_fs.moved) ∙ h in
        let in_gs : list_any p gs ≡ true = sym (list_any-IsPermutation p (entered eq fs x) gs to_gs.moved) ∙ any_entered p x fs in_fs in
        let in_hs : list_any p hs ≡ true = sym (list_any-IsPermutation p (entered eq gs y) hs to_hs.moved) ∙ any_entered p y gs in_gs in
        rw ns_is (any-map p (λ (e : T × T). (e.0, cond (eq e.1 from) into e.1)) hs
        ∙ any_weaker p (λ (e : T × T). p (e.0, cond (eq e.1 from) into e.1)) (other_test v far) hs in_hs)

    comes_x : comes eq (λ b. lookup (eq b) es) x y x ≡ true
    comes_x = or_left _ _ (or_left _ _ (laws.refl x))

    comes_y : comes eq (λ b. lookup (eq b) es) x y y ≡ true
    comes_y = or_left _ _ (or_right (eq y x) _ (laws.refl y))

    paired_step : (a v : T) (c : Bool) → comes eq (λ b. lookup (eq b) es) x y a ≡ c
        → cond c (Some (entered_root (λ b. lookup (eq b) es) x)) (lookup (eq a) es) ≡ Some v → list_any (λ e. eq e.1 v && not (eq e.0 v)) ns ≡ true
    paired_step a v true p h =
        let is : entered_root (λ b. lookup (eq b) es) x ≡ v = Some_same h in
        joined_paired v (root_ns x ∙ rw comes_x h) (root_ns y ∙ rw comes_y h) (eq x v) refl
    paired_step a v false p h =
        other_paired v (λ k. false≢true (sym p ∙ comes_by_y laws (λ b. lookup (eq b) es) alike rooted x y a v h (rw from_root at k))) (j.paired a v h)

    -- the table after the merge
    pub merged_table : IsJoinedTable eq ns
    merged_table = record {
      is_rooted = rooted_ns;
      paired = λ a v h. paired_step a v (comes eq (λ b. lookup (eq b) es) x y a) refl (sym (root_ns a) ∙ h);
    }

    comes_is : (a : T) → comes_together eq (sets_of eq es) x y a ≡ comes eq (λ b. lookup (eq b) es) x y a
    comes_is a = rw (are_joined_is laws es j.is_rooted x a, are_joined_is laws es j.is_rooted y a)

    pub merged_represented : (a : T)
        → representative eq (sets_of eq ns) a ≡ cond (comes_together eq (sets_of eq es) x y a)
        (Some (unwrap_or (representative eq (sets_of eq es) x) x)) (representative eq (sets_of eq es) a)
    merged_represented a =
        rw (representative_is laws ns rooted_ns a, comes_is a, representative_is laws es j.is_rooted a, representative_is laws es j.is_rooted x)
        (root_ns a)

    pub merged_are_joined : (a b : T)
        → are_joined eq (sets_of eq ns) a b ≡
        (are_joined eq (sets_of eq es) a b || (comes_together eq (sets_of eq es) x y a && comes_together eq (sets_of eq es) x y b))
    merged_are_joined a b =
        rw (are_joined_is laws ns rooted_ns a b, are_joined_is laws es j.is_rooted a b, comes_is a, comes_is b, root_ns a, root_ns b)
        (merged_joined laws (λ b. lookup (eq b) es) alike rooted x y a b)

    keys_hs : IsPermutation (with_member eq (with_member eq (members (sets_of eq es)) x) y) (keys_of hs)
    keys_hs =
        let first = IsPermutation-trans _ _ _ (IsPermutation-sym _ _ (keys_are_members laws es j.is_rooted))
        (IsPermutation-map (λ (e : T × T). e.0) es fs to_fs.moved) in
        gained y _ gs hs (gained x _ fs gs first to_gs.moved) to_hs.moved

    -- the members after the merge
    pub merged_members : IsPermutation (with_member eq (with_member eq (members (sets_of eq es)) x) y) (members (sets_of eq ns))
    merged_members =
        let same : keys_of hs ≡ keys_of ns = sym (keys_of-map_values (λ v. cond (eq v from) into v) hs) ∙ ap keys_of (sym ns_is) in
        IsPermutation-trans _ _ _ (subst (IsPermutation _) same keys_hs) (keys_are_members laws ns rooted_ns)
