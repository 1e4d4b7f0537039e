-- The table after the set of x is removed.
use Rattle.std.proofs.Common.{◌≡◌, zero, suc, Bool, true, false, not, cond, ◌&&◌, List, [], ◌∷◌, ◌++◌, refl, sym, ap, ◌∙◌, subst, arith}
use Rattle.std.specs.Prelude.{Option, Some, None, filter, Contains, IsPermutation}
use Rattle.std.specs.List.{list_any}
use Rattle.std.specs.Cmp.{IsEquivalence}
use Rattle.std.specs.Map.{keys_of, lookup}
use Rattle.std.proofs.lemmas.Map.Entries.{option_filter, lookup-filter-values}
use Rattle.std.proofs.lemmas.Map.Made.{IsDistinct-keys_filter}
use Rattle.std.proofs.lemmas.List.Sorted.{IsPermutation-refl, IsPermutation-sym, IsPermutation-map, IsPermutation-trans}
use Rattle.std.proofs.lemmas.List.Sorted.{IsPermutation-append_right, IsPermutation-filter_both}
use Rattle.std.proofs.lemmas.List.{map-append}
use Rattle.std.proofs.lemmas.Bool.{or_left, or_right, and_parts, false≢true}
use Rattle.isle_containers.specs.JoinedSets.{set_of, representative, are_joined, members}
use Rattle.isle_containers.specs.JoinedTables.{sets_of, without, members_at, IsRooted, IsJoinedTable}
use Rattle.isle_containers.proofs.RootedTables.{same_root, lookup_alike, root_found, set_of_is, representative_is, are_joined_is, joined_left}
use Rattle.isle_containers.proofs.TableMembers.{members_at_is, keys_are_members}
use Rattle.isle_containers.proofs.JoinedRoots.{and_true, Some≢None, Some_same, removed_root, removed_joined}

Contains-filter-step : {X : Type 0} (p : X → Bool) (y : X) (xs : List X) (x : X) → Contains (filter p xs) x → (b : Bool) → p y ≡ b
    → Contains (filter p (y ∷ xs)) x
Contains-filter-step p y xs x c true e = rw e (suc c.0, (omega arith), c.2)
Contains-filter-step p y xs x c false e = rw e c

Contains-filter : {X : Type 0} (p : X → Bool) (xs : List X) (x : X) → Contains xs x → p x ≡ true → Contains (filter p xs) x
Contains-filter p [] x (k, l, at) h = absurd (omega arith)
Contains-filter p (y ∷ xs) x (zero, l, at) h = let e : p y ≡ true = ap p at ∙ h in rw e (0, (omega arith), at)
Contains-filter p (y ∷ xs) x (suc k, l, at) h = Contains-filter-step p y xs x (Contains-filter p xs x (k, (omega arith), at) h) (p y) refl

any-filter-step : {X : Type 0} (p q : X → Bool) → ((x : X) → p x ≡ true → q x ≡ true) → (x : X) (xs : List X) → list_any p (x ∷ xs) ≡ true
    → (list_any p xs ≡ true → list_any p (filter q xs) ≡ true) → (b c : Bool) → p x ≡ b → q x ≡ c → list_any p (filter q (x ∷ xs)) ≡ true
any-filter-step p q f x xs h ih true true d e = rw e (or_left (p x) _ d)
any-filter-step p q f x xs h ih true false d e = absurd (false≢true (sym e ∙ f x d))
any-filter-step p q f x xs h ih false true d e = rw e (or_right (p x) _ (ih (rw d at h)))
any-filter-step p q f x xs h ih false false d e = rw e (ih (rw d at h))

any-filter : {X : Type 0} (p q : X → Bool) → ((x : X) → p x ≡ true → q x ≡ true) → (xs : List X) → list_any p xs ≡ true
    → list_any p (filter q xs) ≡ true
any-filter p q f [] h = absurd (false≢true h)
any-filter p q f (x ∷ xs) h = any-filter-step p q f x xs h (any-filter p q f xs) (p x) (q x) refl refl

filter_kept_step : {T : Type 0} (p : T → Bool) (v w : T) (b : Bool) → p v ≡ b → cond b (Some v) None ≡ Some w → (Some v ≡ Some w) × (p w ≡ true)
filter_kept_step {T} p v w true e h = (h, subst (λ (u : T). p u ≡ true) (Some_same h) e)
filter_kept_step p v w false e h = absurd (Some≢None (sym h))

filter_kept : {T : Type 0} (p : T → Bool) (o : Option T) (w : T) → option_filter p o ≡ Some w → (o ≡ Some w) × (p w ≡ true)
filter_kept p None w h = absurd (Some≢None (sym h))
filter_kept p (Some v) w h = filter_kept_step p v w (p v) refl h

module _ {T : Type 0} {eq : T → T → Bool} (laws : IsEquivalence eq) where
  -- v represents x in the table es
  module _ (es : List (T × T)) (j : IsJoinedTable eq es) (x v : T) (found : lookup (eq x) es ≡ Some v) where
    alike : (a b : T) → eq a b ≡ true → lookup (eq a) es ≡ lookup (eq b) es
    alike a b h = lookup_alike laws a b es h

    rooted : (a v : T) → lookup (eq a) es ≡ Some v → lookup (eq v) es ≡ Some v
    rooted = root_found laws es j.is_rooted

    filtered : (a : T) → lookup (eq a) (without eq es v) ≡ option_filter (λ u. not (eq u v)) (lookup (eq a) es)
    filtered a = lookup-filter-values laws (λ u. not (eq u v)) a es j.is_rooted.distinct

    root_after : (a : T) → lookup (eq a) (without eq es v) ≡ cond (same_root eq (lookup (eq x) es) (lookup (eq a) es)) None (lookup (eq a) es)
    root_after a = filtered a ∙ removed_root laws (λ b. lookup (eq b) es) alike rooted x v a found

    kept : (a w : T) → lookup (eq a) (without eq es v) ≡ Some w → (lookup (eq a) es ≡ Some w) × (not (eq w v) ≡ true)
    kept a w h = filter_kept (λ u. not (eq u v)) (lookup (eq a) es) w (sym (filtered a) ∙ h)

    rooted_after : IsRooted eq (without eq es v)
    rooted_after = record {
      distinct = IsDistinct-keys_filter eq (λ e. not (eq e.1 v)) es j.is_rooted.distinct;
      rooted = λ a w h. let k = kept a w h in Contains-filter (λ e. not (eq e.1 v)) es (w, w) (j.is_rooted.rooted a w k.0) k.1;
    }

    stays : (w : T) → not (eq w v) ≡ true → (e : T × T) → (eq e.1 w && not (eq e.0 w)) ≡ true → not (eq e.1 v) ≡ true
    stays w apart e h = let near = and_parts (eq e.1 w) _ h in rw (laws.congr e.1 w v near.0) apart

    -- the table after the removal
    pub removed_table : IsJoinedTable eq (without eq es v)
    removed_table = record {
      is_rooted = rooted_after;
      paired = λ a w h. let k = kept a w h in any-filter (λ e. eq e.1 w && not (eq e.0 w)) (λ e. not (eq e.1 v)) (stays w k.1) es (j.paired a w k.0);
    }

    pub removed_represented : (a : T)
        → representative eq (sets_of eq (without eq es v)) a ≡ cond (are_joined eq (sets_of eq es) x a) None (representative eq (sets_of eq es) a)
    removed_represented a =
        rw (
          representative_is laws (without eq es v) rooted_after a,
          are_joined_is laws es j.is_rooted x a,
          representative_is laws es j.is_rooted
              a,
        ) (root_after a)

    pub removed_are_joined : (a b : T)
        → are_joined eq (sets_of eq (without eq es v)) a b ≡ (are_joined eq (sets_of eq es) a b && not (are_joined eq (sets_of eq es) x a))
    removed_are_joined a b =
        rw (
          are_joined_is laws (without eq es v) rooted_after a b,
          are_joined_is laws es j.is_rooted a b,
          are_joined_is laws es j.is_rooted x a,
          root_after a,
          root_after b,
        ) (removed_joined laws (λ b. lookup (eq b) es) alike rooted x a b)

    -- the members that were found are the set of x
    pub found_members : IsPermutation (set_of eq (sets_of eq es) x) (members_at eq es v)
    found_members =
        rw (set_of_is laws es j.is_rooted x, found)
        (IsPermutation-sym _ _ (members_at_is laws v es j.is_rooted.distinct (j.is_rooted.rooted x v found)))

    -- each member was found or stays
    pub parted_members : IsPermutation (members (sets_of eq es)) (members_at eq es v ++ members (sets_of eq (without eq es v)))
    parted_members =
        let both = IsPermutation-filter_both (λ (e : T × T). eq e.1 v) (λ (e : T × T). not (eq e.1 v)) (λ e. refl) es in
        let keys = IsPermutation-map (λ (e : T × T). e.0) es _ both in
        let apart : keys_of (filter (λ e. eq e.1 v) es ++ without eq es v) ≡ members_at eq es v ++ keys_of (without eq es v) = map-append _ _ _ in
        IsPermutation-trans _ _ _ (IsPermutation-sym _ _ (keys_are_members laws es j.is_rooted))
        (IsPermutation-trans _ _ _ (rw apart at keys)
        (IsPermutation-append_right (members_at eq es v) _ _ (keys_are_members laws (without eq es v) rooted_after)))

  -- no set has x
  module _ (es : List (T × T)) (i : IsRooted eq es) (x : T) (none : lookup (eq x) es ≡ None) where
    pub absent_members : IsPermutation (set_of eq (sets_of eq es) x) []
    absent_members = rw (set_of_is laws es i x, none) (IsPermutation-refl [])

    pub absent_joined : (a b : T) → are_joined eq (sets_of eq es) a b ≡ (are_joined eq (sets_of eq es) a b && not (are_joined eq (sets_of eq es) x a))
    absent_joined a b = rw (joined_left laws es i x a none) (sym (and_true (are_joined eq (sets_of eq es) a b)))

    pub absent_represented : (a : T)
        → representative eq (sets_of eq es) a ≡ cond (are_joined eq (sets_of eq es) x a) None (representative eq (sets_of eq es) a)
    absent_represented a = rw (joined_left laws es i x a none)
