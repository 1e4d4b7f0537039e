-- A table copied entry by entry, in any order.
use Rattle.std.proofs.Common.{◌≡◌, suc, Bool, true, false, not, ◌&&◌, List, [], ◌∷◌, ◌++◌, refl, sym, ap, ◌∙◌, arith}
use Rattle.std.specs.Prelude.{Option, Some, None, Contains, IsPermutation, MatchOption}
use Rattle.std.specs.List.{IsDistinct, AllByRecursion}
use Rattle.std.specs.Cmp.{IsEquivalence}
use Rattle.std.specs.Map.{keys_of, lookup, set_value}
use Rattle.std.proofs.lemmas.Map.Keys.{IsDistinct-head, IsDistinct-IsPermutation}
use Rattle.std.proofs.lemmas.Map.Views.{lookup-from_Contains}
use Rattle.std.proofs.lemmas.List.Sorted.{IsPermutation-sym, IsPermutation-trans, IsPermutation-map, IsPermutation-middle}
use Rattle.std.proofs.lemmas.List.Sorted.{IsPermutation-append_left, Contains-permutation, list_any-IsPermutation}
use Rattle.isle_containers.specs.JoinedSets.{AreSameSets}
use Rattle.isle_containers.specs.JoinedTables.{sets_of, IsRooted, IsJoinedTable, IsReorderedTable}
use Rattle.isle_containers.proofs.RootedTables.{lookup_alike, representative_is, are_joined_is}
use Rattle.isle_containers.proofs.TableMembers.{keys_are_members}
use Rattle.isle_containers.proofs.JoinedRoots.{Some≢None, Some_same}
use Rattle.isle_containers.proofs.MergedTables.{reordered_roots}

module _ {T : Type 0} {eq : T → T → Bool} (laws : IsEquivalence eq) where
  apart_front : (k : T) (done rest : List (T × T)) → AllByRecursion (λ y. eq k y ≡ false) (keys_of (done ++ rest)) → lookup (eq k) done ≡ None
  apart_front k [] rest a = refl
  apart_front k (e ∷ done) rest a = rw a.0 (apart_front k done rest a.1)

  keys_moved : (es ns : List (T × T)) → IsPermutation es ns → IsDistinct eq (keys_of es) → IsDistinct eq (keys_of ns)
  keys_moved es ns m d = IsDistinct-IsPermutation eq laws.symm (keys_of es) (keys_of ns) (IsPermutation-map (λ (e : T × T). e.0) es ns m) d

  -- one more entry is copied, whose key is new
  pub copied_more : (all done rest new : List (T × T)) (k v : T) (old : Option T) → IsDistinct eq (keys_of all)
      → IsPermutation (done ++ (k, v) ∷ rest) all → old ≡ lookup (eq k) done
      → MatchOption old (IsPermutation ((k, v) ∷ done) new) (λ _. new ≡ set_value (eq k) done v) → IsPermutation (new ++ rest) all
  copied_more all done rest new k v None d m found put =
      IsPermutation-trans _ _ _ (IsPermutation-append_left rest _ _ (IsPermutation-sym _ _ put))
      (IsPermutation-trans _ _ _ (IsPermutation-sym _ _ (IsPermutation-middle done (k, v) rest)) m)
  copied_more all done rest new k v (Some w) d m found put =
      let e : T × T = (k, v) in
      let first = keys_moved _ _ (IsPermutation-trans _ _ _ (IsPermutation-sym _ _ m) (IsPermutation-middle done e rest)) d in
      absurd (Some≢None (found ∙ apart_front k done rest (IsDistinct-head eq k _ first)))

  entry_step : (a v : T) (e : T × T) (es : List (T × T)) → lookup (eq a) (e ∷ es) ≡ Some v
      → (lookup (eq a) es ≡ Some v → (k : T) × (Contains es (k, v)) × (eq a k ≡ true)) → (b : Bool) → eq a e.0 ≡ b → (k : T)
      × (Contains (e ∷ es) (k, v)) × (eq a k ≡ true)
  entry_step a v e es h ih true p =
      let same : e.1 ≡ v = Some_same (rw p at h) in
      (e.0, (0, (omega arith), ap (λ (w : T). (e.0, w)) same), p)
  entry_step a v e es h ih false p =
      let c = ih (rw p at h) in
      (c.0, (suc c.1.0, (omega arith), c.1.2), c.2)

  entry_of : (a v : T) (es : List (T × T)) → lookup (eq a) es ≡ Some v → (k : T) × (Contains es (k, v)) × (eq a k ≡ true)
  entry_of a v [] h = absurd (Some≢None (sym h))
  entry_of a v (e ∷ es) h = entry_step a v e es h (entry_of a v es) (eq a e.0) refl

  lookup_kept : (es ns : List (T × T)) → IsPermutation es ns → IsDistinct eq (keys_of ns) → (a v : T) → lookup (eq a) es ≡ Some v
      → lookup (eq a) ns ≡ Some v
  lookup_kept es ns m d a v h =
      let c = entry_of a v es h in
      lookup_alike laws a c.0 ns c.2 ∙ lookup-from_Contains laws c.0 v ns d (Contains-permutation es ns (c.0, v) m c.1)

  lookup_moved : (es ns : List (T × T)) → IsPermutation es ns → IsDistinct eq (keys_of es) → (a : T) (o p : Option T) → lookup (eq a) es ≡ o
      → lookup (eq a) ns ≡ p → p ≡ o
  lookup_moved es ns m d a (Some v) p e f = sym f ∙ lookup_kept es ns m (keys_moved es ns m d) a v e
  lookup_moved es ns m d a None None e f = refl
  lookup_moved es ns m d a None (Some w) e f = absurd (Some≢None (sym (lookup_kept ns es (IsPermutation-sym es ns m) d a w f) ∙ e))

  module _ (es ns : List (T × T)) (j : IsJoinedTable eq es) (m : IsPermutation es ns) where
    reordered : IsReorderedTable eq es ns
    reordered = record {
      moved = m;
      same = λ a. lookup_moved es ns m j.is_rooted.distinct a (lookup (eq a) es) (lookup (eq a) ns) refl refl;
    }

    rooted_copy : IsRooted eq ns
    rooted_copy = record {
      distinct = keys_moved es ns m j.is_rooted.distinct;
      rooted = reordered_roots laws es ns reordered j.is_rooted.rooted;
    }

    -- the table in another order
    pub copied_table : IsJoinedTable eq ns
    copied_table = record {
      is_rooted = rooted_copy;
      paired = λ a v h. sym (list_any-IsPermutation (λ e. eq e.1 v && not (eq e.0 v)) es ns m) ∙ j.paired a v (sym (reordered.same a) ∙ h);
    }

    pub copied_sets : AreSameSets eq (sets_of eq es) (sets_of eq ns)
    copied_sets = record {
      moved = IsPermutation-trans _ _ _ (IsPermutation-sym _ _ (keys_are_members laws es j.is_rooted))
          (IsPermutation-trans _ _ _ (IsPermutation-map (λ (e : T × T). e.0) es ns m) (keys_are_members laws ns rooted_copy));
      represented = λ x. representative_is laws ns rooted_copy x ∙ reordered.same x ∙ sym (representative_is laws es j.is_rooted x);
      joined = λ x y. are_joined_is laws ns rooted_copy x y ∙ rw (reordered.same x, reordered.same y) (sym (are_joined_is laws es j.is_rooted x y));
    }
