-- The groups of pairs share the pairs out.
use Rattle.std.proofs.Common.{◌≡◌, ℕ, ◌<◌, Bool, true, false, List, [], ◌∷◌, ◌++◌, map, refl, sym, subst, arith, not, is_some, Option, Some, None}
use Rattle.std.specs.List.{All, filter, filter_map, flat_map}
use Rattle.std.specs.List.Sorted.{IsPermutation}
use Rattle.std.proofs.lemmas.List.{map-append}
use Rattle.std.proofs.lemmas.List.Elements.{All-cons}
use Rattle.std.proofs.lemmas.List.Sorted.{IsPermutation-filter_both, IsPermutation-append_right, IsPermutation-map, IsPermutation-refl, IsPermutation-trans}
use Rattle.std.proofs.lemmas.List.Sums.{length-filter}
use Rattle.isle_blocks.specs.declared.faults.Fault.{Fault}
use Rattle.isle_blocks.specs.declared.faults.Fault.TheVariants.{Overlap, Shadow}
use Rattle.isle_blocks.specs.declared.report.RulePlace.{RulePlace}
use Rattle.isle_blocks.specs.declared.report.Group.{Group}
use Rattle.isle_blocks.specs.Reports.{AreGroups, no_pairs, headed, IsGroup, ListsPairsOf, AreSharedOut, ReportsListEachOnce}
use Rattle.isle_blocks.specs.Reports.{error_of, pairs_without, partner, partner_count, positions}

-- what has a value, and the values
module _ {X Y : Type 0} (f : X → Option Y) where
  value_kept : (x : X) (xs : List X) (o : Option Y) → f x ≡ o → filter_map f (filter (λ y. is_some (f y)) xs) ≡ filter_map f xs
      → filter_map f (filter (λ y. is_some (f y)) (x ∷ xs)) ≡ filter_map f (x ∷ xs)
  value_kept x xs (Some y) e rest = rw (e, e) (rw rest refl)
  value_kept x xs None e rest = rw (e, rest) refl

  values_kept : (xs : List X) → filter_map f (filter (λ x. is_some (f x)) xs) ≡ filter_map f xs
  values_kept [] = refl
  values_kept (x ∷ xs) = value_kept x xs (f x) refl (values_kept xs)

module _ {X : Type 0} (p : X → Bool) where
  passing_more : (x : X) (xs : List X) (b : Bool) → p x ≡ b → All (λ y. p y ≡ true) (filter p xs) → All (λ y. p y ≡ true) (filter p (x ∷ xs))
  passing_more x xs true e rest = rw e (All-cons (λ y. p y ≡ true) x (filter p xs) e rest)
  passing_more x xs false e rest = rw e rest

  passing : (xs : List X) → All (λ y. p y ≡ true) (filter p xs)
  passing [] = λ k d lt. absurd (omega arith)
  passing (x ∷ xs) = passing_more x xs (p x) refl (passing xs)

module _ (fault : Fault) (rules : List RulePlace) where
  -- the group lists the pairs that its rule heads
  lists_share : (pairs : List (ℕ × ℕ)) (i : ℕ) (group : Group) → 0 < partner_count fault i pairs → IsGroup fault rules i pairs group
      → ListsPairsOf fault rules (filter (λ pair. is_some (partner fault i pair)) pairs) (error_of group)
  lists_share pairs i group some is = record {
    head = i;
    group = group;
    some = let e = length-filter (λ (pair : ℕ × ℕ). is_some (partner fault i pair)) pairs in omega arith;
    heads = passing (λ pair. is_some (partner fault i pair)) pairs;
    is_group = record {
      fault_is = is.fault_is;
      head_is = is.head_is;
      moved = subst (λ ps. IsPermutation (positions rules ps) group.others) (sym (values_kept (partner fault i) pairs)) is.moved;
      ascending = is.ascending;
    };
    error_is = refl;
  }

  shared_out : (pairs : List (ℕ × ℕ)) (groups : List Group) → AreGroups fault rules pairs groups
      → AreSharedOut fault rules pairs (map error_of groups)
  shared_out pairs groups no_pairs = record { shares = []; once = IsPermutation-refl []; listed = tt }
  shared_out pairs groups (headed {pairs = ps} {i} {group} {groups = gs} some greatest is rest) =
      let r = shared_out (pairs_without fault i ps) gs rest in
      let share : List (ℕ × ℕ) = filter (λ pair. is_some (partner fault i pair)) ps in
      record {
        shares = share ∷ r.shares;
        once = IsPermutation-trans ps (share ++ pairs_without fault i ps) (share ++ flat_map (λ l. l) r.shares)
            (IsPermutation-filter_both (λ pair. is_some (partner fault i pair)) (λ pair. not (is_some (partner fault i pair))) (λ pair. refl) ps)
            (IsPermutation-append_right share (pairs_without fault i ps) (flat_map (λ l. l) r.shares) r.once);
        listed = (lists_share ps i group some is, r.listed);
      }

pub reports_list_each_once : ReportsListEachOnce
reports_list_each_once rules overlaps shadows errors report = record {
  of_overlaps = map error_of report.overlapping;
  of_shadows = map error_of report.shadowing;
  overlaps_shared = shared_out Overlap rules overlaps report.overlapping report.overlapping_are;
  shadows_shared = shared_out Shadow rules shadows report.shadowing report.shadowing_are;
  moved =
      subst (λ es. IsPermutation es errors) (map-append error_of report.overlapping report.shadowing)
      (subst (IsPermutation (map error_of (report.overlapping ++ report.shadowing))) (sym report.errors_are)
      (IsPermutation-map error_of (report.overlapping ++ report.shadowing) report.sorted report.moved));
}
