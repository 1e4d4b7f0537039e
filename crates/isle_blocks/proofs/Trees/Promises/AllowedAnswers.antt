-- Sites of whose impure calls those that were answered none may fail.
use Rattle.std.proofs.Common.{◌≡◌, inl, inr, ℕ, zero, suc, ◌&&◌, List, Bool, true, Option, Some, None, slice_get, refl, sym, ap, ◌∙◌}
use Rattle.isle_trees.proofs.Basics.{and_both, both_and}
use Rattle.isle_meaning.specs.Facts.{TermFacts}
use Rattle.isle_meaning.specs.Values.{Value}
use Rattle.isle_meaning.specs.Subtrees.{IsSubtree, IsSubtreeOfOne}
use Rattle.isle_meaning.specs.Sites.{Site, bool_site, int_site, prim_site, argument, extractor_call, constructor_call, iterator}
use Rattle.isle_meaning.specs.Sites.{make_variant, match_variant, make_struct, extract_struct, make_some, match_some, match_tuple}
use Rattle.isle_meaning.specs.Sites.{Sites, no_sites, more_sites}
use Rattle.isle_meaning.specs.AboutSites.Parts.{parts_of, IsOneOf}

-- an answer is allowed: none only where it may be
abbrev pub allows : Bool → Option (Option Value) → Bool
allows partial None = true
allows partial (Some None) = partial
allows partial (Some (Some v)) = true

module _ (facts : TermFacts) (answers : List (Option Value)) where
  -- the call of a term may have its answer; a pure one has none of these
  abbrev pub may_be : ℕ → ℕ → Bool
  may_be t zero = true
  may_be t (suc n) = allows (facts.partial t) (slice_get answers n)

  -- so may each call that the site is made of, at any depth
  abbrev mutual
    pub fine : Site → Bool
    fine (bool_site b ty) = true
    fine (int_site n ty) = true
    fine (prim_site n) = true
    fine (argument i) = true
    fine (extractor_call t s) = fine s
    fine (constructor_call t ss i) = may_be t i && all_fine ss
    fine (iterator s) = fine s
    fine (make_variant ty k ss) = all_fine ss
    fine (match_variant s k i) = fine s
    fine (make_struct ty ss) = all_fine ss
    fine (extract_struct s i) = fine s
    fine (make_some s) = fine s
    fine (match_some s) = fine s
    fine (match_tuple s i) = fine s

    pub all_fine : Sites → Bool
    all_fine no_sites = true
    all_fine (more_sites s ss) = fine s && all_fine ss

  one_fine : (ss : Sites) (u : Site) → all_fine ss ≡ true → IsOneOf ss u → fine u ≡ true
  one_fine no_sites u h m = absurd m
  one_fine (more_sites s ss) u h (inl e) = ap fine e ∙ (and_both (fine s) (all_fine ss) h).0
  one_fine (more_sites s ss) u h (inr m) = one_fine ss u ((and_both (fine s) (all_fine ss) h).1) m

  only_fine : (s u : Site) → fine s ≡ true → IsOneOf (more_sites s no_sites) u → fine u ≡ true
  only_fine s u h (inl e) = ap fine e ∙ h
  only_fine s u h (inr m) = absurd m

  -- So is each part of one.
  pub part_fine : (s u : Site) → fine s ≡ true → IsOneOf (parts_of s) u → fine u ≡ true
  part_fine (bool_site b ty) u h m = absurd m
  part_fine (int_site n ty) u h m = absurd m
  part_fine (prim_site n) u h m = absurd m
  part_fine (argument i) u h m = absurd m
  part_fine (extractor_call t s) u h m = only_fine s u h m
  part_fine (constructor_call t ss i) u h m = one_fine ss u ((and_both (may_be t i) (all_fine ss) h).1) m
  part_fine (iterator s) u h m = only_fine s u h m
  part_fine (make_variant ty k ss) u h m = one_fine ss u h m
  part_fine (match_variant s k i) u h m = only_fine s u h m
  part_fine (make_struct ty ss) u h m = one_fine ss u h m
  part_fine (extract_struct s i) u h m = only_fine s u h m
  part_fine (make_some s) u h m = only_fine s u h m
  part_fine (match_some s) u h m = only_fine s u h m
  part_fine (match_tuple s i) u h m = only_fine s u h m

  -- A call that was answered none may fail.
  pub may_fail : (t n : ℕ) (ss : Sites) → fine (constructor_call t ss (suc n)) ≡ true → slice_get answers n ≡ Some None → facts.partial t ≡ true
  may_fail t n ss h e = sym (ap (allows (facts.partial t)) e) ∙ (and_both (may_be t (suc n)) (all_fine ss) h).0

  -- the answers to the impure calls of a site are allowed
  abbrev pub HasAllowed : Site → Type 0
  HasAllowed s = (t n : ℕ) (us : Sites) → IsSubtree (constructor_call t us (suc n)) s → slice_get answers n ≡ Some None → facts.partial t ≡ true

  abbrev HaveAllowed : Sites → Type 0
  HaveAllowed ss = (t n : ℕ) (us : Sites) → IsSubtreeOfOne (constructor_call t us (suc n)) ss → slice_get answers n ≡ Some None
      → facts.partial t ≡ true

  allowed : (o : Option (Option Value)) (b : Bool) → (o ≡ Some None → b ≡ true) → allows b o ≡ true
  allowed None b f = refl
  allowed (Some None) b f = f refl
  allowed (Some (Some v)) b f = refl

  call_allowed : (t i : ℕ) (ss : Sites) → HasAllowed (constructor_call t ss i) → may_be t i ≡ true
  call_allowed t zero ss h = refl
  call_allowed t (suc n) ss h = allowed (slice_get answers n) (facts.partial t) (h t n ss (inl refl))

  mutual
    -- A site whose calls have allowed answers is fine.
    pub is_fine : (s : Site) → HasAllowed s → fine s ≡ true
    is_fine (bool_site b ty) h = refl
    is_fine (int_site n ty) h = refl
    is_fine (prim_site n) h = refl
    is_fine (argument i) h = refl
    is_fine (extractor_call t s) h = is_fine s (λ u n us m. h u n us (inr m))
    is_fine (constructor_call t ss i) h =
        both_and (may_be t i) (all_fine ss) (call_allowed t i ss h) (are_fine ss (λ u n us m. h u n us (inr m)))
    is_fine (iterator s) h = is_fine s (λ u n us m. h u n us (inr m))
    is_fine (make_variant ty k ss) h = are_fine ss (λ u n us m. h u n us (inr m))
    is_fine (match_variant s k i) h = is_fine s (λ u n us m. h u n us (inr m))
    is_fine (make_struct ty ss) h = are_fine ss (λ u n us m. h u n us (inr m))
    is_fine (extract_struct s i) h = is_fine s (λ u n us m. h u n us (inr m))
    is_fine (make_some s) h = is_fine s (λ u n us m. h u n us (inr m))
    is_fine (match_some s) h = is_fine s (λ u n us m. h u n us (inr m))
    is_fine (match_tuple s i) h = is_fine s (λ u n us m. h u n us (inr m))

    are_fine : (ss : Sites) → HaveAllowed ss → all_fine ss ≡ true
    are_fine no_sites h = refl
    are_fine (more_sites s ss) h =
        both_and (fine s) (all_fine ss) (is_fine s (λ u n us m. h u n us (inl m))) (are_fine ss (λ u n us m. h u n us (inr m)))
