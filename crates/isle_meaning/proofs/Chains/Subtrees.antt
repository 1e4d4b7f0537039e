-- Subtrees of sites.
use Rattle.std.proofs.Common.{inl, inr, Bool, true, false, refl, subst}
use Rattle.isle_meaning.specs.Sites.{Site, bool_site, int_site, prim_site, argument, extractor_call, constructor_call, iterator}
use Rattle.isle_meaning.specs.Sites.{make_variant, match_variant, make_struct, extract_struct, make_some, match_some, match_tuple}
use Rattle.isle_meaning.specs.Sites.{Sites, no_sites, more_sites, answer_site}
use Rattle.isle_meaning.specs.Subtrees.{IsSubtree, IsSubtreeOfOne}

-- A site is a subtree of itself.
pub whole : (s : Site) → IsSubtree s s
whole (bool_site b ty) = refl
whole (int_site n ty) = refl
whole (prim_site n) = refl
whole (argument i) = refl
whole (extractor_call t s) = inl refl
whole (constructor_call t ss i) = inl refl
whole (iterator s) = inl refl
whole (make_variant ty k ss) = inl refl
whole (match_variant s k i) = inl refl
whole (make_struct ty ss) = inl refl
whole (extract_struct s i) = inl refl
whole (make_some s) = inl refl
whole (match_some s) = inl refl
whole (match_tuple s i) = inl refl

-- What a call has, its answer has.
pub in_answer : (multi partial : Bool) (u s : Site) → IsSubtree u s → IsSubtree u (answer_site multi partial s)
in_answer true partial u s h = inr h
in_answer false true u s h = inr h
in_answer false false u s h = h

mutual
  -- A subtree of a subtree is one.
  pub deeper : (u m s : Site) → IsSubtree u m → IsSubtree m s → IsSubtree u s
  deeper u m (bool_site b ty) h e = subst (IsSubtree u) e h
  deeper u m (int_site n ty) h e = subst (IsSubtree u) e h
  deeper u m (prim_site n) h e = subst (IsSubtree u) e h
  deeper u m (argument i) h e = subst (IsSubtree u) e h
  deeper u m (extractor_call t s) h (inl e) = subst (IsSubtree u) e h
  deeper u m (extractor_call t s) h (inr k) = inr (deeper u m s h k)
  deeper u m (constructor_call t ss i) h (inl e) = subst (IsSubtree u) e h
  deeper u m (constructor_call t ss i) h (inr k) = inr (deeper_in u m ss h k)
  deeper u m (iterator s) h (inl e) = subst (IsSubtree u) e h
  deeper u m (iterator s) h (inr k) = inr (deeper u m s h k)
  deeper u m (make_variant ty v ss) h (inl e) = subst (IsSubtree u) e h
  deeper u m (make_variant ty v ss) h (inr k) = inr (deeper_in u m ss h k)
  deeper u m (match_variant s v i) h (inl e) = subst (IsSubtree u) e h
  deeper u m (match_variant s v i) h (inr k) = inr (deeper u m s h k)
  deeper u m (make_struct ty ss) h (inl e) = subst (IsSubtree u) e h
  deeper u m (make_struct ty ss) h (inr k) = inr (deeper_in u m ss h k)
  deeper u m (extract_struct s i) h (inl e) = subst (IsSubtree u) e h
  deeper u m (extract_struct s i) h (inr k) = inr (deeper u m s h k)
  deeper u m (make_some s) h (inl e) = subst (IsSubtree u) e h
  deeper u m (make_some s) h (inr k) = inr (deeper u m s h k)
  deeper u m (match_some s) h (inl e) = subst (IsSubtree u) e h
  deeper u m (match_some s) h (inr k) = inr (deeper u m s h k)
  deeper u m (match_tuple s i) h (inl e) = subst (IsSubtree u) e h
  deeper u m (match_tuple s i) h (inr k) = inr (deeper u m s h k)

  -- So is one of one of these.
  pub deeper_in : (u m : Site) (ss : Sites) → IsSubtree u m → IsSubtreeOfOne m ss → IsSubtreeOfOne u ss
  deeper_in u m no_sites h k = absurd k
  deeper_in u m (more_sites s ss) h (inl k) = inl (deeper u m s h k)
  deeper_in u m (more_sites s ss) h (inr k) = inr (deeper_in u m ss h k)
