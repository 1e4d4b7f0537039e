-- Parts and subtrees of sites.
use Rattle.std.proofs.Common.{inl, inr, List, [], ◌∷◌, ◌++◌, refl, sym, subst}
use Rattle.isle_meaning.specs.Sites.{Site, bool_site, int_site, prim_site, argument, extractor_call, constructor_call, iterator}
use Rattle.isle_meaning.specs.Sites.{make_variant, match_variant, make_struct, extract_struct, make_some, match_some, match_tuple}
use Rattle.isle_meaning.specs.Sites.{Sites, no_sites, more_sites}
use Rattle.isle_meaning.specs.AboutSites.Parts.{parts_of, IsOneOf}
use Rattle.isle_meaning.specs.Subtrees.{IsSubtree, IsSubtreeOfOne}
use Rattle.isle_meaning.specs.Needs.{IsNeeded}
use Rattle.isle_meaning.proofs.Chains.Subtrees.{whole, deeper}

-- What holds of a site holds of the only one.
pub of_only : (P : Site → Type 0) (s u : Site) → P s → IsOneOf (more_sites s no_sites) u → P u
of_only P s u h (inl e) = subst P (sym e) h
of_only P s u h (inr m) = absurd m

-- one of some sites is a subtree of one
one_within : (ss : Sites) (u : Site) → IsOneOf ss u → IsSubtreeOfOne u ss
one_within no_sites u m = absurd m
one_within (more_sites s ss) u (inl e) = inl (subst (IsSubtree u) e (whole u))
one_within (more_sites s ss) u (inr m) = inr (one_within ss u m)

-- A part is a subtree.
pub part_within : (s u : Site) → IsOneOf (parts_of s) u → IsSubtree u s
part_within (bool_site b ty) u m = absurd m
part_within (int_site n ty) u m = absurd m
part_within (prim_site n) u m = absurd m
part_within (argument i) u m = absurd m
part_within (extractor_call t s) u m = inr (of_only (λ (z : Site). IsSubtree z s) s u (whole s) m)
part_within (constructor_call t ss i) u m = inr (one_within ss u m)
part_within (iterator s) u m = inr (of_only (λ (z : Site). IsSubtree z s) s u (whole s) m)
part_within (make_variant ty k ss) u m = inr (one_within ss u m)
part_within (match_variant s k i) u m = inr (of_only (λ (z : Site). IsSubtree z s) s u (whole s) m)
part_within (make_struct ty ss) u m = inr (one_within ss u m)
part_within (extract_struct s i) u m = inr (of_only (λ (z : Site). IsSubtree z s) s u (whole s) m)
part_within (make_some s) u m = inr (of_only (λ (z : Site). IsSubtree z s) s u (whole s) m)
part_within (match_some s) u m = inr (of_only (λ (z : Site). IsSubtree z s) s u (whole s) m)
part_within (match_tuple s i) u m = inr (of_only (λ (z : Site). IsSubtree z s) s u (whole s) m)

-- this holds of each subtree
abbrev pub OfSubtrees : (Site → Type 0) → Site → Type 0
OfSubtrees P s = (u : Site) → IsSubtree u s → P u

-- What holds of a site's subtrees holds of a part's.
pub part_of : (P : Site → Type 0) (s u : Site) → OfSubtrees P s → IsOneOf (parts_of s) u → OfSubtrees P u
part_of P s u h m x k = h x (deeper x u s k (part_within s u m))

module _ (P : Site → Type 0) where
  -- what holds of each one's subtrees
  of_ones : (ss : Sites) → ((u : Site) → IsOneOf ss u → OfSubtrees P u) → (x : Site) → IsSubtreeOfOne x ss → P x
  of_ones no_sites f x k = absurd k
  of_ones (more_sites s ss) f x (inl k) = f s (inl refl) x k
  of_ones (more_sites s ss) f x (inr k) = of_ones ss (λ u m. f u (inr m)) x k

  -- What holds of a site and of its parts' subtrees holds of its own.
  pub of_whole : (s : Site) → P s → ((u : Site) → IsOneOf (parts_of s) u → OfSubtrees P u) → OfSubtrees P s
  of_whole (bool_site b ty) h f x e = subst P (sym e) h
  of_whole (int_site n ty) h f x e = subst P (sym e) h
  of_whole (prim_site n) h f x e = subst P (sym e) h
  of_whole (argument i) h f x e = subst P (sym e) h
  of_whole (extractor_call t s) h f x (inl e) = subst P (sym e) h
  of_whole (extractor_call t s) h f x (inr k) = f s (inl refl) x k
  of_whole (constructor_call t ss i) h f x (inl e) = subst P (sym e) h
  of_whole (constructor_call t ss i) h f x (inr k) = of_ones ss f x k
  of_whole (iterator s) h f x (inl e) = subst P (sym e) h
  of_whole (iterator s) h f x (inr k) = f s (inl refl) x k
  of_whole (make_variant ty v ss) h f x (inl e) = subst P (sym e) h
  of_whole (make_variant ty v ss) h f x (inr k) = of_ones ss f x k
  of_whole (match_variant s v i) h f x (inl e) = subst P (sym e) h
  of_whole (match_variant s v i) h f x (inr k) = f s (inl refl) x k
  of_whole (make_struct ty ss) h f x (inl e) = subst P (sym e) h
  of_whole (make_struct ty ss) h f x (inr k) = of_ones ss f x k
  of_whole (extract_struct s i) h f x (inl e) = subst P (sym e) h
  of_whole (extract_struct s i) h f x (inr k) = f s (inl refl) x k
  of_whole (make_some s) h f x (inl e) = subst P (sym e) h
  of_whole (make_some s) h f x (inr k) = f s (inl refl) x k
  of_whole (match_some s) h f x (inl e) = subst P (sym e) h
  of_whole (match_some s) h f x (inr k) = f s (inl refl) x k
  of_whole (match_tuple s i) h f x (inl e) = subst P (sym e) h
  of_whole (match_tuple s i) h f x (inr k) = f s (inl refl) x k

  -- of a site of one part
  pub of_one : (s u : Site) → OfSubtrees P s → IsOneOf (more_sites s no_sites) u → OfSubtrees P u
  of_one s u h m = of_only (OfSubtrees P) s u h m

-- each of some sites
abbrev pub EachSite : (Site → Type 0) → List Site → Type 0
EachSite P [] = Unit {0}
EachSite P (s ∷ ss) = P s × EachSite P ss

-- Of those of two lists.
pub sites_append : (P : Site → Type 0) (ss us : List Site) → EachSite P ss → EachSite P us → EachSite P (ss ++ us)
sites_append P [] us h g = g
sites_append P (s ∷ ss) us h g = (h.0, sites_append P ss us (h.1) g)

-- Of one that is needed.
pub each_needed : (P : Site → Type 0) (ss : List Site) (s : Site) → EachSite P ss → IsNeeded ss s → P s
each_needed P [] s h n = absurd n
each_needed P (u ∷ ss) s h (inl e) = subst P (sym e) (h.0)
each_needed P (u ∷ ss) s h (inr n) = each_needed P ss s (h.1) n
