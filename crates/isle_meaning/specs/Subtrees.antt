-- The subtrees of a site: itself, and those of what it is made of.
use Rattle.std.specs.Prelude.{◌≡◌, ◌⊎◌}
use Rattle.isle_meaning.specs.Sites.{Site, bool_site, int_site, prim_site, argument, extractor_call, constructor_call, iterator}
use Rattle.isle_meaning.specs.Sites.{make_variant, match_variant, make_struct, extract_struct, make_some, match_some, match_tuple, Sites}
use Rattle.isle_meaning.specs.Sites.{no_sites, more_sites}

-- a site is a subtree of another
abbrev mutual
  pub IsSubtree : Site → Site → Type 0
  IsSubtree u (bool_site b ty) = u ≡ bool_site b ty
  IsSubtree u (int_site n ty) = u ≡ int_site n ty
  IsSubtree u (prim_site n) = u ≡ prim_site n
  IsSubtree u (argument i) = u ≡ argument i
  IsSubtree u (extractor_call t s) = (u ≡ extractor_call t s) ⊎ IsSubtree u s
  IsSubtree u (constructor_call t ss i) = (u ≡ constructor_call t ss i) ⊎ IsSubtreeOfOne u ss
  IsSubtree u (iterator s) = (u ≡ iterator s) ⊎ IsSubtree u s
  IsSubtree u (make_variant ty k ss) = (u ≡ make_variant ty k ss) ⊎ IsSubtreeOfOne u ss
  IsSubtree u (match_variant s k i) = (u ≡ match_variant s k i) ⊎ IsSubtree u s
  IsSubtree u (make_struct ty ss) = (u ≡ make_struct ty ss) ⊎ IsSubtreeOfOne u ss
  IsSubtree u (extract_struct s i) = (u ≡ extract_struct s i) ⊎ IsSubtree u s
  IsSubtree u (make_some s) = (u ≡ make_some s) ⊎ IsSubtree u s
  IsSubtree u (match_some s) = (u ≡ match_some s) ⊎ IsSubtree u s
  IsSubtree u (match_tuple s i) = (u ≡ match_tuple s i) ⊎ IsSubtree u s

  -- of one of these
  pub IsSubtreeOfOne : Site → Sites → Type 0
  IsSubtreeOfOne u no_sites = ⊥
  IsSubtreeOfOne u (more_sites s ss) = IsSubtree u s ⊎ IsSubtreeOfOne u ss
