-- What a site is made of, and of which sites a demand speaks.
use Rattle.std.specs.Prelude.{◌≡◌, ◌⊎◌}
use Rattle.isle_meaning.specs.Sites.{Site, bool_site, int_site, prim_site, argument, extractor_call, constructor_call, iterator}
use Rattle.isle_meaning.specs.Sites.{make_variant, match_variant, make_struct, extract_struct, make_some, match_some, match_tuple}
use Rattle.isle_meaning.specs.Sites.{Sites, no_sites, more_sites}
use Rattle.isle_meaning.specs.Demands.{Demand, constrained, equal}

-- the sites that a site is made of
abbrev pub parts_of : Site → Sites
parts_of (bool_site b ty) = no_sites
parts_of (int_site n ty) = no_sites
parts_of (prim_site n) = no_sites
parts_of (argument i) = no_sites
parts_of (extractor_call t s) = more_sites s no_sites
parts_of (constructor_call t ss i) = ss
parts_of (iterator s) = more_sites s no_sites
parts_of (make_variant ty k ss) = ss
parts_of (match_variant s k i) = more_sites s no_sites
parts_of (make_struct ty ss) = ss
parts_of (extract_struct s i) = more_sites s no_sites
parts_of (make_some s) = more_sites s no_sites
parts_of (match_some s) = more_sites s no_sites
parts_of (match_tuple s i) = more_sites s no_sites

-- one of some sites
abbrev pub IsOneOf : Sites → Site → Type 0
IsOneOf no_sites u = ⊥
IsOneOf (more_sites s ss) u = (u ≡ s) ⊎ IsOneOf ss u

-- a demand speaks of such sites alone
abbrev pub SpeaksOf : (Site → Type 0) → Demand → Type 0
SpeaksOf P (constrained s c) = P s
SpeaksOf P (equal s u) = P s × P u
