-- What a site holds is made of what its parts hold.
use Rattle.std.proofs.Common.{◌≡◌, List, [], ◌∷◌, Option, refl, ap, ◌∙◌}
use Rattle.isle_meaning.specs.Got.{Got, gives}
use Rattle.isle_meaning.specs.Values.{Value, Values, more, made, built, ask}
use Rattle.isle_meaning.specs.Facts.{TermFacts}
use Rattle.isle_meaning.specs.Answers.{Completion}
use Rattle.isle_meaning.specs.Sites.{Site, bool_site, int_site, prim_site, argument, extractor_call, constructor_call, iterator}
use Rattle.isle_meaning.specs.Sites.{make_variant, match_variant, make_struct, extract_struct, make_some, match_some, match_tuple}
use Rattle.isle_meaning.specs.Sites.{Sites, no_sites, more_sites}
use Rattle.isle_meaning.specs.AboutSites.Parts.{parts_of}
use Rattle.isle_meaning.specs.Held.{Held, held_some, held, plain, plain_of, extract_held, construct_held, variant_field, struct_field}
use Rattle.isle_meaning.specs.Held.{content_of, output_of, item_of, value, values}
use Rattle.isle_meaning.specs.AboutSites.Making.{plain_values, of_first, made_of_parts, HoldEach}
use Rattle.isle_meaning.specs.Laws.Sites.{SitesAreMadeByParts}

module _ (facts : TermFacts) (c : Completion) (args : Values) (done : List (Option Value)) where
  -- what a site holds
  abbrev val : Site → Got Held
  val s = value facts c args done s

  -- the values of sites that hold these
  all_made : (ss : Sites) (hs : List Held) → HoldEach facts c args done ss hs → values facts c args done ss ≡ plain_values hs
  all_made no_sites [] h = refl
  all_made no_sites (x ∷ hs) h = absurd h
  all_made (more_sites s ss) [] h = absurd h
  all_made (more_sites s ss) (x ∷ hs) h =
      ap (λ (g : Got Held). more (plain g) (values facts c args done ss)) (h.0) ∙ ap (more (plain_of x)) (all_made ss hs (h.1))

  -- what is made of one site
  one_made : (f : Held → Got Held) (s : Site) (hs : List Held) → HoldEach facts c args done (more_sites s no_sites) hs
      → ask f (val s) ≡ of_first f hs
  one_made f s [] h = absurd h
  one_made f s (x ∷ []) h = ap (ask f) (h.0)
  one_made f s (x ∷ (y ∷ hs)) h = absurd (h.1)

  -- what is made of one site's value
  plain_made : (f : Value → Got Held) (s : Site) (hs : List Held) → HoldEach facts c args done (more_sites s no_sites) hs
      → ask f (plain (val s)) ≡ of_first (λ h. ask f (plain_of h)) hs
  plain_made f s [] h = absurd h
  plain_made f s (x ∷ []) h = ap (λ (g : Got Held). ask f (plain g)) (h.0)
  plain_made f s (x ∷ (y ∷ hs)) h = absurd (h.1)

  -- A site holds what is made of what its parts hold.
  pub held_made : (s : Site) (hs : List Held) → HoldEach facts c args done (parts_of s) hs → val s ≡ made_of_parts facts c args done s hs
  held_made (bool_site b ty) hs h = refl
  held_made (int_site n ty) hs h = refl
  held_made (prim_site n) hs h = refl
  held_made (argument i) hs h = refl
  held_made (extractor_call t s) hs h = plain_made (extract_held facts c t) s hs h
  held_made (constructor_call t ss i) hs h = ap (ask (construct_held facts c done t i)) (all_made ss hs h)
  held_made (iterator s) hs h = one_made (item_of (c.place s)) s hs h
  held_made (make_variant ty k ss) hs h = ap (λ (g : Got Values). held (made ty k g)) (all_made ss hs h)
  held_made (match_variant s k i) hs h = plain_made (variant_field k i) s hs h
  held_made (make_struct ty ss) hs h = ap (λ (g : Got Values). held (built ty g)) (all_made ss hs h)
  held_made (extract_struct s i) hs h = plain_made (struct_field i) s hs h
  held_made (make_some s) hs h = one_made (λ x. gives (held_some x)) s hs h
  held_made (match_some s) hs h = one_made content_of s hs h
  held_made (match_tuple s i) hs h = one_made (output_of i) s hs h

pub sites_are_made_by_parts : SitesAreMadeByParts
sites_are_made_by_parts facts c args done s hs h = held_made facts c args done s hs h
