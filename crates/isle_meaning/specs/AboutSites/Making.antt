-- What a site holds, by what its parts hold.
use Rattle.std.specs.Prelude.{◌≡◌, List, [], ◌∷◌, Option}
use Rattle.isle_meaning.specs.Got.{Got, unknown, gives}
use Rattle.isle_meaning.specs.Values.{Value, bool_value, int_value, constant_value, Values, no_values, nth, more, made, built, ask}
use Rattle.isle_meaning.specs.Facts.{TermFacts}
use Rattle.isle_meaning.specs.Sites.{Site, bool_site, int_site, prim_site, argument, extractor_call, constructor_call, iterator}
use Rattle.isle_meaning.specs.Sites.{make_variant, match_variant, make_struct, extract_struct, make_some, match_some, match_tuple}
use Rattle.isle_meaning.specs.Sites.{Sites, no_sites, more_sites}
use Rattle.isle_meaning.specs.Answers.{Completion}
use Rattle.isle_meaning.specs.Held.{Held, held_value, held_some, held, plain_of, extract_held, construct_held, variant_field, struct_field}
use Rattle.isle_meaning.specs.Held.{content_of, output_of, item_of, value}

-- the values that parts hold
abbrev pub plain_values : List Held → Got Values
plain_values [] = gives no_values
plain_values (h ∷ hs) = more (plain_of h) (plain_values hs)

-- what is made of the first part
abbrev pub of_first : (Held → Got Held) → List Held → Got Held
of_first f [] = unknown
of_first f (h ∷ hs) = f h

-- What a site is, where its parts hold these: a call's answer, made data, a field, or a constant.
module _ (facts : TermFacts) (c : Completion) (args : Values) (done : List (Option Value)) where
  -- what the site is
  abbrev pub made_of_parts : Site → List Held → Got Held
  made_of_parts (bool_site b ty) hs = gives (held_value (bool_value b))
  made_of_parts (int_site n ty) hs = gives (held_value (int_value n))
  made_of_parts (prim_site n) hs = gives (held_value (constant_value n))
  made_of_parts (argument i) hs = held (nth args i)
  made_of_parts (extractor_call t s) hs = of_first (λ h. ask (extract_held facts c t) (plain_of h)) hs
  made_of_parts (constructor_call t ss i) hs = ask (construct_held facts c done t i) (plain_values hs)
  made_of_parts (iterator s) hs = of_first (item_of (c.place s)) hs
  made_of_parts (make_variant ty k ss) hs = held (made ty k (plain_values hs))
  made_of_parts (match_variant s k i) hs = of_first (λ h. ask (variant_field k i) (plain_of h)) hs
  made_of_parts (make_struct ty ss) hs = held (built ty (plain_values hs))
  made_of_parts (extract_struct s i) hs = of_first (λ h. ask (struct_field i) (plain_of h)) hs
  made_of_parts (make_some s) hs = of_first (λ h. gives (held_some h)) hs
  made_of_parts (match_some s) hs = of_first content_of hs
  made_of_parts (match_tuple s i) hs = of_first (output_of i) hs

  -- sites hold these, in order
  abbrev pub HoldEach : Sites → List Held → Type 0
  HoldEach no_sites [] = Unit {0}
  HoldEach no_sites (h ∷ hs) = ⊥
  HoldEach (more_sites s ss) [] = ⊥
  HoldEach (more_sites s ss) (h ∷ hs) = (value facts c args done s ≡ gives h) × HoldEach ss hs
