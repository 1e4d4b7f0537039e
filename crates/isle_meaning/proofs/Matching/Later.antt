-- What is known stays so after more answers to impure calls.
use Rattle.std.proofs.Common.{◌≡◌, ◌≢◌, ℕ, zero, suc, Bool, true, false, List, [], ◌∷◌, ◌++◌, Option, slice_get, refl, ◌∙◌, ap}
use Rattle.std.specs.Prelude.{if◌then◌else◌}
use Rattle.isle_meaning.specs.Got.{Got, unknown, fails, gives}
use Rattle.isle_meaning.specs.Values.{Value, Values, more, made, built, ask}
use Rattle.isle_meaning.specs.Facts.{TermFacts}
use Rattle.isle_meaning.specs.Sites.{Site, bool_site, int_site, prim_site, argument, extractor_call, constructor_call, iterator}
use Rattle.isle_meaning.specs.Sites.{make_variant, match_variant, make_struct, extract_struct, make_some, match_some, match_tuple, Sites, no_sites, more_sites}
use Rattle.isle_meaning.specs.Answers.{Completion, answer_of, answered}
use Rattle.isle_meaning.specs.Held.{Held, held_some, held, plain, extract_held, construct_held, constructed, several_of, item_of, variant_field, struct_field, content_of, output_of, value, values}

-- values are known where the first and the others are
more_parts : (g : Got Value) (gs : Got Values) → more g gs ≢ unknown → (g ≢ unknown) × (gs ≢ unknown)
more_parts unknown gs k = absurd (k refl)
more_parts fails unknown k = absurd (k refl)
more_parts fails fails k = ((λ e. cc), λ e. cc)
more_parts fails (gives xs) k = ((λ e. cc), λ e. cc)
more_parts (gives x) unknown k = absurd (k refl)
more_parts (gives x) fails k = ((λ e. cc), λ e. cc)
more_parts (gives x) (gives xs) k = ((λ e. cc), λ e. cc)

-- an answer stays
answer_later : (before more : List (Option Value)) (i : ℕ) → answered (slice_get before i) ≢ unknown
    → answered (slice_get (before ++ more) i) ≡ answered (slice_get before i)
answer_later [] more i k = absurd (k refl)
answer_later (x ∷ before) more zero k = refl
answer_later (x ∷ before) more (suc i) k = answer_later before more i k

module _ (facts : TermFacts) (c : Completion) (args : Values) (before further : List (Option Value)) where
  call_later : (m : Bool) (t i : ℕ) (vs : Values) → (if m then several_of (c.constructs t vs) else constructed
      (facts.partial t) (answer_of c before t i vs)) ≢ unknown
      → (if m then several_of (c.constructs t vs) else constructed (facts.partial t) (answer_of c (before ++ further) t i vs))
      ≡ (if m then several_of (c.constructs t vs) else constructed (facts.partial t) (answer_of c before t i vs))
  call_later true t i vs k = refl
  call_later false t zero vs k = refl
  call_later false t (suc i) vs k = ap (constructed (facts.partial t)) (answer_later before further i (λ e. k (ap (constructed (facts.partial t)) e)))

  given_later : (t i : ℕ) (gs : Got Values) → ask (construct_held facts c before t i) gs ≢ unknown
      → ask (construct_held facts c (before ++ further) t i) gs ≡ ask (construct_held facts c before t i) gs
  given_later t i unknown k = refl
  given_later t i fails k = refl
  given_later t i (gives vs) k = call_later (facts.multi t) t i vs k

  mutual
    -- a site that is known holds the same
    pub later : (s : Site) → value facts c args before s ≢ unknown → value facts c args (before ++ further) s ≡ value facts c args before s
    later (bool_site b ty) k = refl
    later (int_site n ty) k = refl
    later (prim_site n) k = refl
    later (argument i) k = refl
    later (extractor_call t s) k = ap (λ (g : Got Held). ask (extract_held facts c t) (plain g))
        (later s (λ e. k (ap (λ (g : Got Held). ask (extract_held facts c t) (plain g)) e)))
    later (constructor_call t ss i) k =
        ap (ask (construct_held facts c (before ++ further) t i)) (all_later ss (λ e. k (ap (ask (construct_held facts c before t i)) e)))
        ∙ given_later t i (values facts c args before ss) k
    later (iterator s) k = ap (ask (item_of (c.place s))) (later s (λ e. k (ap (ask (item_of (c.place s))) e)))
    later (make_variant ty v ss) k = ap (λ (gs : Got Values). held (made ty v gs))
        (all_later ss (λ e. k (ap (λ (gs : Got Values). held (made ty v gs)) e)))
    later (match_variant s v i) k = ap (λ (g : Got Held). ask (variant_field v i) (plain g))
        (later s (λ e. k (ap (λ (g : Got Held). ask (variant_field v i) (plain g)) e)))
    later (make_struct ty ss) k = ap (λ (gs : Got Values). held (built ty gs))
        (all_later ss (λ e. k (ap (λ (gs : Got Values). held (built ty gs)) e)))
    later (extract_struct s i) k = ap (λ (g : Got Held). ask (struct_field i) (plain g))
        (later s (λ e. k (ap (λ (g : Got Held). ask (struct_field i) (plain g)) e)))
    later (make_some s) k = ap (ask (λ h. gives (held_some h))) (later s (λ e. k (ap (ask (λ h. gives (held_some h))) e)))
    later (match_some s) k = ap (ask content_of) (later s (λ e. k (ap (ask content_of) e)))
    later (match_tuple s i) k = ap (ask (output_of i)) (later s (λ e. k (ap (ask (output_of i)) e)))

    -- so do sites
    pub all_later : (ss : Sites) → values facts c args before ss ≢ unknown
        → values facts c args (before ++ further) ss ≡ values facts c args before ss
    all_later no_sites k = refl
    all_later (more_sites s ss) k =
        let both = more_parts (plain (value facts c args before s)) (values facts c args before ss) k in
        let one = later s (λ e. both.0 (ap plain e)) in
        let rest = all_later ss (both.1) in
        ap (λ (g : Got Held). more (plain g) (values facts c args (before ++ further) ss)) one ∙ ap (more (plain (value facts c args before s))) rest
