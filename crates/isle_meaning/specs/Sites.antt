-- Sites as trees: equal trees are one site.
use Rattle.std.specs.Prelude.{ℕ, zero, suc, ℤ, Bool, true, false, List}
use Rattle.isle_meaning.specs.Facts.{TermFacts}
use Rattle.isle_meaning.specs.Words.{Word, var_word, bool_word, int_word, prim_word, variant_word, struct_word, call_word, Words}
use Rattle.isle_meaning.specs.Words.{no_words, more_words, Step}

mutual
  -- what a rule can speak of
  pub data Site : Type 0 where
    -- a constant
    bool_site : Bool → ℕ → Site
    int_site : ℤ → ℕ → Site
    prim_site : List ℕ → Site
    argument : ℕ → Site
    -- calls: an extractor's on a site, a constructor's on sites with a number
    extractor_call : ℕ → Site → Site
    constructor_call : ℕ → Sites → ℕ → Site
    -- one value of a multi call
    iterator : Site → Site
    -- a made variant, and a field of a site under a variant
    make_variant : ℕ → ℕ → Sites → Site
    match_variant : Site → ℕ → ℕ → Site
    -- a made struct, and a field of a site under a struct
    make_struct : ℕ → Sites → Site
    extract_struct : Site → ℕ → Site
    -- a made option, and the content of one
    make_some : Site → Site
    match_some : Site → Site
    -- an output of a tuple
    match_tuple : Site → ℕ → Site

  pub data Sites : Type 0 where
    no_sites : Sites
    more_sites : Site → Sites → Sites

-- what a constructor's call gives: one value of a multi one, the content of a partial one, or itself
abbrev pub answer_site : Bool → Bool → Site → Site
answer_site true partial s = iterator s
answer_site false true s = match_some s
answer_site false false s = s

-- what an extractor's call gives
abbrev pub extract_site : Bool → Bool → Site → Site
extract_site true infallible s = iterator s
extract_site false true s = s
extract_site false false s = match_some s

-- an output among so many: one is the source's own value
abbrev pub output : ℕ → Site → ℕ → Site
output zero s i = match_tuple s i
output (suc zero) s i = s
output (suc (suc n)) s i = match_tuple s i

-- the site of a word, where the variables stand for sites
abbrev mutual
  pub site_of : TermFacts → (ℕ → Site) → Word → Site
  site_of facts vars (var_word k) = vars k
  site_of facts vars (bool_word ty b) = bool_site b ty
  site_of facts vars (int_word ty n) = int_site n ty
  site_of facts vars (prim_word n) = prim_site n
  site_of facts vars (variant_word ty k ws) = make_variant ty k (sites_of facts vars ws)
  site_of facts vars (struct_word ty ws) = make_struct ty (sites_of facts vars ws)
  site_of facts vars (call_word t ws i) = answer_site (facts.multi t) (facts.partial t) (constructor_call t (sites_of facts vars ws) i)

  pub sites_of : TermFacts → (ℕ → Site) → Words → Sites
  sites_of facts vars no_words = no_sites
  sites_of facts vars (more_words w ws) = more_sites (site_of facts vars w) (sites_of facts vars ws)

-- the site of an impure call
abbrev pub step_site : TermFacts → (ℕ → Site) → Step → Site
step_site facts vars s =
    answer_site (facts.multi s.term) (facts.partial s.term) (constructor_call s.term (sites_of facts vars s.args) (suc s.place))
