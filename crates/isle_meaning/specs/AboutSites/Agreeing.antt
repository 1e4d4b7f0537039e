-- Completions that agree where both answer, and calls that aren't answered.
use Rattle.std.specs.Prelude.{◌≡◌, ◌≢◌, ℕ, List, Option}
use Rattle.isle_meaning.specs.Got.{Got, unknown, gives}
use Rattle.isle_meaning.specs.Values.{Value, Values}
use Rattle.isle_meaning.specs.Facts.{TermFacts}
use Rattle.isle_meaning.specs.Sites.{Site, bool_site, int_site, prim_site, argument, extractor_call, constructor_call, iterator}
use Rattle.isle_meaning.specs.Sites.{make_variant, match_variant, make_struct, extract_struct, make_some, match_some, match_tuple}
use Rattle.isle_meaning.specs.Answers.{Completion}
use Rattle.isle_meaning.specs.Held.{held_value, value, values, extract_held, construct_held}

-- where both are known, they are one
abbrev pub AgreeIfKnown : {A : Type 0} → Got A → Got A → Type 0
AgreeIfKnown g h = g ≢ unknown → h ≢ unknown → h ≡ g

-- two completions agree on each call that both answer, and on the places in the answers of multi calls
pub record AgreeOnCalls (c d : Completion) : Type 0 where
  pub construct : (t : ℕ) (vs : Values) → AgreeIfKnown (c.construct t vs) (d.construct t vs)
  pub extract : (t : ℕ) (v : Value) → AgreeIfKnown (c.extract t v) (d.extract t v)
  pub constructs : (t : ℕ) (vs : Values) → AgreeIfKnown (c.constructs t vs) (d.constructs t vs)
  pub extracts : (t : ℕ) (v : Value) → AgreeIfKnown (c.extracts t v) (d.extracts t v)
  pub place : (s : Site) → c.place s ≡ d.place s

-- the site is a call that isn't answered on the values of its parts
abbrev pub IsOpenCall : TermFacts → Completion → Values → List (Option Value) → Site → Type 0
IsOpenCall facts c args done (bool_site b ty) = ⊥
IsOpenCall facts c args done (int_site n ty) = ⊥
IsOpenCall facts c args done (prim_site n) = ⊥
IsOpenCall facts c args done (argument i) = ⊥
IsOpenCall facts c args done (extractor_call t s) =
    (v : Value) × (value facts c args done s ≡ gives (held_value v)) × (extract_held facts c t v ≡ unknown)
IsOpenCall facts c args done (constructor_call t ss i) =
    (vs : Values) × (values facts c args done ss ≡ gives vs) × (construct_held facts c done t i vs ≡ unknown)
IsOpenCall facts c args done (iterator s) = ⊥
IsOpenCall facts c args done (make_variant ty k ss) = ⊥
IsOpenCall facts c args done (match_variant s k i) = ⊥
IsOpenCall facts c args done (make_struct ty ss) = ⊥
IsOpenCall facts c args done (extract_struct s i) = ⊥
IsOpenCall facts c args done (make_some s) = ⊥
IsOpenCall facts c args done (match_some s) = ⊥
IsOpenCall facts c args done (match_tuple s i) = ⊥
