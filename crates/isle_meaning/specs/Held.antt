-- What a site holds.
use Rattle.std.specs.Prelude.{◌≡◌, ◌≢◌, ℕ, Bool, true, false, List, Option, ◌==◌, if◌then◌else◌}
use Rattle.isle_meaning.specs.Values.{Value, bool_value, int_value, constant_value, opaque_value, made_variant, made_struct, Values, count}
use Rattle.isle_meaning.specs.Got.{Got, unknown, fails, gives}
use Rattle.isle_meaning.specs.Values.{no_values, more_values, nth, nth_of, more, made, built, ask}
use Rattle.isle_meaning.specs.Facts.{TermFacts}
use Rattle.isle_meaning.specs.Sites.{Site, bool_site, int_site, prim_site, argument, extractor_call, constructor_call, iterator}
use Rattle.isle_meaning.specs.Sites.{make_variant, match_variant, make_struct, extract_struct, make_some, match_some, match_tuple}
use Rattle.isle_meaning.specs.Sites.{Sites, no_sites, more_sites}
use Rattle.isle_meaning.specs.Answers.{Completion, answer_of}
use Rattle.isle_meaning.specs.Demands.{Constraint, variant_constraint, struct_constraint, bool_constraint, int_constraint, prim_constraint, some_constraint}

-- a value, the outputs of an extractor that hasn't one, an option, or what a multi call gives
pub data Held : Type 0 where
  held_value : Value → Held
  held_outputs : Values → Held
  held_none : Held
  held_some : Held → Held
  held_answers : List Values → Held

abbrev pub held : Got Value → Got Held
held g = ask (λ v. gives (held_value v)) g

abbrev pub plain_of : Held → Got Value
plain_of (held_value v) = gives v
plain_of (held_outputs vs) = fails
plain_of held_none = fails
plain_of (held_some h) = fails
plain_of (held_answers l) = fails

abbrev pub plain : Got Held → Got Value
plain g = ask plain_of g

-- one output is the call's own value
abbrev pub outputs_of : Values → Held
outputs_of no_values = held_outputs no_values
outputs_of (more_values x no_values) = held_value x
outputs_of (more_values x (more_values y ys)) = held_outputs (more_values x (more_values y ys))

-- an answered call, of an extractor that never fails or of one that may
abbrev pub extracted : Bool → Got Values → Got Held
extracted b unknown = unknown
extracted true fails = fails
extracted false fails = gives held_none
extracted true (gives vs) = gives (outputs_of vs)
extracted false (gives vs) = gives (held_some (outputs_of vs))

-- an answered call, of a constructor that may fail or of one that never does
abbrev pub constructed : Bool → Got Value → Got Held
constructed b unknown = unknown
constructed true fails = gives held_none
constructed false fails = fails
constructed true (gives v) = gives (held_some (held_value v))
constructed false (gives v) = gives (held_value v)

abbrev pub several_of : Got (List Values) → Got Held
several_of g = ask (λ l. gives (held_answers l)) g

-- what an extractor's call holds
abbrev pub extract_held : TermFacts → Completion → ℕ → Value → Got Held
extract_held facts c t v = if facts.multi t then several_of (c.extracts t v) else extracted (facts.infallible t) (c.extract t v)

-- what a constructor's call holds
abbrev pub construct_held : TermFacts → Completion → List (Option Value) → ℕ → ℕ → Values → Got Held
construct_held facts c done t i vs =
    if facts.multi t then several_of (c.constructs t vs) else constructed (facts.partial t) (answer_of c done t i vs)

abbrev pub field_if : Bool → Values → ℕ → Got Held
field_if false vs i = fails
field_if true vs i = held (nth vs i)

-- a field under a variant
abbrev pub variant_field : ℕ → ℕ → Value → Got Held
variant_field k i (bool_value b) = fails
variant_field k i (int_value n) = fails
variant_field k i (constant_value n) = fails
variant_field k i (opaque_value n) = fails
variant_field k i (made_variant ty j vs) = field_if (j == k) vs i
variant_field k i (made_struct ty vs) = fails

-- a struct's field
abbrev pub struct_field : ℕ → Value → Got Held
struct_field i (bool_value b) = fails
struct_field i (int_value n) = fails
struct_field i (constant_value n) = fails
struct_field i (opaque_value n) = fails
struct_field i (made_variant ty j vs) = fails
struct_field i (made_struct ty vs) = held (nth vs i)

abbrev pub content_of : Held → Got Held
content_of (held_value v) = fails
content_of (held_outputs vs) = fails
content_of held_none = fails
content_of (held_some h) = gives h
content_of (held_answers l) = fails

abbrev pub output_of : ℕ → Held → Got Held
output_of i (held_value v) = fails
output_of i (held_outputs vs) = held (nth vs i)
output_of i held_none = fails
output_of i (held_some h) = fails
output_of i (held_answers l) = fails

-- the one at a place
abbrev pub item_of : ℕ → Held → Got Held
item_of i (held_value v) = fails
item_of i (held_outputs vs) = fails
item_of i held_none = fails
item_of i (held_some h) = fails
item_of i (held_answers l) = ask (λ vs. gives (outputs_of vs)) (nth_of l i)

-- A site's value, under arguments, answers to the pure calls, and the answers to the rule's impure calls so far.
abbrev mutual
  pub value : TermFacts → Completion → Values → List (Option Value) → Site → Got Held
  value facts c args done (bool_site b ty) = gives (held_value (bool_value b))
  value facts c args done (int_site n ty) = gives (held_value (int_value n))
  value facts c args done (prim_site n) = gives (held_value (constant_value n))
  value facts c args done (argument i) = held (nth args i)
  value facts c args done (extractor_call t s) = ask (extract_held facts c t) (plain (value facts c args done s))
  value facts c args done (constructor_call t ss i) = ask (construct_held facts c done t i) (values facts c args done ss)
  value facts c args done (iterator s) = ask (item_of (c.place s)) (value facts c args done s)
  value facts c args done (make_variant ty k ss) = held (made ty k (values facts c args done ss))
  value facts c args done (match_variant s k i) = ask (variant_field k i) (plain (value facts c args done s))
  value facts c args done (make_struct ty ss) = held (built ty (values facts c args done ss))
  value facts c args done (extract_struct s i) = ask (struct_field i) (plain (value facts c args done s))
  value facts c args done (make_some s) = ask (λ h. gives (held_some h)) (value facts c args done s)
  value facts c args done (match_some s) = ask content_of (value facts c args done s)
  value facts c args done (match_tuple s i) = ask (output_of i) (value facts c args done s)

  pub values : TermFacts → Completion → Values → List (Option Value) → Sites → Got Values
  values facts c args done no_sites = gives no_values
  values facts c args done (more_sites s ss) = more (plain (value facts c args done s)) (values facts c args done ss)

-- each call that is the site or a part of it, at any depth, is answered where its arguments have values
abbrev mutual
  pub IsAnswered : TermFacts → Completion → Values → List (Option Value) → Site → Type 0
  IsAnswered facts c args done (bool_site b ty) = Unit {0}
  IsAnswered facts c args done (int_site n ty) = Unit {0}
  IsAnswered facts c args done (prim_site n) = Unit {0}
  IsAnswered facts c args done (argument i) = Unit {0}
  IsAnswered facts c args done (extractor_call t s) =
      IsAnswered facts c args done s × ((v : Value) → value facts c args done s ≡ gives (held_value v) → extract_held facts c t v ≢ unknown)
  IsAnswered facts c args done (constructor_call t ss i) =
      AreAnswered facts c args done ss
      × ((vs : Values) → values facts c args done ss ≡ gives vs → construct_held facts c done t i vs ≢ unknown)
  IsAnswered facts c args done (iterator s) = IsAnswered facts c args done s
  IsAnswered facts c args done (make_variant ty k ss) = AreAnswered facts c args done ss
  IsAnswered facts c args done (match_variant s k i) = IsAnswered facts c args done s
  IsAnswered facts c args done (make_struct ty ss) = AreAnswered facts c args done ss
  IsAnswered facts c args done (extract_struct s i) = IsAnswered facts c args done s
  IsAnswered facts c args done (make_some s) = IsAnswered facts c args done s
  IsAnswered facts c args done (match_some s) = IsAnswered facts c args done s
  IsAnswered facts c args done (match_tuple s i) = IsAnswered facts c args done s

  pub AreAnswered : TermFacts → Completion → Values → List (Option Value) → Sites → Type 0
  AreAnswered facts c args done no_sites = Unit {0}
  AreAnswered facts c args done (more_sites s ss) = IsAnswered facts c args done s × AreAnswered facts c args done ss

abbrev pub Meets : Constraint → Held → Type 0
Meets (variant_constraint ty k n) h = (vs : Values) × (h ≡ held_value (made_variant ty k vs)) × (count vs ≡ n)
Meets (struct_constraint ty n) h = (vs : Values) × (h ≡ held_value (made_struct ty vs)) × (count vs ≡ n)
Meets (bool_constraint b ty) h = h ≡ held_value (bool_value b)
Meets (int_constraint n ty) h = h ≡ held_value (int_value n)
Meets (prim_constraint n) h = h ≡ held_value (constant_value n)
Meets some_constraint h = (x : Held) × (h ≡ held_some x)
