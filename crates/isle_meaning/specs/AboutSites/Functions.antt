-- Completions whose calls are functions: of one value, or into finite lists.
use Rattle.std.specs.Prelude.{◌≡◌, ◌≢◌, ℕ, zero, suc, false, List, Option, slice_get, length}
use Rattle.isle_meaning.specs.Got.{unknown, gives}
use Rattle.isle_meaning.specs.Values.{Value, Values, count, nth_of}
use Rattle.isle_meaning.specs.Facts.{TermFacts}
use Rattle.isle_meaning.specs.Answers.{Completion, IsAllowed, answered}
use Rattle.isle_meaning.specs.Held.{values}
use Rattle.isle_meaning.specs.Sites.{Site, bool_site, int_site, prim_site, argument, extractor_call, constructor_call, iterator}
use Rattle.isle_meaning.specs.Sites.{make_variant, match_variant, make_struct, extract_struct, make_some, match_some, match_tuple}
use Rattle.isle_meaning.specs.Sites.{Sites}
use Rattle.isle_meaning.specs.Subtrees.{IsSubtree}

-- Each call of a `multi` term gives a finite list: of an extractor's outputs, or of values.
pub record GivesLists (facts : TermFacts) (c : Completion) : Type 0 where
  pub extracts : (t : ℕ) (v : Value) → (l : List Values) × (c.extracts t v ≡ gives l)
      × ((n : ℕ) (vs : Values) → nth_of l n ≡ gives vs → count vs ≡ length (facts.inputs t))
  pub constructs : (t : ℕ) (vs : Values) → (l : List Values) × (c.constructs t vs ≡ gives l)
      × ((n : ℕ) (xs : Values) → nth_of l n ≡ gives xs → count xs ≡ 1)

-- Each other gives one value, or none where its declaration allows that.
pub record AreFiniteFunctions (facts : TermFacts) (c : Completion) : Type 0 where
  pub lists : GivesLists facts c
  pub construct : (t : ℕ) (vs : Values) → c.construct t vs ≢ unknown
  pub extract : (t : ℕ) (v : Value) → c.extract t v ≢ unknown
  pub allowed : IsAllowed facts c

-- an impure call is taken as a function too
abbrev pub as_pure : Site → Site
as_pure (bool_site b ty) = bool_site b ty
as_pure (int_site n ty) = int_site n ty
as_pure (prim_site n) = prim_site n
as_pure (argument i) = argument i
as_pure (extractor_call t s) = extractor_call t s
as_pure (constructor_call t ss i) = constructor_call t ss zero
as_pure (iterator s) = iterator s
as_pure (make_variant ty k ss) = make_variant ty k ss
as_pure (match_variant s k i) = match_variant s k i
as_pure (make_struct ty ss) = make_struct ty ss
as_pure (extract_struct s i) = extract_struct s i
as_pure (make_some s) = make_some s
as_pure (match_some s) = match_some s
as_pure (match_tuple s i) = match_tuple s i

-- The answers so far to the impure calls that the site has are those that functions give.
abbrev pub AreAsFunctions : TermFacts → Completion → Values → List (Option Value) → Site → Type 0
AreAsFunctions facts c args done s = (t : ℕ) (ss : Sites) (i : ℕ) (vs : Values) → IsSubtree (constructor_call t ss (suc i)) s
    → facts.multi t ≡ false → values facts c args done ss ≡ gives vs → answered (slice_get done i) ≡ c.construct t vs
