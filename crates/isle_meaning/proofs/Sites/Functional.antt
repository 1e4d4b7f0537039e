-- What sites hold where calls are functions, impure ones too.
use Rattle.std.proofs.Common.{◌≡◌, ◌≢◌, inl, inr, ℕ, zero, suc, List, Bool, true, false, Option, slice_get, refl, ap, sym, subst, ◌∙◌}
use Rattle.isle_meaning.specs.Got.{Got, unknown, fails, gives}
use Rattle.isle_meaning.specs.Values.{Value, Values, ask}
use Rattle.isle_meaning.specs.Facts.{TermFacts}
use Rattle.isle_meaning.specs.Answers.{Completion, answered}
use Rattle.isle_meaning.specs.AboutSites.Functions.{AreFiniteFunctions, as_pure, AreAsFunctions}
use Rattle.isle_meaning.specs.Held.{Held, several_of, constructed, extract_held, construct_held, value, values, IsAnswered, AreAnswered}
use Rattle.isle_meaning.specs.AboutSites.Kinds.{HasItsKind}
use Rattle.isle_meaning.specs.AboutSites.Making.{made_of_parts}
use Rattle.isle_meaning.specs.AboutSites.Parts.{parts_of}
use Rattle.isle_meaning.specs.Sites.{Site, bool_site, int_site, prim_site, argument, extractor_call, constructor_call, iterator}
use Rattle.isle_meaning.specs.Sites.{make_variant, match_variant, make_struct, extract_struct, make_some, match_some, match_tuple}
use Rattle.isle_meaning.specs.Sites.{Sites, no_sites, more_sites}
use Rattle.isle_meaning.specs.Subtrees.{IsSubtreeOfOne}
use Rattle.isle_meaning.proofs.Chains.Knowing.{extracted_known, constructed_known}
use Rattle.isle_meaning.proofs.Matching.Known.{known}

-- A site and its call as a function have the same parts.
pub pure_parts : (s : Site) → parts_of (as_pure s) ≡ parts_of s
pure_parts (bool_site b ty) = refl
pure_parts (int_site n ty) = refl
pure_parts (prim_site n) = refl
pure_parts (argument i) = refl
pure_parts (extractor_call t s) = refl
pure_parts (constructor_call t ss i) = refl
pure_parts (iterator s) = refl
pure_parts (make_variant ty k ss) = refl
pure_parts (match_variant s k i) = refl
pure_parts (make_struct ty ss) = refl
pure_parts (extract_struct s i) = refl
pure_parts (make_some s) = refl
pure_parts (match_some s) = refl
pure_parts (match_tuple s i) = refl

-- Both are of their kind.
pub pure_kind : (facts : TermFacts) (tys : List ℕ) (s : Site) → HasItsKind true facts tys s → HasItsKind true facts tys (as_pure s)
pure_kind facts tys (bool_site b ty) h = h
pure_kind facts tys (int_site n ty) h = h
pure_kind facts tys (prim_site n) h = h
pure_kind facts tys (argument i) h = h
pure_kind facts tys (extractor_call t s) h = h
pure_kind facts tys (constructor_call t ss i) h = h
pure_kind facts tys (iterator s) h = h
pure_kind facts tys (make_variant ty k ss) h = h
pure_kind facts tys (match_variant s k i) h = h
pure_kind facts tys (make_struct ty ss) h = h
pure_kind facts tys (extract_struct s i) h = h
pure_kind facts tys (make_some s) h = h
pure_kind facts tys (match_some s) h = h
pure_kind facts tys (match_tuple s i) h = h

-- What is made by functions is the same whatever impure calls were answered.
pub made_purely : (facts : TermFacts) (c : Completion) (args : Values) (done more : List (Option Value)) (s : Site) (hs : List Held)
    → made_of_parts facts c args done (as_pure s) hs ≡ made_of_parts facts c args more (as_pure s) hs
made_purely facts c args done more (bool_site b ty) hs = refl
made_purely facts c args done more (int_site n ty) hs = refl
made_purely facts c args done more (prim_site n) hs = refl
made_purely facts c args done more (argument i) hs = refl
made_purely facts c args done more (extractor_call t s) hs = refl
made_purely facts c args done more (constructor_call t ss i) hs = refl
made_purely facts c args done more (iterator s) hs = refl
made_purely facts c args done more (make_variant ty k ss) hs = refl
made_purely facts c args done more (match_variant s k i) hs = refl
made_purely facts c args done more (make_struct ty ss) hs = refl
made_purely facts c args done more (extract_struct s i) hs = refl
made_purely facts c args done more (make_some s) hs = refl
made_purely facts c args done more (match_some s) hs = refl
made_purely facts c args done more (match_tuple s i) hs = refl

-- a list that is given is held
several_given : (g : Got (List Values)) (l : List Values) → g ≡ gives l → several_of g ≢ unknown
several_given g l e q = let r : several_of (gives l) ≡ unknown = subst (λ (x : Got (List Values)). several_of x ≡ unknown) e q in cc

module _ (facts : TermFacts) (c : Completion) (functions : AreFiniteFunctions facts c) (args : Values) (done : List (Option Value)) where
  -- what a site holds
  abbrev val : Site → Got Held
  val s = value facts c args done s

  -- an extractor's call is answered
  extract_known : (t : ℕ) (v : Value) → extract_held facts c t v ≢ unknown
  extract_known t v = go (facts.multi t) refl
    where
      go : (b : Bool) → facts.multi t ≡ b → extract_held facts c t v ≢ unknown
      go true e = let lists = functions.lists in let (l, given, all) = lists.extracts t v in rw e (several_given (c.extracts t v) l given)
      go false e = rw e (extracted_known (facts.infallible t) (c.extract t v) (functions.extract t v))

  -- so is a pure constructor's
  construct_known : (t : ℕ) (vs : Values) → construct_held facts c done t zero vs ≢ unknown
  construct_known t vs = go (facts.multi t) refl
    where
      go : (b : Bool) → facts.multi t ≡ b → construct_held facts c done t zero vs ≢ unknown
      go true e = let lists = functions.lists in let (l, given, all) = lists.constructs t vs in rw e (several_given (c.constructs t vs) l given)
      go false e = rw e (constructed_known (facts.partial t) (c.construct t vs) (functions.construct t vs))

  -- an impure one is answered as a pure one is
  call_purely : (t i : ℕ) (vs : Values) → (facts.multi t ≡ false → answered (slice_get done i) ≡ c.construct t vs)
      → construct_held facts c done t (suc i) vs ≡ construct_held facts c done t zero vs
  call_purely t i vs f = go (facts.multi t) refl
    where
      go : (b : Bool) → facts.multi t ≡ b → construct_held facts c done t (suc i) vs ≡ construct_held facts c done t zero vs
      go true e = rw e refl
      go false e = rw e (ap (constructed (facts.partial t)) (f e))

  -- where arguments have values
  asked_purely : (t i : ℕ) (g : Got Values) → ((vs : Values) → g ≡ gives vs → facts.multi t ≡ false → answered (slice_get done i) ≡ c.construct t vs)
      → ask (construct_held facts c done t (suc i)) g ≡ ask (construct_held facts c done t zero) g
  asked_purely t i unknown f = refl
  asked_purely t i fails f = refl
  asked_purely t i (gives vs) f = call_purely t i vs (f vs refl)

  -- An impure call holds what a pure one does.
  pub held_purely : (s : Site) → AreAsFunctions facts c args done s → val s ≡ val (as_pure s)
  held_purely (bool_site b ty) h = refl
  held_purely (int_site n ty) h = refl
  held_purely (prim_site n) h = refl
  held_purely (argument i) h = refl
  held_purely (extractor_call t s) h = refl
  held_purely (constructor_call t ss zero) h = refl
  held_purely (constructor_call t ss (suc i)) h =
      asked_purely t i (values facts c args done ss) (λ vs e m. h t ss i vs (inl refl) m e)
  held_purely (iterator s) h = refl
  held_purely (make_variant ty k ss) h = refl
  held_purely (match_variant s k i) h = refl
  held_purely (make_struct ty ss) h = refl
  held_purely (extract_struct s i) h = refl
  held_purely (make_some s) h = refl
  held_purely (match_some s) h = refl
  held_purely (match_tuple s i) h = refl

  mutual
    -- functions answer each call
    all_known : (s : Site) → AreAsFunctions facts c args done s → IsAnswered facts c args done s
    all_known (bool_site b ty) h = tt
    all_known (int_site n ty) h = tt
    all_known (prim_site n) h = tt
    all_known (argument i) h = tt
    all_known (extractor_call t s) h = (all_known s (λ u us i vs k. h u us i vs (inr k)), λ v e. extract_known t v)
    all_known (constructor_call t ss zero) h = (each_known ss (λ u us i vs k. h u us i vs (inr k)), λ vs e. construct_known t vs)
    all_known (constructor_call t ss (suc j)) h = (
      each_known ss (λ u us i vs k. h u us i vs (inr k)),
      λ vs e q. construct_known t vs (sym (call_purely t j vs (λ m. h t ss j vs (inl refl) m e)) ∙ q),
    )
    all_known (iterator s) h = all_known s (λ u us i vs k. h u us i vs (inr k))
    all_known (make_variant ty k ss) h = each_known ss (λ u us i vs m. h u us i vs (inr m))
    all_known (match_variant s k j) h = all_known s (λ u us i vs m. h u us i vs (inr m))
    all_known (make_struct ty ss) h = each_known ss (λ u us i vs k. h u us i vs (inr k))
    all_known (extract_struct s j) h = all_known s (λ u us i vs k. h u us i vs (inr k))
    all_known (make_some s) h = all_known s (λ u us i vs k. h u us i vs (inr k))
    all_known (match_some s) h = all_known s (λ u us i vs k. h u us i vs (inr k))
    all_known (match_tuple s j) h = all_known s (λ u us i vs k. h u us i vs (inr k))

    -- so in sites
    each_known : (ss : Sites) → ((t : ℕ) (us : Sites) (i : ℕ) (vs : Values) → IsSubtreeOfOne (constructor_call t us (suc i)) ss
        → facts.multi t ≡ false → values facts c args done us ≡ gives vs → answered (slice_get done i) ≡ c.construct t vs)
        → AreAnswered facts c args done ss
    each_known no_sites h = tt
    each_known (more_sites s ss) h = (all_known s (λ u us i vs k. h u us i vs (inl k)), each_known ss (λ u us i vs k. h u us i vs (inr k)))

  -- Functions answer each site.
  pub site_known : (s : Site) → AreAsFunctions facts c args done s → val s ≢ unknown
  site_known s h = known facts c args done s (all_known s h)
