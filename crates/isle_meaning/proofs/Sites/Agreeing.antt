-- What sites hold under completions that agree, and what is known of sites by what is known of their parts.
use Rattle.std.proofs.Common.{◌≡◌, ◌≢◌, inl, inr, ℕ, zero, suc, Bool, true, false, List, [], ◌∷◌, Option, refl, ◌∙◌, ap, subst, sym}
use Rattle.std.specs.Prelude.{if◌then◌else◌}
use Rattle.isle_trees.specs.Answers.{HasValue}
use Rattle.isle_meaning.specs.Got.{Got, unknown, fails, gives}
use Rattle.isle_meaning.specs.Values.{Value, Values}
use Rattle.isle_meaning.specs.Values.{no_values, more_values, nth, nth_of, more, ask}
use Rattle.isle_meaning.specs.Facts.{TermFacts}
use Rattle.isle_meaning.specs.Sites.{Site, bool_site, int_site, prim_site, argument, extractor_call, constructor_call, iterator}
use Rattle.isle_meaning.specs.Sites.{make_variant, match_variant, make_struct, extract_struct, make_some, match_some, match_tuple}
use Rattle.isle_meaning.specs.Sites.{Sites, no_sites, more_sites}
use Rattle.isle_meaning.specs.AboutSites.Parts.{parts_of, IsOneOf}
use Rattle.isle_meaning.specs.Answers.{Completion, answer_of}
use Rattle.isle_meaning.specs.Held.{Held, held_value, held_outputs, held_none, held_some, held_answers, variant_field, struct_field}
use Rattle.isle_meaning.specs.Held.{content_of, output_of, held, plain, plain_of, extracted, constructed, extract_held, construct_held}
use Rattle.isle_meaning.specs.Held.{item_of, value, values}
use Rattle.isle_meaning.specs.AboutSites.Agreeing.{AgreeIfKnown, AgreeOnCalls, IsOpenCall}
use Rattle.isle_meaning.specs.Laws.Sites.{CompletionsAgreeOnSites, SitesAreStrict, KnownIsOfKnown, UnknownSitesAreOpenCalls}
use Rattle.isle_meaning.proofs.Chains.Unique.{known_more, known_ask}
use Rattle.isle_meaning.proofs.Matching.Basics.{ask_gives, plain_gives, more_gives, more_unknown}
use Rattle.isle_meaning.proofs.Matching.Known.{known}
use Rattle.isle_meaning.proofs.Sites.Parts.{of_only}

-- ---- completions that agree

-- what is one agrees with itself
pub same_self : {A : Type 0} (g : Got A) → AgreeIfKnown g g
same_self g a b = refl

-- what is made of something that isn't known isn't known
pub same_ask : {A B : Type 0} (f k : A → Got B) (g h : Got A) → ((x : A) → AgreeIfKnown (f x) (k x)) → AgreeIfKnown g h
    → AgreeIfKnown (ask f g) (ask k h)
same_ask f k unknown h e s a b = absurd (a refl)
same_ask f k g unknown e s a b = absurd (b refl)
same_ask f k fails h e s a b = let q = s (λ p. cc) (λ p. b (ap (ask k) p)) in ap (ask k) q
same_ask f k (gives x) h e s a b =
    let q = s (λ p. cc) (λ p. b (ap (ask k) p)) in
    ap (ask k) q ∙ e x a (λ p. b (ap (ask k) q ∙ p))

-- a value before values
pub same_more : (g h : Got Value) (gs hs : Got Values) → AgreeIfKnown g h → AgreeIfKnown gs hs → AgreeIfKnown (more g gs) (more h hs)
same_more g h gs hs s t a b =
    let p = s (λ e. a (ap (λ (x : Got Value). more x gs) e)) (λ e. b (ap (λ (x : Got Value). more x hs) e)) in
    let q = t (λ e. a (ap (more g) e ∙ more_unknown g)) (λ e. b (ap (more h) e ∙ more_unknown h)) in
    ap (λ (x : Got Value). more x hs) p ∙ ap (more g) q

-- an extractor's answer
same_extracted : (i : Bool) (g h : Got Values) → AgreeIfKnown g h → AgreeIfKnown (extracted i g) (extracted i h)
same_extracted i g h s a b = ap (extracted i) (s (λ e. a (ap (extracted i) e)) (λ e. b (ap (extracted i) e)))

-- a constructor's
same_constructed : (i : Bool) (g h : Got Value) → AgreeIfKnown g h → AgreeIfKnown (constructed i g) (constructed i h)
same_constructed i g h s a b = ap (constructed i) (s (λ e. a (ap (constructed i) e)) (λ e. b (ap (constructed i) e)))

-- one of two
same_if : {A : Type 0} (m : Bool) (g h k l : Got A) → AgreeIfKnown g h → AgreeIfKnown k l
    → AgreeIfKnown (if m then g else k) (if m then h else l)
same_if true g h k l s t = s
same_if false g h k l s t = t

-- a value that is held
pub same_held : (g h : Got Value) → AgreeIfKnown g h → AgreeIfKnown (held g) (held h)
same_held g h s = same_ask _ _ g h (λ x. same_self _) s

-- what is held as a value
pub same_plain : (g h : Got Held) → AgreeIfKnown g h → AgreeIfKnown (plain g) (plain h)
same_plain g h s = same_ask _ _ g h (λ x. same_self _) s

module _ (facts : TermFacts) (c d : Completion) (args : Values) (done : List (Option Value)) (a : AgreeOnCalls c d) where
  -- an answer, pure or not
  same_answer : (t i : ℕ) (vs : Values) → AgreeIfKnown (answer_of c done t i vs) (answer_of d done t i vs)
  same_answer t zero vs = a.construct t vs
  same_answer t (suc i) vs = same_self _

  -- an extractor's call
  same_extract : (t : ℕ) (v : Value) → AgreeIfKnown (extract_held facts c t v) (extract_held facts d t v)
  same_extract t v = same_if (facts.multi t) _ _ _ _ (same_ask _ _ _ _ (λ x. same_self _) (a.extracts t v))
      (same_extracted (facts.infallible t) _ _ (a.extract t v))

  -- a constructor's
  same_construct : (t i : ℕ) (vs : Values) → AgreeIfKnown (construct_held facts c done t i vs) (construct_held facts d done t i vs)
  same_construct t i vs = same_if (facts.multi t) _ _ _ _ (same_ask _ _ _ _ (λ x. same_self _) (a.constructs t vs))
      (same_constructed (facts.partial t) _ _ (same_answer t i vs))

  mutual
    -- A site that both know holds the same.
    pub agrees : (s : Site) → AgreeIfKnown (value facts c args done s) (value facts d args done s)
    agrees (bool_site b ty) = same_self _
    agrees (int_site n ty) = same_self _
    agrees (prim_site n) = same_self _
    agrees (argument i) = same_self _
    agrees (extractor_call t s) = same_ask _ _ _ _ (λ x. same_extract t x) (same_plain _ _ (agrees s))
    agrees (constructor_call t ss i) = same_ask _ _ _ _ (λ x. same_construct t i x) (agree_all ss)
    agrees (iterator s) = same_ask _ _ _ _ (λ x. rw (a.place s) (same_self _)) (agrees s)
    agrees (make_variant ty k ss) = same_held _ _ (same_ask _ _ _ _ (λ x. same_self _) (agree_all ss))
    agrees (match_variant s k i) = same_ask _ _ _ _ (λ x. same_self _) (same_plain _ _ (agrees s))
    agrees (make_struct ty ss) = same_held _ _ (same_ask _ _ _ _ (λ x. same_self _) (agree_all ss))
    agrees (extract_struct s i) = same_ask _ _ _ _ (λ x. same_self _) (same_plain _ _ (agrees s))
    agrees (make_some s) = same_ask _ _ _ _ (λ x. same_self _) (agrees s)
    agrees (match_some s) = same_ask _ _ _ _ (λ x. same_self _) (agrees s)
    agrees (match_tuple s i) = same_ask _ _ _ _ (λ x. same_self _) (agrees s)

    -- So do sites.
    pub agree_all : (ss : Sites) → AgreeIfKnown (values facts c args done ss) (values facts d args done ss)
    agree_all no_sites = same_self _
    agree_all (more_sites s ss) = same_more _ _ _ _ (same_plain _ _ (agrees s)) (agree_all ss)

pub completions_agree_on_sites : CompletionsAgreeOnSites
completions_agree_on_sites facts c d args done a s = agrees facts c d args done a s

-- ---- what is known

-- what isn't known is made of what is where the making is open
ask_open : {A B : Type 0} (f : A → Got B) (g : Got A) → g ≢ unknown → ask f g ≡ unknown → (x : A) × (g ≡ gives x) × (f x ≡ unknown)
ask_open f unknown k e = absurd (k refl)
ask_open f fails k e = cc
ask_open f (gives x) k e = (x, refl, e)

-- what is made of the unknown isn't known
ask_part : {A B : Type 0} (f : A → Got B) (g : Got A) → ask f g ≢ unknown → g ≢ unknown
ask_part f g k e = k (ap (ask f) e)

-- it is known whether something is a value
plain_of_known : (h : Held) → plain_of h ≢ unknown
plain_of_known (held_value v) e = cc
plain_of_known (held_outputs vs) e = cc
plain_of_known held_none e = cc
plain_of_known (held_some h) e = cc
plain_of_known (held_answers l) e = cc

-- a content
content_known : (h : Held) → content_of h ≢ unknown
content_known (held_value v) e = cc
content_known (held_outputs vs) e = cc
content_known held_none e = cc
content_known (held_some h) e = cc
content_known (held_answers l) e = cc

-- a list's item
items_known : (l : List Values) (i : ℕ) → nth_of l i ≢ unknown
items_known [] i e = cc
items_known (x ∷ xs) zero e = cc
items_known (x ∷ xs) (suc i) e = items_known xs i e

-- one value of a multi call
item_known : (i : ℕ) (h : Held) → item_of i h ≢ unknown
item_known i (held_value v) e = cc
item_known i (held_outputs vs) e = cc
item_known i held_none e = cc
item_known i (held_some h) e = cc
item_known i (held_answers l) e = known_ask _ (nth_of l i) (λ x q. cc) (items_known l i) e

-- a value that is held is known where it is
held_known : (g : Got Value) → g ≢ unknown → held g ≢ unknown
held_known g k = known_ask _ g (λ x e. cc) k

-- so is what is held as a value
pub plain_known : (g : Got Held) → g ≢ unknown → plain g ≢ unknown
plain_known g k = known_ask plain_of g plain_of_known k

module _ (facts : TermFacts) (c : Completion) where
  -- an argument is known: under these arguments alone it is a site without calls
  nth_known : (vs : Values) (i : ℕ) → held (nth vs i) ≢ unknown
  nth_known vs i = known facts c vs [] (argument i) tt

  -- a variant's field
  variant_known : (k i : ℕ) (v : Value) → variant_field k i v ≢ unknown
  variant_known k i v = known facts c (more_values v no_values) [] (match_variant (argument 0) k i) tt

  -- a struct's
  struct_known : (i : ℕ) (v : Value) → struct_field i v ≢ unknown
  struct_known i v = known facts c (more_values v no_values) [] (extract_struct (argument 0) i) tt

  -- an output
  output_known : (i : ℕ) (h : Held) → output_of i h ≢ unknown
  output_known i (held_value v) e = cc
  output_known i (held_outputs vs) e = nth_known vs i e
  output_known i held_none e = cc
  output_known i (held_some h) e = cc
  output_known i (held_answers l) e = cc

-- values are known where the first and the others are
more_parts : (g : Got Value) (gs : Got Values) → more g gs ≢ unknown → (g ≢ unknown) × (gs ≢ unknown)
more_parts g gs k = ((λ e. k (ap (λ (x : Got Value). more x gs) e)), λ e. k (ap (more g) e ∙ more_unknown g))

module _ (facts : TermFacts) (c : Completion) (args : Values) (done : List (Option Value)) where
  -- what a site holds
  abbrev val : Site → Got Held
  val s = value facts c args done s

  -- sites that are known have known values
  pub values_known : (ss : Sites) → ((u : Site) → IsOneOf ss u → val u ≢ unknown) → values facts c args done ss ≢ unknown
  values_known no_sites k e = cc
  values_known (more_sites s ss) k e =
      known_more _ _ (plain_known _ (k s (inl refl))) (values_known ss (λ u m. k u (inr m))) e

  -- A site made of what is known is open only where it is a call that isn't answered.
  pub open_call : (s : Site) → ((u : Site) → IsOneOf (parts_of s) u → val u ≢ unknown) → val s ≡ unknown → IsOpenCall facts c args done s
  open_call (bool_site b ty) k e = cc
  open_call (int_site n ty) k e = cc
  open_call (prim_site n) k e = cc
  open_call (argument i) k e = absurd (nth_known facts c args i e)
  open_call (extractor_call t s) k e =
      let (v, p, q) = ask_open _ _ (plain_known _ (k s (inl refl))) e in (v, plain_gives (val s) v p, q)
  open_call (constructor_call t ss i) k e = ask_open _ _ (values_known ss k) e
  open_call (iterator s) k e = absurd (known_ask _ _ (item_known (c.place s)) (k s (inl refl)) e)
  open_call (make_variant ty v ss) k e = absurd (held_known _ (known_ask _ _ (λ x q. cc) (values_known ss k)) e)
  open_call (match_variant s v i) k e = absurd (known_ask _ _ (variant_known facts c v i) (plain_known _ (k s (inl refl))) e)
  open_call (make_struct ty ss) k e = absurd (held_known _ (known_ask _ _ (λ x q. cc) (values_known ss k)) e)
  open_call (extract_struct s i) k e = absurd (known_ask _ _ (struct_known facts c i) (plain_known _ (k s (inl refl))) e)
  open_call (make_some s) k e = absurd (known_ask _ _ (λ x q. cc) (k s (inl refl)) e)
  open_call (match_some s) k e = absurd (known_ask _ _ content_known (k s (inl refl)) e)
  open_call (match_tuple s i) k e = absurd (known_ask _ _ (output_known facts c i) (k s (inl refl)) e)

  -- a site that is held as a value has one
  plain_part : (s : Site) (v : Value) → plain (val s) ≡ gives v → HasValue (val s)
  plain_part s v e = (held_value v, plain_gives (val s) v e)

  -- what has a value, made of something, is made of what has
  ask_part_has : {A B : Type 0} (f : A → Got B) (g : Got A) → HasValue (ask f g) → HasValue g
  ask_part_has f g (y, e) = let (x, p, q) = ask_gives f g y e in (x, p)

  -- sites with values have each its own
  pub values_have : (ss : Sites) → HasValue (values facts c args done ss) → (u : Site) → IsOneOf ss u → HasValue (val u)
  values_have no_sites h u m = absurd m
  values_have (more_sites s ss) (vs, e) u m =
      let (x, xs, p, q) = more_gives (plain (val s)) (values facts c args done ss) vs e in elim m [
        | inl same ↦ subst (λ (z : Site). HasValue (val z)) (sym same) (plain_part s x p)
        | inr rest ↦ values_have ss (xs, q) u rest
      ]

  -- a site of one part that is held as a value
  of_plain : {A : Type 0} (f : Value → Got A) (s u : Site) → HasValue (ask f (plain (val s))) → IsOneOf (more_sites s no_sites) u → HasValue (val u)
  of_plain f s u h m =
      let (v, e) = ask_part_has f (plain (val s)) h in of_only (λ (z : Site). HasValue (val z)) s u (plain_part s v e) m

  -- one of one part
  of_held : {A : Type 0} (f : Held → Got A) (s u : Site) → HasValue (ask f (val s)) → IsOneOf (more_sites s no_sites) u → HasValue (val u)
  of_held f s u h m = of_only (λ (z : Site). HasValue (val z)) s u (ask_part_has f (val s) h) m

  -- What has a value is made of what has.
  pub strict : (s u : Site) → IsOneOf (parts_of s) u → HasValue (val s) → HasValue (val u)
  strict (bool_site b ty) u m h = absurd m
  strict (int_site n ty) u m h = absurd m
  strict (prim_site n) u m h = absurd m
  strict (argument i) u m h = absurd m
  strict (extractor_call t s) u m h = of_plain _ s u h m
  strict (constructor_call t ss i) u m h = values_have ss (ask_part_has _ _ h) u m
  strict (iterator s) u m h = of_held _ s u h m
  strict (make_variant ty k ss) u m h = values_have ss (ask_part_has _ _ (ask_part_has _ _ h)) u m
  strict (match_variant s k i) u m h = of_plain _ s u h m
  strict (make_struct ty ss) u m h = values_have ss (ask_part_has _ _ (ask_part_has _ _ h)) u m
  strict (extract_struct s i) u m h = of_plain _ s u h m
  strict (make_some s) u m h = of_held _ s u h m
  strict (match_some s) u m h = of_held _ s u h m
  strict (match_tuple s i) u m h = of_held _ s u h m

  -- sites that are known are known each
  values_parts : (ss : Sites) → values facts c args done ss ≢ unknown → (u : Site) → IsOneOf ss u → val u ≢ unknown
  values_parts no_sites k u m = absurd m
  values_parts (more_sites s ss) k u (inl e) =
      subst (λ (z : Site). val z ≢ unknown) (sym e) (ask_part plain_of (val s) ((more_parts _ _ k).0))
  values_parts (more_sites s ss) k u (inr m) = values_parts ss ((more_parts _ _ k).1) u m

  -- one of one part
  known_only : (s u : Site) → val s ≢ unknown → IsOneOf (more_sites s no_sites) u → val u ≢ unknown
  known_only s u k m = of_only (λ (z : Site). val z ≢ unknown) s u k m

  -- What is known is made of what is known.
  pub known_parts : (s u : Site) → IsOneOf (parts_of s) u → val s ≢ unknown → val u ≢ unknown
  known_parts (bool_site b ty) u m k = absurd m
  known_parts (int_site n ty) u m k = absurd m
  known_parts (prim_site n) u m k = absurd m
  known_parts (argument i) u m k = absurd m
  known_parts (extractor_call t s) u m k = known_only s u (ask_part plain_of _ (ask_part _ _ k)) m
  known_parts (constructor_call t ss i) u m k = values_parts ss (ask_part _ _ k) u m
  known_parts (iterator s) u m k = known_only s u (ask_part _ _ k) m
  known_parts (make_variant ty v ss) u m k = values_parts ss (ask_part _ _ (ask_part _ _ k)) u m
  known_parts (match_variant s v i) u m k = known_only s u (ask_part plain_of _ (ask_part _ _ k)) m
  known_parts (make_struct ty ss) u m k = values_parts ss (ask_part _ _ (ask_part _ _ k)) u m
  known_parts (extract_struct s i) u m k = known_only s u (ask_part plain_of _ (ask_part _ _ k)) m
  known_parts (make_some s) u m k = known_only s u (ask_part _ _ k) m
  known_parts (match_some s) u m k = known_only s u (ask_part _ _ k) m
  known_parts (match_tuple s i) u m k = known_only s u (ask_part _ _ k) m

pub sites_are_strict : SitesAreStrict
sites_are_strict facts c args done s u m h = strict facts c args done s u m h

pub known_is_of_known : KnownIsOfKnown
known_is_of_known facts c args done s u m k = known_parts facts c args done s u m k

pub unknown_sites_are_open_calls : UnknownSitesAreOpenCalls
unknown_sites_are_open_calls facts c args done s k e = open_call facts c args done s k e
