-- What holds of the calls that a rule's patterns and if-lets make, and passes on, holds of all that follows from its demands.
use Rattle.std.proofs.Common.{◌≡◌, ℕ, zero, suc, ◌==◌, List, [], ◌∷◌, Bool, true, false, inl, inr, refl}
use Rattle.isle_rules.specs.TypedRules.{TypedPattern, typed_bind, typed_var, typed_bool, typed_int, typed_prim, typed_term, typed_wildcard}
use Rattle.isle_rules.specs.TypedRules.{typed_and, TypedPatterns, no_typed, more_typed, TypedIfLet, TypedRule}
use Rattle.isle_meaning.specs.Facts.{TermShape, variant_shape, struct_shape, declared_shape, TermFacts, patterns}
use Rattle.isle_meaning.specs.Words.{set}
use Rattle.isle_meaning.specs.Sites.{Site, bool_site, int_site, prim_site, argument, extractor_call, constructor_call, iterator}
use Rattle.isle_meaning.specs.Sites.{make_variant, match_variant, make_struct, extract_struct, make_some, match_some, match_tuple}
use Rattle.isle_meaning.specs.Sites.{Sites, no_sites, more_sites, extract_site, output}
use Rattle.isle_meaning.specs.AboutSites.Parts.{parts_of, IsOneOf, SpeaksOf}
use Rattle.isle_meaning.specs.Demands.{Demand, equal, extractor_demands, opens, parts, bound, bound_all, demands, demands_all, contents}
use Rattle.isle_meaning.specs.Demands.{contents_all, iflet_site, vars_of, iflets_bound, iflets_demands, nothing, args_bound, demands_of}
use Rattle.isle_meaning.specs.Derived.{Derived, demanded, flipped, chained, shared, like_variant, like_struct}
use Rattle.isle_meaning.specs.Holds.{Each}
use Rattle.isle_meaning.specs.Scopes.{OfCall, OfCalls, OfAllCalls, OfIfLets}
use Rattle.isle_meaning.specs.Demands.{DemandOf}
use Rattle.isle_meaning.proofs.Matching.Basics.{each_append}
use Rattle.isle_meaning.proofs.Matching.Sorting.{among}
use Rattle.isle_meaning.proofs.Sites.Parts.{OfSubtrees, part_of, of_whole, of_one}

-- it passes down to parts, and up to fields, outputs, contents and values of multi calls
pub record IsCarried (A : Site → Type 0) : Type 0 where
  pub down : (s u : Site) → A s → IsOneOf (parts_of s) u → A u
  pub argument : (i : ℕ) → A (argument i)
  pub nothing : (k : ℕ) → A (nothing k)
  pub variant : (s : Site) (k i : ℕ) → A s → A (match_variant s k i)
  pub struct : (s : Site) (i : ℕ) → A s → A (extract_struct s i)
  pub content : (s : Site) → A s → A (match_some s)
  pub item : (s : Site) → A s → A (iterator s)
  pub output : (s : Site) (i : ℕ) → A s → A (match_tuple s i)

-- this holds of all sites but calls and what is made
pub record IsOfOthers (P : Site → Type 0) : Type 0 where
  pub argument : (i : ℕ) → P (argument i)
  pub nothing : (k : ℕ) → P (nothing k)
  pub variant : (s : Site) (k i : ℕ) → P (match_variant s k i)
  pub struct : (s : Site) (i : ℕ) → P (extract_struct s i)
  pub content : (s : Site) → P (match_some s)
  pub item : (s : Site) → P (iterator s)
  pub output : (s : Site) (i : ℕ) → P (match_tuple s i)

-- What holds of others, and is asked of each subtree, passes on.
pub subtrees_carry : (P : Site → Type 0) → IsOfOthers P → IsCarried (OfSubtrees P)
subtrees_carry P o = record {
  down = part_of P;
  argument = λ i. of_whole P (argument i) (o.argument i) (λ u m. absurd m);
  nothing = λ k. of_whole P (nothing k) (o.nothing k) (λ u m. absurd m);
  variant = λ s k i h. of_whole P (match_variant s k i) (o.variant s k i) (λ u m. of_one P s u h m);
  struct = λ s i h. of_whole P (extract_struct s i) (o.struct s i) (λ u m. of_one P s u h m);
  content = λ s h. of_whole P (match_some s) (o.content s) (λ u m. of_one P s u h m);
  item = λ s h. of_whole P (iterator s) (o.item s) (λ u m. of_one P s u h m);
  output = λ s i h. of_whole P (match_tuple s i) (o.output s i) (λ u m. of_one P s u h m);
}

-- what is set everywhere
set_carried : (A : Site → Type 0) (f : ℕ → Site) (k : ℕ) (x : Site) → ((j : ℕ) → A (f j)) → A x → (j : ℕ) → A (set f k x j)
set_carried A f k x h p j = go (j == k) refl
  where
    go : (b : Bool) → (j == k) ≡ b → A (set f k x j)
    go true e = rw e p
    go false e = rw e (h j)

module _ (facts : TermFacts) (A : Site → Type 0) (carried : IsCarried A) where
  mutual
    -- of what is looked into on the way
    contents_carried : (s : Site) → A s → Each (SpeaksOf A) (contents s)
    contents_carried (bool_site b ty) h = tt
    contents_carried (int_site n ty) h = tt
    contents_carried (prim_site n) h = tt
    contents_carried (argument i) h = tt
    contents_carried (extractor_call t s) h = contents_carried s (carried.down (extractor_call t s) s h (inl refl))
    contents_carried (constructor_call t ss i) h = all_carried ss (λ u m. carried.down (constructor_call t ss i) u h m)
    contents_carried (iterator s) h = contents_carried s (carried.down (iterator s) s h (inl refl))
    contents_carried (make_variant ty k ss) h = all_carried ss (λ u m. carried.down (make_variant ty k ss) u h m)
    contents_carried (match_variant s k i) h = contents_carried s (carried.down (match_variant s k i) s h (inl refl))
    contents_carried (make_struct ty ss) h = all_carried ss (λ u m. carried.down (make_struct ty ss) u h m)
    contents_carried (extract_struct s i) h = contents_carried s (carried.down (extract_struct s i) s h (inl refl))
    contents_carried (make_some s) h = contents_carried s (carried.down (make_some s) s h (inl refl))
    contents_carried (match_some s) h = let k = carried.down (match_some s) s h (inl refl) in (k, contents_carried s k)
    contents_carried (match_tuple s i) h = contents_carried s (carried.down (match_tuple s i) s h (inl refl))

    -- in sites
    all_carried : (ss : Sites) → ((u : Site) → IsOneOf ss u → A u) → Each (SpeaksOf A) (contents_all ss)
    all_carried no_sites h = tt
    all_carried (more_sites s ss) h =
        each_append (SpeaksOf A) (contents s) (contents_all ss) (contents_carried s (h s (inl refl))) (all_carried ss (λ u m. h u (inr m)))

  -- of what an extractor gives
  extract_carried : (m b : Bool) (s : Site) → A s → A (extract_site m b s)
  extract_carried true b s h = carried.item s h
  extract_carried false true s h = h
  extract_carried false false s h = carried.content s h

  -- of its outputs
  output_carried : (n : ℕ) (s : Site) (i : ℕ) → A s → A (output n s i)
  output_carried zero s i h = carried.output s i h
  output_carried (suc zero) s i h = h
  output_carried (suc (suc n)) s i h = carried.output s i h

  -- of the sites of a pattern's parts
  pub parts_carried : (shape : TermShape) (t n : ℕ) (s : Site) (i : ℕ) → OfCall A shape t s → A s → A (parts facts shape t n s i)
  parts_carried (variant_shape k) t n s i q h = carried.variant s k i h
  parts_carried struct_shape t n s i q h = carried.struct s i h
  parts_carried declared_shape t n s i q h =
      output_carried n (extract_site (facts.multi t) (facts.infallible t) (extractor_call t s)) i
      (extract_carried (facts.multi t) (facts.infallible t) (extractor_call t s) q)

  -- of what a pattern demands of its own site
  opens_carried : (shape : TermShape) (ty t n : ℕ) (s : Site) → OfCall A shape t s → A s → Each (SpeaksOf A) (opens facts shape ty t n s)
  opens_carried (variant_shape k) ty t n s q h = (h, tt)
  opens_carried struct_shape ty t n s q h = (h, tt)
  opens_carried declared_shape ty t n s q h = go (facts.multi t) (facts.infallible t)
    where
      go : (m b : Bool) → Each (SpeaksOf A) (extractor_demands m b (extractor_call t s))
      go true b = tt
      go false true = tt
      go false false = (q, tt)

  mutual
    -- Of what a pattern demands and binds.
    pub pattern_carries : (p : TypedPattern) (s : Site) (vars : ℕ → Site) → OfCalls facts A p s → ((k : ℕ) → A (vars k)) → A s
        → Each (SpeaksOf A) (demands facts p s vars) × ((k : ℕ) → A (bound facts p s vars k))
    pattern_carries (typed_bind ty j p) s vars q v h =
        let r = pattern_carries p s vars q v h in (r.0, set_carried A (bound facts p s vars) j s (r.1) h)
    pattern_carries (typed_var ty k) s vars q v h = (((h, v k), tt), v)
    pattern_carries (typed_bool ty b) s vars q v h = ((h, tt), v)
    pattern_carries (typed_int ty n) s vars q v h = ((h, tt), v)
    pattern_carries (typed_prim ty n) s vars q v h = ((h, tt), v)
    pattern_carries (typed_term ty t ps) s vars q v h =
        let r = patterns_carry ps (parts facts (facts.shape t) t (patterns ps) s) vars (q.1) v
        (λ i. parts_carried (facts.shape t) t (patterns ps) s i (q.0) h) in (
          each_append (SpeaksOf A) (opens facts (facts.shape t) ty t (patterns ps) s) _
              (opens_carried (facts.shape t) ty t (patterns ps) s (q.0) h) (r.0),
          r.1,
        )
    pattern_carries (typed_wildcard ty) s vars q v h = (tt, v)
    pattern_carries (typed_and ty ps) s vars q v h = patterns_carry ps (λ i. s) vars q v (λ i. h)

    -- Of what patterns do.
    pub patterns_carry : (ps : TypedPatterns) (at : ℕ → Site) (vars : ℕ → Site) → OfAllCalls facts A ps at → ((k : ℕ) → A (vars k))
        → ((i : ℕ) → A (at i)) → Each (SpeaksOf A) (demands_all facts ps at vars) × ((k : ℕ) → A (bound_all facts ps at vars k))
    patterns_carry no_typed at vars q v h = (tt, v)
    patterns_carry (more_typed p ps) at vars q v h =
        let r = pattern_carries p (at 0) vars (q.0) v (h 0) in
        let o = patterns_carry ps (λ i. at (suc i)) (bound facts p (at 0) vars) (q.1) (r.1) (λ i. h (suc i)) in
        (each_append (SpeaksOf A) (demands facts p (at 0) vars) _ (r.0) (o.0), o.1)

  -- of what if-lets do
  iflets_carry : (xs : List TypedIfLet) (vars : ℕ → Site) → OfIfLets facts A xs vars → ((k : ℕ) → A (vars k))
      → Each (SpeaksOf A) (iflets_demands facts xs vars) × ((k : ℕ) → A (iflets_bound facts xs vars k))
  iflets_carry [] vars q v = (tt, v)
  iflets_carry (x ∷ xs) vars q v =
      let r = pattern_carries x.pattern (iflet_site facts vars x) vars (q.1) v (q.0) in
      let o = iflets_carry xs (bound facts x.pattern (iflet_site facts vars x) vars) (q.2) (r.1) in (
        each_append (SpeaksOf A) (contents (iflet_site facts vars x)) _ (contents_carried (iflet_site facts vars x) (q.0))
            (each_append (SpeaksOf A) (demands facts x.pattern (iflet_site facts vars x) vars) _ (r.0) (o.0)),
        o.1,
      )

  -- Of what a rule's variables stand for.
  pub variables_carry : (rule : TypedRule) → OfAllCalls facts A rule.args argument → OfIfLets facts A rule.iflets (args_bound facts rule)
      → (k : ℕ) → A (vars_of facts rule k)
  variables_carry rule h k =
      let r = patterns_carry rule.args argument nothing h carried.nothing carried.argument in
      (iflets_carry rule.iflets (args_bound facts rule) k (r.1)).1

  -- Of what follows from demands.
  pub derived_carries : (D : Demand → Type 0) → ((d : Demand) → D d → SpeaksOf A d) → (d : Demand) → Derived D d → SpeaksOf A d
  derived_carries D f d (demanded h) = f d h
  derived_carries D f d (flipped {s = s} {u = u} h) = let g = derived_carries D f (equal s u) h in (g.1, g.0)
  derived_carries D f d (chained {s = s} {u = u} {w = w} h k) =
      let g = derived_carries D f (equal s u) h in let l = derived_carries D f (equal u w) k in (g.0, l.1)
  derived_carries D f d (shared {s = s} {u = u} {c = e} h k) = (derived_carries D f (equal s u) h).1
  derived_carries D f d (like_variant {s = s} {u = u} {ty = t} {k = k} {n = n} {i = i} h g l) =
      let o = derived_carries D f (equal s u) h in (carried.variant s k i (o.0), carried.variant u k i (o.1))
  derived_carries D f d (like_struct {s = s} {u = u} {ty = t} {n = n} {i = i} h g l) =
      let o = derived_carries D f (equal s u) h in (carried.struct s i (o.0), carried.struct u i (o.1))

  -- Of what follows from a rule's.
  pub rule_carries : (rule : TypedRule) → OfAllCalls facts A rule.args argument → OfIfLets facts A rule.iflets (args_bound facts rule)
      → (d : Demand) → Derived (DemandOf facts rule) d → SpeaksOf A d
  rule_carries rule h k d e =
      let r = patterns_carry rule.args argument nothing h carried.nothing carried.argument in
      let o = iflets_carry rule.iflets (args_bound facts rule) k (r.1) in
      derived_carries (DemandOf facts rule) (among (SpeaksOf A) (demands_of facts rule)
      (each_append (SpeaksOf A) (demands_all facts rule.args argument nothing) _ (r.0) (o.0))) d e

-- where this holds of each extractor's call
module _ (facts : TermFacts) (P : Site → Type 0) (carried : IsCarried (OfSubtrees P)) (opened : (t : ℕ) (s : Site) → P (extractor_call t s)) where
  -- of the subtrees of one on such a site
  call_carried : (shape : TermShape) (t : ℕ) (s : Site) → OfSubtrees P s → OfCall (OfSubtrees P) shape t s
  call_carried (variant_shape k) t s h = tt
  call_carried struct_shape t s h = tt
  call_carried declared_shape t s h = of_whole P (extractor_call t s) (opened t s) (λ u m. of_one P s u h m)

  mutual
    -- of those of a pattern
    calls_carried : (p : TypedPattern) (s : Site) → OfSubtrees P s → OfCalls facts (OfSubtrees P) p s
    calls_carried (typed_bind ty k p) s h = calls_carried p s h
    calls_carried (typed_var ty k) s h = tt
    calls_carried (typed_bool ty b) s h = tt
    calls_carried (typed_int ty n) s h = tt
    calls_carried (typed_prim ty n) s h = tt
    calls_carried (typed_term ty t ps) s h =
        let q = call_carried (facts.shape t) t s h in
        (q, all_calls_carried ps _ (λ i. parts_carried facts (OfSubtrees P) carried (facts.shape t) t (patterns ps) s i q h))
    calls_carried (typed_wildcard ty) s h = tt
    calls_carried (typed_and ty ps) s h = all_calls_carried ps (λ i. s) (λ i. h)

    -- and of patterns
    all_calls_carried : (ps : TypedPatterns) (at : ℕ → Site) → ((i : ℕ) → OfSubtrees P (at i)) → OfAllCalls facts (OfSubtrees P) ps at
    all_calls_carried no_typed at h = tt
    all_calls_carried (more_typed p ps) at h = (calls_carried p (at 0) (h 0), all_calls_carried ps (λ i. at (suc i)) (λ i. h (suc i)))

  -- Of those of a rule's patterns.
  pub args_carried : (rule : TypedRule) → OfAllCalls facts (OfSubtrees P) rule.args argument
  args_carried rule = all_calls_carried rule.args argument carried.argument

  -- the expressions of if-lets pass it on from their variables
  abbrev pub PassOn : List TypedIfLet → Type 0
  PassOn [] = Unit {0}
  PassOn (x ∷ xs) = ((vars : ℕ → Site) → ((k : ℕ) → OfSubtrees P (vars k)) → OfSubtrees P (iflet_site facts vars x)) × PassOn xs

  -- of those of if-lets
  iflets_carried : (xs : List TypedIfLet) (vars : ℕ → Site) → ((k : ℕ) → OfSubtrees P (vars k)) → PassOn xs
      → OfIfLets facts (OfSubtrees P) xs vars
  iflets_carried [] vars v h = tt
  iflets_carried (x ∷ xs) vars v h =
      let s = (h.0) vars v in
      let q = calls_carried x.pattern (iflet_site facts vars x) s in
      let r = pattern_carries facts (OfSubtrees P) carried x.pattern (iflet_site facts vars x) vars q v s in
      (s, q, iflets_carried xs (bound facts x.pattern (iflet_site facts vars x) vars) (r.1) (h.1))

  -- Of those of a rule's.
  pub lets_carried : (rule : TypedRule) → PassOn rule.iflets → OfIfLets facts (OfSubtrees P) rule.iflets (args_bound facts rule)
  lets_carried rule h =
      let r = patterns_carry facts (OfSubtrees P) carried rule.args argument nothing (args_carried rule) carried.nothing carried.argument in
      iflets_carried rule.iflets (args_bound facts rule) (r.1) h
