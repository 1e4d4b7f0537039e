-- In what a rule demands and has, each field and content is made by a test, and each value of a multi call is needed.
use Rattle.std.proofs.Common.{◌≡◌, ◌⊎◌, inl, inr, ℕ, zero, suc, ◌<◌, ◌+◌, ◌==◌, List, [], ◌∷◌, ◌++◌, length, Bool, true, false, refl, sym, ap}
use Rattle.std.proofs.Common.{◌∙◌, subst, arith}
use Rattle.isle_rules.specs.TypedRules.{TypedPattern, typed_bind, typed_var, typed_bool, typed_int, typed_prim, typed_term, typed_wildcard}
use Rattle.isle_rules.specs.TypedRules.{typed_and, TypedPatterns, no_typed, more_typed, TypedExpr, built_var, built_bool, built_int}
use Rattle.isle_rules.specs.TypedRules.{built_prim, built_term, built_let, TypedExprs, no_built, more_built, TypedBindings, no_typed_bindings}
use Rattle.isle_rules.specs.TypedRules.{more_typed_bindings, TypedIfLet, TypedRule}
use Rattle.isle_meaning.specs.Facts.{TermShape, variant_shape, struct_shape, declared_shape, TermFacts, patterns}
use Rattle.isle_meaning.specs.Words.{var_word, set, word_of}
use Rattle.isle_meaning.specs.Sites.{Site, bool_site, int_site, prim_site, argument, extractor_call, constructor_call, iterator}
use Rattle.isle_meaning.specs.Sites.{make_variant, match_variant, make_struct, extract_struct, make_some, match_some, match_tuple}
use Rattle.isle_meaning.specs.Sites.{Sites, no_sites, more_sites, answer_site, extract_site, output, site_of}
use Rattle.isle_meaning.specs.AboutSites.Parts.{parts_of, IsOneOf, SpeaksOf}
use Rattle.isle_meaning.specs.Demands.{Demand, constrained, equal, variant_constraint, struct_constraint, some_constraint, extractor_demands}
use Rattle.isle_meaning.specs.Demands.{opens, parts, bound, bound_all, demands, demands_all, contents, contents_all, iflet_site, iflets_bound}
use Rattle.isle_meaning.specs.Demands.{iflets_demands, nothing, args_bound, vars_of, demands_of, impure_of, result_of, some_of, Among}
use Rattle.isle_meaning.specs.Derived.{Derived, demanded, flipped, chained, shared, like_variant, like_struct}
use Rattle.isle_meaning.specs.Holds.{Each}
use Rattle.isle_meaning.specs.Elaborated.{IfLetsNeed}
use Rattle.isle_meaning.specs.Laws.Calls.{CallOf, ExprCalls, ExprsCall, BindingsCall}
use Rattle.isle_meaning.specs.Demands.{DemandOf}
use Rattle.isle_meaning.specs.Needs.{from_on, extract_needs, output_needs, open_needs, needs, needs_all, args_needs, Log, no_log, need}
use Rattle.isle_meaning.specs.Needs.{answer_needs, called, applied, visit, visit_all, visit_lets, iflets_needs, needs_of, IsNeeded}
use Rattle.isle_meaning.proofs.Matching.Basics.{each_append}
use Rattle.isle_meaning.proofs.Matching.Sorting.{among}
use Rattle.isle_meaning.proofs.Matching.Visited.{visited, visit_is_written}
use Rattle.isle_meaning.proofs.Chains.Subtrees.{whole}
use Rattle.isle_meaning.proofs.Sites.Parts.{OfSubtrees, of_only, part_of, of_whole, of_one, EachSite, sites_append, each_needed}

-- a field or content has its test among these demands, and a value of a multi call is one of these sites
abbrev pub IsOwn : (Demand → Type 0) → (Site → Type 0) → Site → Type 0
IsOwn D N (bool_site b ty) = Unit {0}
IsOwn D N (int_site n ty) = Unit {0}
IsOwn D N (prim_site n) = Unit {0}
IsOwn D N (argument i) = Unit {0}
IsOwn D N (extractor_call t s) = Unit {0}
IsOwn D N (constructor_call t ss i) = Unit {0}
IsOwn D N (iterator s) = N (iterator s)
IsOwn D N (make_variant ty k ss) = Unit {0}
IsOwn D N (match_variant s k i) = (ty : ℕ) × (n : ℕ) × D (constrained s (variant_constraint ty k n)) × (i < n)
IsOwn D N (make_struct ty ss) = Unit {0}
IsOwn D N (extract_struct s i) = (ty : ℕ) × (n : ℕ) × D (constrained s (struct_constraint ty n)) × (i < n)
IsOwn D N (make_some s) = Unit {0}
IsOwn D N (match_some s) = D (constrained s some_constraint)
IsOwn D N (match_tuple s i) = Unit {0}

-- and so is each subtree
abbrev pub AreOwn : (Demand → Type 0) → (Site → Type 0) → Site → Type 0
AreOwn D N s = OfSubtrees (IsOwn D N) s

-- A site is.
pub own_itself : (D : Demand → Type 0) (N : Site → Type 0) (s : Site) → AreOwn D N s → IsOwn D N s
own_itself D N s h = h s (whole s)

-- So is a part.
pub own_part : (D : Demand → Type 0) (N : Site → Type 0) (s u : Site) → AreOwn D N s → IsOneOf (parts_of s) u → AreOwn D N u
own_part D N s u h m = part_of (IsOwn D N) s u h m

-- each of these demands is one of all
abbrev Within : List Demand → (Demand → Type 0) → Type 0
Within ds D = (d : Demand) → Among ds d → D d

-- each of these sites is one of all
abbrev AreIn : List Site → (Site → Type 0) → Type 0
AreIn ss N = (s : Site) → IsNeeded ss s → N s

among_left : (d : Demand) (ds es : List Demand) → Among ds d → Among (ds ++ es) d
among_left d [] es h = absurd h
among_left d (x ∷ ds) es (inl e) = inl e
among_left d (x ∷ ds) es (inr h) = inr (among_left d ds es h)

among_right : (d : Demand) (ds es : List Demand) → Among es d → Among (ds ++ es) d
among_right d [] es h = h
among_right d (x ∷ ds) es h = inr (among_right d ds es h)

needed_left : (s : Site) (xs ys : List Site) → IsNeeded xs s → IsNeeded (xs ++ ys) s
needed_left s [] ys h = absurd h
needed_left s (x ∷ xs) ys (inl e) = inl e
needed_left s (x ∷ xs) ys (inr h) = inr (needed_left s xs ys h)

needed_right : (s : Site) (xs ys : List Site) → IsNeeded ys s → IsNeeded (xs ++ ys) s
needed_right s [] ys h = h
needed_right s (x ∷ xs) ys h = inr (needed_right s xs ys h)

-- one of two lists' sites
needed_either : (s : Site) (xs ys : List Site) → IsNeeded (xs ++ ys) s → IsNeeded xs s ⊎ IsNeeded ys s
needed_either s [] ys h = inr h
needed_either s (x ∷ xs) ys (inl e) = inl (inl e)
needed_either s (x ∷ xs) ys (inr h) = elim (needed_either s xs ys h) [ inl k ↦ inl (inr k) | inr k ↦ inr k ]

-- each of two lists'
each_split : (P : Site → Type 0) (ss us : List Site) → EachSite P (ss ++ us) → EachSite P ss × EachSite P us
each_split P [] us h = (tt, h)
each_split P (s ∷ ss) us h = let r = each_split P ss us (h.1) in ((h.0, r.0), r.1)

-- a term's call is of any
any_call : (shape : TermShape) (t : ℕ) → CallOf (λ t. Unit {0}) shape t
any_call (variant_shape k) t = tt
any_call struct_shape t = tt
any_call declared_shape t = tt

-- so is each that an expression has
mutual
  any_calls : (facts : TermFacts) (e : TypedExpr) → ExprCalls facts (λ t. Unit {0}) e
  any_calls facts (built_var ty k) = tt
  any_calls facts (built_bool ty b) = tt
  any_calls facts (built_int ty n) = tt
  any_calls facts (built_prim ty n) = tt
  any_calls facts (built_term ty t es) = (any_call (facts.shape t) t, any_calls_all facts es)
  any_calls facts (built_let ty bs body) = (any_calls_lets facts bs, any_calls facts body)

  any_calls_all : (facts : TermFacts) (es : TypedExprs) → ExprsCall facts (λ t. Unit {0}) es
  any_calls_all facts no_built = tt
  any_calls_all facts (more_built e es) = (any_calls facts e, any_calls_all facts es)

  any_calls_lets : (facts : TermFacts) (bs : TypedBindings) → BindingsCall facts (λ t. Unit {0}) bs
  any_calls_lets facts no_typed_bindings = tt
  any_calls_lets facts (more_typed_bindings k ty e bs) = (any_calls facts e, any_calls_lets facts bs)

module _ (facts : TermFacts) (D : Demand → Type 0) (N : Site → Type 0) where
  -- the site's fields, contents and values are its own
  abbrev A : Site → Type 0
  A = AreOwn D N

  -- the variables stand for such sites
  abbrev AllOwn : (ℕ → Site) → Type 0
  AllOwn vars = (k : ℕ) → A (vars k)

  -- of a site made of such a one
  above : (s : Site) → A s → (u : Site) → IsOneOf (more_sites s no_sites) u → A u
  above s h u m = of_one (IsOwn D N) s u h m

  ds_left : (ds es : List Demand) → Within (ds ++ es) D → Within ds D
  ds_left ds es n d i = n d (among_left d ds es i)

  ds_right : (ds es : List Demand) → Within (ds ++ es) D → Within es D
  ds_right ds es n d i = n d (among_right d ds es i)

  in_left : (xs ys : List Site) → AreIn (xs ++ ys) N → AreIn xs N
  in_left xs ys n s i = n s (needed_left s xs ys i)

  in_right : (xs ys : List Site) → AreIn (xs ++ ys) N → AreIn ys N
  in_right xs ys n s i = n s (needed_right s xs ys i)

  -- one more variable does
  set_own : (vars : ℕ → Site) (j : ℕ) (s : Site) → AllOwn vars → A s → AllOwn (set vars j s)
  set_own vars j s v h k = go (k == j) refl
    where
      go : (b : Bool) → (k == j) ≡ b → A (set vars j s k)
      go true e = rw e h
      go false e = rw e (v k)

  -- an output
  output_own : (n : ℕ) (s : Site) (i : ℕ) → A s → A (output n s i)
  output_own zero s i h = of_whole (IsOwn D N) (match_tuple s i) tt (above s h)
  output_own (suc zero) s i h = h
  output_own (suc (suc n)) s i h = of_whole (IsOwn D N) (match_tuple s i) tt (above s h)

  -- what an extractor gives
  extract_own : (m b : Bool) (s : Site) → Within (extractor_demands m b s) D → AreIn (extract_needs m b s) N → A s → A (extract_site m b s)
  extract_own true b s w n h = of_whole (IsOwn D N) (iterator s) (n (iterator s) (inl refl)) (above s h)
  extract_own false true s w n h = h
  extract_own false false s w n h = of_whole (IsOwn D N) (match_some s) (w (constrained s some_constraint) (inl refl)) (above s h)

  -- what an extractor demands
  extractor_own : (m b : Bool) (s : Site) → A s → Each (SpeaksOf A) (extractor_demands m b s)
  extractor_own true b s h = tt
  extractor_own false true s h = tt
  extractor_own false false s h = (h, tt)

  -- an extractor's call
  call_own : (t : ℕ) (s : Site) → A s → A (extractor_call t s)
  call_own t s h = of_whole (IsOwn D N) (extractor_call t s) tt (above s h)

  -- what a pattern demands of its own site
  opens_own : (shape : TermShape) (ty t n : ℕ) (s : Site) → A s → Each (SpeaksOf A) (opens facts shape ty t n s)
  opens_own (variant_shape k) ty t n s h = (h, tt)
  opens_own struct_shape ty t n s h = (h, tt)
  opens_own declared_shape ty t n s h = extractor_own (facts.multi t) (facts.infallible t) (extractor_call t s) (call_own t s h)

  -- the sites of a pattern's parts
  parts_own : (shape : TermShape) (ty t n : ℕ) (s : Site) → Within (opens facts shape ty t n s) D → AreIn (open_needs facts shape t n s) N → A s
      → (i : ℕ) → i < n → A (parts facts shape t n s i)
  parts_own (variant_shape k) ty t n s w m h i l =
      of_whole (IsOwn D N) (match_variant s k i) (ty, n, w _ (inl refl), l) (above s h)
  parts_own struct_shape ty t n s w m h i l = of_whole (IsOwn D N) (extract_struct s i) (ty, n, w _ (inl refl), l) (above s h)
  parts_own declared_shape ty t n s w m h i l =
      output_own n _ i (extract_own (facts.multi t) (facts.infallible t) (extractor_call t s) w
      (in_left (extract_needs (facts.multi t) (facts.infallible t) (extractor_call t s)) _ (λ u j. m u (inr j))) (call_own t s h))

  -- fields, from one on
  fields_own : (f : ℕ → Site) (i n : ℕ) → ((j : ℕ) → i < suc j → j < i + n → A (f j)) → EachSite A (from_on f i n)
  fields_own f i zero h = tt
  fields_own f i (suc n) h = (h i (omega arith) (omega arith), fields_own f (suc i) n (λ j p q. h j (omega arith) (omega arith)))

  -- outputs
  outputs_own : (n : ℕ) (s : Site) → A s → EachSite A (output_needs n s)
  outputs_own zero s h = tt
  outputs_own (suc zero) s h = tt
  outputs_own (suc (suc n)) s h = fields_own (match_tuple s) 0 (suc (suc n)) (λ j p q. of_whole (IsOwn D N) (match_tuple s j) tt (above s h))

  -- what an extractor needs
  given_own : (m b : Bool) (s : Site) → Within (extractor_demands m b s) D → AreIn (extract_needs m b s) N → A s
      → EachSite A (extract_needs m b s)
  given_own true b s w n h = (extract_own true b s w n h, tt)
  given_own false true s w n h = tt
  given_own false false s w n h = (extract_own false false s w n h, tt)

  -- what a pattern needs at its own site
  open_own : (shape : TermShape) (ty t n : ℕ) (s : Site) → Within (opens facts shape ty t n s) D → AreIn (open_needs facts shape t n s) N → A s
      → EachSite A (open_needs facts shape t n s)
  open_own (variant_shape k) ty t n s w m h = fields_own (match_variant s k) 0 n (λ j p q. parts_own (variant_shape k) ty t n s w m h j (omega arith))
  open_own struct_shape ty t n s w m h = fields_own (extract_struct s) 0 n (λ j p q. parts_own struct_shape ty t n s w m h j (omega arith))
  open_own declared_shape ty t n s w m h =
      let call = call_own t s h in let c = extractor_call t s in
      let mid = in_left (extract_needs (facts.multi t) (facts.infallible t) c) _ (λ u j. m u (inr j)) in
      let given = extract_own (facts.multi t) (facts.infallible t) c w mid call in (
        call,
        sites_append A (extract_needs (facts.multi t) (facts.infallible t) c) _ (given_own (facts.multi t) (facts.infallible t) c w mid call)
            (outputs_own n (extract_site (facts.multi t) (facts.infallible t) c) given),
      )

  -- what patterns demand, bind and need
  abbrev Owned : List Demand → (ℕ → Site) → List Site → Type 0
  Owned ds vars ss = Each (SpeaksOf A) ds × AllOwn vars × EachSite A ss

  mutual
    -- what a pattern does
    pattern_own : (p : TypedPattern) (vars : ℕ → Site) (s : Site) → AllOwn vars → A s → Within (demands facts p s vars) D
        → AreIn (needs facts p s) N → Owned (demands facts p s vars) (bound facts p s vars) (needs facts p s)
    pattern_own (typed_bind ty j p) vars s v h w n =
        let (a, b, c) = pattern_own p vars s v h w n in (a, set_own (bound facts p s vars) j s b h, c)
    pattern_own (typed_var ty k) vars s v h w n = (((h, v k), tt), v, tt)
    pattern_own (typed_bool ty b) vars s v h w n = ((h, tt), v, tt)
    pattern_own (typed_int ty m) vars s v h w n = ((h, tt), v, tt)
    pattern_own (typed_prim ty m) vars s v h w n = ((h, tt), v, tt)
    pattern_own (typed_term ty t ps) vars s v h w n =
        let here = opens facts (facts.shape t) ty t (patterns ps) s in
        let own = open_needs facts (facts.shape t) t (patterns ps) s in
        let (a, b, c) = patterns_own ps vars (parts facts (facts.shape t) t (patterns ps) s) v
        (parts_own (facts.shape t) ty t (patterns ps) s (ds_left here _ w) (in_left own _ n) h) (ds_right here _ w) (in_right own _ n) in (
          each_append (SpeaksOf A) here _ (opens_own (facts.shape t) ty t (patterns ps) s h) a,
          b,
          sites_append A own _ (open_own (facts.shape t) ty t (patterns ps) s (ds_left here _ w) (in_left own _ n) h) c,
        )
    pattern_own (typed_wildcard ty) vars s v h w n = (tt, v, tt)
    pattern_own (typed_and ty ps) vars s v h w n = patterns_own ps vars (λ i. s) v (λ i l. h) w n

    -- what patterns do
    patterns_own : (ps : TypedPatterns) (vars : ℕ → Site) (at : ℕ → Site) → AllOwn vars → ((i : ℕ) → i < patterns ps → A (at i))
        → Within (demands_all facts ps at vars) D → AreIn (needs_all facts ps at) N
        → Owned (demands_all facts ps at vars) (bound_all facts ps at vars) (needs_all facts ps at)
    patterns_own no_typed vars at v h w n = (tt, v, tt)
    patterns_own (more_typed p ps) vars at v h w n =
        let first = demands facts p (at 0) vars in
        let (a, b, c) = pattern_own p vars (at 0) v (h 0 (omega arith)) (ds_left first _ w) (in_left (needs facts p (at 0)) _ n) in
        let (d, e, f) = patterns_own ps (bound facts p (at 0) vars) (λ i. at (suc i)) b (λ i l. h (suc i) (omega arith)) (ds_right first _ w)
        (in_right (needs facts p (at 0)) _ n) in
        (each_append (SpeaksOf A) first _ a d, e, sites_append A (needs facts p (at 0)) _ c f)

  -- what patterns need at arguments, from one on
  args_in : (ps : TypedPatterns) (i : ℕ) (at : ℕ → Site) → ((j : ℕ) → at j ≡ argument (i + j)) → AreIn (args_needs facts ps i) N
      → AreIn (needs_all facts ps at) N
  args_in no_typed i at e n s m = n s m
  args_in (more_typed p ps) i at e n s m = elim (needed_either s (needs facts p (at 0)) _ m) [
    | inl k ↦
        let z : at 0 ≡ argument i = e 0 ∙ ap argument (let q : i + 0 ≡ i = omega arith in q) in
        n s (inr (needed_left s (needs facts p (argument i)) _ (subst (λ (x : Site). IsNeeded (needs facts p x) s) z k)))
    | inr k ↦
        args_in ps (suc i) (λ j. at (suc j)) (λ j. e (suc j) ∙ ap argument (let q : i + suc j ≡ suc i + j = omega arith in q))
        (λ u j. n u (inr (needed_right u (needs facts p (argument i)) _ j))) s k
  ]

  -- so are they, and the arguments
  args_own : (ps : TypedPatterns) (i : ℕ) (at : ℕ → Site) → ((j : ℕ) → at j ≡ argument (i + j)) → EachSite A (needs_all facts ps at)
      → EachSite A (args_needs facts ps i)
  args_own no_typed i at e h = tt
  args_own (more_typed p ps) i at e h =
      let z : at 0 ≡ argument i = e 0 ∙ ap argument (let q : i + 0 ≡ i = omega arith in q) in
      let both = each_split A (needs facts p (at 0)) _ h in (
        of_whole (IsOwn D N) (argument i) tt (λ u m. absurd m),
        sites_append A (needs facts p (argument i)) _ (subst (λ (x : Site). EachSite A (needs facts p x)) z (both.0))
            (args_own ps (suc i) (λ j. at (suc j)) (λ j. e (suc j) ∙ ap argument (let q : i + suc j ≡ suc i + j = omega arith in q)) (both.1)),
      )

  -- ---- expressions

  -- what is needed after a call was needed before
  called_keeps : (b : Bool) (t : ℕ) (r : Sites × Log) → AreIn ((called facts b t r).1.needed) N → AreIn (r.1.needed) N
  called_keeps true t r n = in_left (r.1.needed) _ n
  called_keeps false t r n = in_left (r.1.needed) _ n

  -- so after a term
  applied_keeps : (shape : TermShape) (ty t : ℕ) (r : Sites × Log) → AreIn ((applied facts shape ty t r).1.needed) N → AreIn (r.1.needed) N
  applied_keeps (variant_shape k) ty t r n = in_left (r.1.needed) _ n
  applied_keeps struct_shape ty t r n = in_left (r.1.needed) _ n
  applied_keeps declared_shape ty t r n = called_keeps (facts.pure t) t r n

  mutual
    -- so after a visit
    visit_keeps : (e : TypedExpr) (vars : ℕ → Site) (log : Log) → AreIn ((visit facts vars log e).1.needed) N → AreIn log.needed N
    visit_keeps (built_var ty k) vars log n = n
    visit_keeps (built_bool ty b) vars log n = in_left log.needed _ n
    visit_keeps (built_int ty m) vars log n = in_left log.needed _ n
    visit_keeps (built_prim ty m) vars log n = in_left log.needed _ n
    visit_keeps (built_term ty t es) vars log n =
        all_keep es vars log (applied_keeps (facts.shape t) ty t (visit_all facts vars log es) n)
    visit_keeps (built_let ty bs body) vars log n =
        lets_keep bs vars log (visit_keeps body ((visit_lets facts vars log bs).0) ((visit_lets facts vars log bs).1) n)

    -- so after visits of expressions
    all_keep : (es : TypedExprs) (vars : ℕ → Site) (log : Log) → AreIn ((visit_all facts vars log es).1.needed) N → AreIn log.needed N
    all_keep no_built vars log n = n
    all_keep (more_built e es) vars log n = visit_keeps e vars log (all_keep es vars ((visit facts vars log e).1) n)

    -- and of bindings
    lets_keep : (bs : TypedBindings) (vars : ℕ → Site) (log : Log) → AreIn ((visit_lets facts vars log bs).1.needed) N → AreIn log.needed N
    lets_keep no_typed_bindings vars log n = n
    lets_keep (more_typed_bindings k ty e bs) vars log n =
        visit_keeps e vars log (lets_keep bs (set vars k ((visit facts vars log e).0)) ((visit facts vars log e).1) n)

  -- calls of terms with Q, and sites with G whose parts have it, where contents of such calls are demanded
  module _ (Q : ℕ → Type 0) (G : Site → Type 0) (down : (s u : Site) → G s → IsOneOf (parts_of s) u → G u)
      (content : (t : ℕ) (ss : Sites) (i : ℕ) → Q t → facts.partial t ≡ true → G (match_some (constructor_call t ss i))
      → D (constrained (constructor_call t ss i) some_constraint)) where
    -- a site with it is its own
    abbrev Gives : Site → Type 0
    Gives s = G s → A s

    -- the variables stand for such sites
    abbrev AllGive : (ℕ → Site) → Type 0
    AllGive vars = (k : ℕ) → Gives (vars k)

    -- one more variable does
    set_gives : (vars : ℕ → Site) (j : ℕ) (s : Site) → AllGive vars → Gives s → AllGive (set vars j s)
    set_gives vars j s v h k = go (k == j) refl
      where
        go : (b : Bool) → (k == j) ≡ b → Gives (set vars j s k)
        go true e = rw e h
        go false e = rw e (v k)

    -- what is made of parts
    whole_gives : (s : Site) → IsOwn D N s → ((u : Site) → IsOneOf (parts_of s) u → Gives u) → Gives s
    whole_gives s h f g = of_whole (IsOwn D N) s h (λ u m. f u m (down s u g m))

    -- what a constructor's call gives, and needs
    answer_gives : (m b : Bool) (t : ℕ) (ss : Sites) (i : ℕ) → Q t → facts.partial t ≡ b → ((u : Site) → IsOneOf ss u → Gives u)
        → AreIn (answer_needs m b (constructor_call t ss i)) N
        → Gives (answer_site m b (constructor_call t ss i)) × EachSite Gives (answer_needs m b (constructor_call t ss i))
    answer_gives true b t ss i q e f n =
        let c = constructor_call t ss i in
        let call : Gives c = whole_gives c tt f in
        let all : Gives (iterator c) = whole_gives (iterator c) (n (iterator c) (inr (inl refl))) (λ u m. of_only Gives c u call m) in
        (all, (call, (all, tt)))
    answer_gives false true t ss i q e f n =
        let c = constructor_call t ss i in
        let call : Gives c = whole_gives c tt f in
        let all : Gives (match_some c) = λ g. whole_gives (match_some c) (content t ss i q e g) (λ u m. of_only Gives c u call m) g in
        (all, (call, (all, tt)))
    answer_gives false false t ss i q e f n =
        let call : Gives (constructor_call t ss i) = whole_gives (constructor_call t ss i) tt f in (call, (call, tt))

    -- the impure calls and what is needed so far
    abbrev Logged : Log → Type 0
    Logged log = EachSite Gives log.impure × EachSite Gives log.needed

    -- arguments
    abbrev Args : Sites → Log → Type 0
    Args ss log = ((u : Site) → IsOneOf ss u → Gives u) × Logged log

    -- a visit's site
    abbrev Visited : Site → Log → Type 0
    Visited s log = Gives s × Logged log

    -- those of a call
    called_gives : (b : Bool) (t : ℕ) (r : Sites × Log) → Q t → Args (r.0) (r.1) → AreIn ((called facts b t r).1.needed) N
        → Visited ((called facts b t r).0) ((called facts b t r).1)
    called_gives true t r q h n =
        let a = answer_gives (facts.multi t) (facts.partial t) t (r.0) zero q refl (h.0) (in_right (r.1.needed) _ n) in
        (a.0, (h.1.0, sites_append Gives (r.1.needed) _ (h.1.1) (a.1)))
    called_gives false t r q h n =
        let a = answer_gives (facts.multi t) (facts.partial t) t (r.0) (suc (length (r.1.impure))) q refl (h.0) (in_right (r.1.needed) _ n) in
        (a.0, (sites_append Gives (r.1.impure) _ (h.1.0) (a.0, tt), sites_append Gives (r.1.needed) _ (h.1.1) (a.1)))

    -- a constant, made data
    needs_one : (s : Site) (log : Log) → Gives s → Logged log → Visited s (need (s ∷ []) log)
    needs_one s log g h = (g, (h.0, sites_append Gives log.needed _ (h.1) (g, tt)))

    -- those of a term
    applied_gives : (shape : TermShape) (ty t : ℕ) (r : Sites × Log) → CallOf Q shape t → Args (r.0) (r.1)
        → AreIn ((applied facts shape ty t r).1.needed) N → Visited ((applied facts shape ty t r).0) ((applied facts shape ty t r).1)
    applied_gives (variant_shape k) ty t r q h n =
        needs_one (make_variant ty k (r.0)) (r.1) (whole_gives (make_variant ty k (r.0)) tt (h.0)) (h.1)
    applied_gives struct_shape ty t r q h n = needs_one (make_struct ty (r.0)) (r.1) (whole_gives (make_struct ty (r.0)) tt (h.0)) (h.1)
    applied_gives declared_shape ty t r q h n = called_gives (facts.pure t) t r q h n

    mutual
      -- those of an expression
      visit_gives : (e : TypedExpr) (vars : ℕ → Site) (log : Log) → ExprCalls facts Q e → AllGive vars → Logged log
          → AreIn ((visit facts vars log e).1.needed) N → Visited ((visit facts vars log e).0) ((visit facts vars log e).1)
      visit_gives (built_var ty k) vars log c v h n = (v k, h)
      visit_gives (built_bool ty b) vars log c v h n = needs_one (bool_site b ty) log (whole_gives (bool_site b ty) tt (λ u m. absurd m)) h
      visit_gives (built_int ty m) vars log c v h n = needs_one (int_site m ty) log (whole_gives (int_site m ty) tt (λ u m. absurd m)) h
      visit_gives (built_prim ty m) vars log c v h n = needs_one (prim_site m) log (whole_gives (prim_site m) tt (λ u m. absurd m)) h
      visit_gives (built_term ty t es) vars log c v h n =
          let r = visit_all facts vars log es in
          applied_gives (facts.shape t) ty t r (c.0) (all_give es vars log (c.1) v h (applied_keeps (facts.shape t) ty t r n)) n
      visit_gives (built_let ty bs body) vars log c v h n =
          let m = visit_keeps body ((visit_lets facts vars log bs).0) ((visit_lets facts vars log bs).1) n in
          let r = lets_give bs vars log (c.0) v h m in
          visit_gives body ((visit_lets facts vars log bs).0) ((visit_lets facts vars log bs).1) (c.1) (r.0) (r.1) n

      -- those of expressions
      all_give : (es : TypedExprs) (vars : ℕ → Site) (log : Log) → ExprsCall facts Q es → AllGive vars → Logged log
          → AreIn ((visit_all facts vars log es).1.needed) N → Args ((visit_all facts vars log es).0) ((visit_all facts vars log es).1)
      all_give no_built vars log c v h n = (λ u m. absurd m, h)
      all_give (more_built e es) vars log c v h n =
          let mid = (visit facts vars log e).1 in
          let p = visit_gives e vars log (c.0) v h (all_keep es vars mid n) in
          let q = all_give es vars mid (c.1) v (p.1) n in
          (λ u m. one_of u ((visit facts vars log e).0) ((visit_all facts vars mid es).0) (p.0) (q.0) m, q.1)
        where
          one_of : (u s : Site) (ss : Sites) → Gives s → ((w : Site) → IsOneOf ss w → Gives w) → IsOneOf (more_sites s ss) u → Gives u
          one_of u s ss g f (inl e) = subst Gives (sym e) g
          one_of u s ss g f (inr m) = f u m

      -- those of bindings
      lets_give : (bs : TypedBindings) (vars : ℕ → Site) (log : Log) → BindingsCall facts Q bs → AllGive vars → Logged log
          → AreIn ((visit_lets facts vars log bs).1.needed) N
          → AllGive ((visit_lets facts vars log bs).0) × Logged ((visit_lets facts vars log bs).1)
      lets_give no_typed_bindings vars log c v h n = (v, h)
      lets_give (more_typed_bindings k ty e bs) vars log c v h n =
          let mid = (visit facts vars log e).1 in
          let next = set vars k ((visit facts vars log e).0) in
          let p = visit_gives e vars log (c.0) v h (lets_keep bs next mid n) in
          lets_give bs next mid (c.1) (set_gives vars k _ v (p.0)) (p.1) n

  -- ---- if-lets

  -- contents of a part are among the site's
  all_within : (ss : Sites) (u : Site) → Within (contents_all ss) D → IsOneOf ss u → Within (contents u) D
  all_within no_sites u w m = absurd m
  all_within (more_sites s ss) u w (inl e) = subst (λ (z : Site). Within (contents z) D) (sym e) (ds_left (contents s) _ w)
  all_within (more_sites s ss) u w (inr m) = all_within ss u (ds_right (contents s) _ w) m

  one_within : (s u : Site) → Within (contents s) D → IsOneOf (more_sites s no_sites) u → Within (contents u) D
  one_within s u w (inl e) = subst (λ (z : Site). Within (contents z) D) (sym e) w
  one_within s u w (inr m) = absurd m

  contents_down : (s u : Site) → Within (contents s) D → IsOneOf (parts_of s) u → Within (contents u) D
  contents_down (bool_site b ty) u w m = absurd m
  contents_down (int_site k ty) u w m = absurd m
  contents_down (prim_site k) u w m = absurd m
  contents_down (argument i) u w m = absurd m
  contents_down (extractor_call t s) u w m = one_within s u w m
  contents_down (constructor_call t ss i) u w m = all_within ss u w m
  contents_down (iterator s) u w m = one_within s u w m
  contents_down (make_variant ty k ss) u w m = all_within ss u w m
  contents_down (match_variant s k i) u w m = one_within s u w m
  contents_down (make_struct ty ss) u w m = all_within ss u w m
  contents_down (extract_struct s i) u w m = one_within s u w m
  contents_down (make_some s) u w m = one_within s u w m
  contents_down (match_some s) u w m = one_within s u (λ d i. w d (inr i)) m
  contents_down (match_tuple s i) u w m = one_within s u w m

  mutual
    -- what is looked into on the way
    contents_own : (s : Site) → A s → Each (SpeaksOf A) (contents s)
    contents_own (bool_site b ty) h = tt
    contents_own (int_site k ty) h = tt
    contents_own (prim_site k) h = tt
    contents_own (argument i) h = tt
    contents_own (extractor_call t s) h = contents_own s (own_part D N (extractor_call t s) s h (inl refl))
    contents_own (constructor_call t ss i) h = all_contents ss (λ u m. own_part D N (constructor_call t ss i) u h m)
    contents_own (iterator s) h = contents_own s (own_part D N (iterator s) s h (inl refl))
    contents_own (make_variant ty k ss) h = all_contents ss (λ u m. own_part D N (make_variant ty k ss) u h m)
    contents_own (match_variant s k i) h = contents_own s (own_part D N (match_variant s k i) s h (inl refl))
    contents_own (make_struct ty ss) h = all_contents ss (λ u m. own_part D N (make_struct ty ss) u h m)
    contents_own (extract_struct s i) h = contents_own s (own_part D N (extract_struct s i) s h (inl refl))
    contents_own (make_some s) h = contents_own s (own_part D N (make_some s) s h (inl refl))
    contents_own (match_some s) h = let k = own_part D N (match_some s) s h (inl refl) in (k, contents_own s k)
    contents_own (match_tuple s i) h = contents_own s (own_part D N (match_tuple s i) s h (inl refl))

    -- in sites
    all_contents : (ss : Sites) → ((u : Site) → IsOneOf ss u → A u) → Each (SpeaksOf A) (contents_all ss)
    all_contents no_sites h = tt
    all_contents (more_sites s ss) h =
        each_append (SpeaksOf A) (contents s) (contents_all ss) (contents_own s (h s (inl refl))) (all_contents ss (λ u m. h u (inr m)))

  -- a site of if-lets is its own, if its contents are demanded where an expression needs it
  abbrev IfOpen : List TypedIfLet → (ℕ → Site) → Site → Type 0
  IfOpen xs vars s = (IfLetsNeed facts xs vars s → Within (contents s) D) → A s

  -- what if-lets demand, bind and need
  iflets_own : (xs : List TypedIfLet) (vars : ℕ → Site) → AllOwn vars → Within (iflets_demands facts xs vars) D
      → AreIn (iflets_needs facts xs vars) N
      → Each (SpeaksOf A) (iflets_demands facts xs vars) × AllOwn (iflets_bound facts xs vars)
      × ((s : Site) → IsNeeded (iflets_needs facts xs vars) s → IfOpen xs vars s)
  iflets_own [] vars v w n = (tt, v, λ s i. absurd i)
  iflets_own (x ∷ xs) vars v w n =
      let site = iflet_site facts vars x in
      let asked = (visit facts vars no_log x.value).1.needed in
      let first = ds_left (contents site) _ w in let rest = ds_right (contents site) _ w in
      let later = in_right asked _ n in
      let (g, (im, all)) = visit_gives (λ t. Unit {0}) (λ s. Within (contents s) D) contents_down (λ t ss i q e z. z _ (inl refl))
      x.value vars no_log (any_calls facts x.value) (λ k z. v k) (tt, tt) (in_left asked _ n) in
      let same = (visited facts vars x.value (λ k. var_word k) vars (λ j. refl) [] no_log refl).0 in
      let h : A site = subst (λ (z : Site). Within (contents z) D → A z) same g first in
      let ds = demands facts x.pattern site vars in let ns = needs facts x.pattern site in
      let (a, b, c) = pattern_own x.pattern vars site v h (ds_left ds _ rest) (in_left ns _ later) in
      let (d, e, f) = iflets_own xs (bound facts x.pattern site vars) b (ds_right ds _ rest) (in_right ns _ later) in (
        each_append (SpeaksOf A) (contents site) _ (contents_own site h) (each_append (SpeaksOf A) ds _ a d),
        e,
        λ s i fine. elim (needed_either s asked _ i) [
          | inl k ↦ each_needed (λ (u : Site). Within (contents u) D → A u) asked s all k (fine (inl k))
          | inr k ↦ elim (needed_either s ns _ k) [
            | inl l ↦ each_needed A ns s c l
            | inr l ↦ f s l (λ z. fine (inr z))
          ]
        ],
      )

module _ (D E : Demand → Type 0) (N : Site → Type 0) (more : (d : Demand) → D d → E d) where
  -- with more demands
  own_more : (s : Site) → IsOwn D N s → IsOwn E N s
  own_more (bool_site b ty) h = tt
  own_more (int_site n ty) h = tt
  own_more (prim_site n) h = tt
  own_more (argument i) h = tt
  own_more (extractor_call t s) h = tt
  own_more (constructor_call t ss i) h = tt
  own_more (iterator s) h = h
  own_more (make_variant ty k ss) h = tt
  own_more (match_variant s k i) (ty, n, d, l) = (ty, n, more _ d, l)
  own_more (make_struct ty ss) h = tt
  own_more (extract_struct s i) (ty, n, d, l) = (ty, n, more _ d, l)
  own_more (make_some s) h = tt
  own_more (match_some s) h = more _ h
  own_more (match_tuple s i) h = tt

  -- at each depth
  all_more : (s : Site) → AreOwn D N s → AreOwn E N s
  all_more s h u m = own_more u (h u m)

  -- of a demand's sites
  speaks_more : (d : Demand) → SpeaksOf (AreOwn D N) d → SpeaksOf (AreOwn E N) d
  speaks_more (constrained s c) h = all_more s h
  speaks_more (equal s u) h = (all_more s (h.0), all_more u (h.1))

-- what is derived speaks of such sites
derived_owned : (D : Demand → Type 0) (N : Site → Type 0) → ((d : Demand) → D d → SpeaksOf (AreOwn (Derived D) N) d) → (d : Demand)
    → Derived D d → SpeaksOf (AreOwn (Derived D) N) d
derived_owned D N f d (demanded h) = f d h
derived_owned D N f d (flipped {s = s} {u = u} h) = let g = derived_owned D N f (equal s u) h in (g.1, g.0)
derived_owned D N f d (chained {s = s} {u = u} {w = w} h k) =
    ((derived_owned D N f (equal s u) h).0, (derived_owned D N f (equal u w) k).1)
derived_owned D N f d (shared {s = s} {u = u} {c = e} h k) = (derived_owned D N f (equal s u) h).1
derived_owned D N f d (like_variant {s = s} {u = u} {ty = ty} {k = k} {n = n} {i = i} h g l) =
    let o = derived_owned D N f (equal s u) h in (
      of_whole (IsOwn (Derived D) N) (match_variant s k i) (ty, n, g, l) (λ x m. of_one (IsOwn (Derived D) N) s x (o.0) m),
      of_whole (IsOwn (Derived D) N) (match_variant u k i) (ty, n, shared h g, l) (λ x m. of_one (IsOwn (Derived D) N) u x (o.1) m),
    )
derived_owned D N f d (like_struct {s = s} {u = u} {ty = ty} {n = n} {i = i} h g l) =
    let o = derived_owned D N f (equal s u) h in (
      of_whole (IsOwn (Derived D) N) (extract_struct s i) (ty, n, g, l) (λ x m. of_one (IsOwn (Derived D) N) s x (o.0) m),
      of_whole (IsOwn (Derived D) N) (extract_struct u i) (ty, n, shared h g, l) (λ x m. of_one (IsOwn (Derived D) N) u x (o.1) m),
    )

module _ (facts : TermFacts) (rule : TypedRule) where
  -- what the rule demands, and what it needs
  abbrev D : Demand → Type 0
  D = DemandOf facts rule

  abbrev N : Site → Type 0
  N = IsNeeded (needs_of facts rule)

  -- the contents of a site are demanded, where the expression of an if-let needs it
  abbrev pub IsOpened : Site → Type 0
  IsOpened s = IfLetsNeed facts rule.iflets (args_bound facts rule) s → (d : Demand) → Among (contents s) d → DemandOf facts rule d

  -- of its demands, its variables, and what it needs before its right side
  rule_own : Each (SpeaksOf (AreOwn D N)) (demands_of facts rule) × ((k : ℕ) → AreOwn D N (vars_of facts rule k))
      × ((s : Site) → IsNeeded (args_needs facts rule.args 0 ++ iflets_needs facts rule.iflets (args_bound facts rule)) s → IsOpened s
      → AreOwn D N s)
  rule_own =
      let args = demands_all facts rule.args argument nothing in
      let asked = args_needs facts rule.args 0 in
      let all : Within (demands_of facts rule) D = λ d i. i in
      let every : AreIn (needs_of facts rule) N = λ s i. i in
      let blank : (k : ℕ) → AreOwn D N (nothing k) = λ k. of_whole (IsOwn D N) (nothing k) tt (λ u m. absurd m) in
      let from_first : (j : ℕ) → argument j ≡ argument (0 + j) = λ j. ap argument (let q : j ≡ 0 + j = omega arith in q) in
      let (a, b, c) = patterns_own facts D N rule.args nothing argument blank
      (λ i l. of_whole (IsOwn D N) (argument i) tt (λ u m. absurd m)) (ds_left facts D N args _ all)
      (args_in facts D N rule.args 0 argument from_first (in_left facts D N asked _ every)) in
      let (d, e, f) = iflets_own facts D N rule.iflets (args_bound facts rule) b (ds_right facts D N args _ all)
      (in_left facts D N (iflets_needs facts rule.iflets (args_bound facts rule)) _ (in_right facts D N asked _ every)) in (
        each_append (SpeaksOf (AreOwn D N)) args _ a d,
        e,
        λ s i fine. elim (needed_either s asked _ i) [
          | inl k ↦ each_needed (AreOwn D N) asked s (args_own facts D N rule.args 0 argument from_first c) k
          | inr k ↦ f s k fine
        ],
      )

  -- What follows from a rule's demands speaks of sites whose fields and contents have their tests, and whose values of multi calls are needed.
  pub derived_own : (d : Demand) → Derived D d → SpeaksOf (AreOwn (Derived D) N) d
  derived_own d e =
      derived_owned D N (λ f i. speaks_more D (Derived D) N (λ g h. demanded h) f
      (among (SpeaksOf (AreOwn D N)) (demands_of facts rule) (rule_own.0) f i)) d e

  -- with what follows
  more_own : (s : Site) → AreOwn D N s → AreOwn (Derived D) N s
  more_own s h = all_more D (Derived D) N (λ f i. demanded i) s h

  -- whatever is demanded
  abbrev Freely : Site → Type 0
  Freely s = Unit {0} → AreOwn D N s

  -- with what follows, each
  each_more : (ss : List Site) → EachSite Freely ss → EachSite (AreOwn (Derived D) N) ss
  each_more [] h = tt
  each_more (s ∷ ss) h = (more_own s (h.0 tt), each_more ss (h.1))

  -- so of a made option
  some_own : (b : Bool) (s : Site) → AreOwn (Derived D) N s → AreOwn (Derived D) N (some_of b s)
  some_own true s h = of_whole (IsOwn (Derived D) N) (make_some s) tt (λ u m. of_one (IsOwn (Derived D) N) s u h m)
  some_own false s h = h

  module _ (calls : ExprCalls facts (λ t. facts.partial t ≡ false) rule.right) where
    -- no call of it is partial
    whole_calls : (t : ℕ) (ss : Sites) (i : ℕ) → facts.partial t ≡ false → facts.partial t ≡ true → Unit {0}
        → D (constrained (constructor_call t ss i) some_constraint)
    whole_calls t ss i q e z = absurd (let f : false ≡ true = sym q ∙ e in cc)

    -- of the right side
    right_gives : Visited facts D N (λ t. facts.partial t ≡ false) (λ s. Unit {0}) (λ s u z m. tt)
        whole_calls ((visit facts (vars_of facts rule) no_log rule.right).0)
        ((visit facts (vars_of facts rule) no_log rule.right).1)
    right_gives =
        let every : AreIn (needs_of facts rule) N = λ s i. i in
        visit_gives facts D N (λ t. facts.partial t ≡ false) (λ s. Unit {0}) (λ s u z m. tt)
        whole_calls rule.right (vars_of facts rule) no_log calls
        (λ k z. rule_own.1 k) (tt, tt)
        (in_right facts D N (iflets_needs facts rule.iflets (args_bound facts rule)) _
        (in_right facts D N (args_needs facts rule.args 0) _ every))

    -- So do its result and its impure calls, where its right side calls nothing partial.
    pub right_own : ((partial : Bool) → AreOwn (Derived D) N (result_of facts partial rule)) × EachSite (AreOwn (Derived D) N) (impure_of facts rule)
    right_own =
        let (g, (im, all)) = right_gives in
        let written = visit_is_written facts rule in (
          λ b. some_own b (site_of facts (vars_of facts rule) (word_of facts rule.right))
              (more_own _ (subst (AreOwn D N) (written.0) (g tt))),
          subst (EachSite (AreOwn (Derived D) N)) (written.1) (each_more ((visit facts (vars_of facts rule) no_log rule.right).1.impure) im),
        )

    -- So does each site that it needs, if its contents are demanded where the expression of an if-let needs it.
    pub needed_own : (s : Site) → IsNeeded (needs_of facts rule) s → IsOpened s → AreOwn (Derived D) N s
    needed_own s i fine =
        let asked = args_needs facts rule.args 0 in let later = iflets_needs facts rule.iflets (args_bound facts rule) in
        elim (needed_either s asked _ i) [
          | inl k ↦ more_own s (rule_own.2 s (needed_left s asked later k) fine)
          | inr k ↦ elim (needed_either s later _ k) [
            | inl j ↦ more_own s (rule_own.2 s (needed_right s asked later j) fine)
            | inr j ↦ more_own s (each_needed Freely ((visit facts (vars_of facts rule) no_log rule.right).1.needed) s (right_gives.1.1) j tt)
          ]
        ]
