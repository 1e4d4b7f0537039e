-- The constructors that a sound rule's sites call: of those with rules the ones that are run, and with a number where they aren't pure.
use Rattle.std.proofs.Common.{◌≡◌, ℕ, zero, suc, ◌==◌, List, [], ◌∷◌, length, Bool, true, false, refl, subst}
use Rattle.isle_rules.specs.TypedRules.{TypedPattern, typed_bind, typed_var, typed_bool, typed_int, typed_prim, typed_term, typed_wildcard}
use Rattle.isle_rules.specs.TypedRules.{typed_and, TypedPatterns, no_typed, more_typed, TypedExpr, built_var, built_bool, built_int}
use Rattle.isle_rules.specs.TypedRules.{built_prim, built_term, built_let, TypedExprs, no_built, more_built, TypedBindings, no_typed_bindings}
use Rattle.isle_rules.specs.TypedRules.{more_typed_bindings, TypedIfLet, TypedRule}
use Rattle.isle_meaning.specs.Demands.{parts, bound, bound_all, iflet_site, iflets_bound, args_bound, vars_of, nothing, some_of, result_of}
use Rattle.isle_meaning.specs.Facts.{TermShape, variant_shape, struct_shape, declared_shape, TermFacts, patterns}
use Rattle.isle_meaning.specs.Needs.{from_on, extract_needs, output_needs, open_needs, needs, needs_all, args_needs, Log, no_log}
use Rattle.isle_meaning.specs.Needs.{answer_needs, called, applied, visit, visit_all, visit_lets, iflets_needs, needs_of, IsNeeded}
use Rattle.isle_meaning.specs.Sites.{Site, bool_site, int_site, prim_site, argument, extractor_call, constructor_call, iterator}
use Rattle.isle_meaning.specs.Sites.{make_variant, match_variant, make_struct, extract_struct, make_some, match_some, match_tuple}
use Rattle.isle_meaning.specs.Sites.{Sites, answer_site, extract_site, output, site_of}
use Rattle.isle_meaning.specs.SoundPrograms.{IsSoundExpr, AreSoundExprs, AreSoundBindings, AreSoundIfLets, IsSoundRule}
use Rattle.isle_meaning.specs.Words.{set, var_word, word_of}
use Rattle.isle_meaning.specs.Worlds.{CheckedProgram}
use Rattle.isle_meaning.proofs.Matching.Visited.{visited}
use Rattle.isle_meaning.proofs.Sites.Parts.{EachSite, sites_append, each_needed}

module _ (p : CheckedProgram) (R : ℕ → Type 0) where
  -- what is said of its terms
  abbrev facts : TermFacts
  facts = p.terms

  -- a call with a number, or without one, is of a term that may make it
  abbrev pub MayBeCalled : ℕ → ℕ → Type 0
  MayBeCalled t zero = (p.has_rules t ≡ true → R t) × (p.terms.pure t ≡ true)
  MayBeCalled t (suc i) = (p.has_rules t ≡ true → R t) × (p.terms.pure t ≡ false)

  -- the site is no constructor's call, or one of a term that may be called so
  abbrev pub CallsAsItMay : Site → Type 0
  CallsAsItMay (bool_site b ty) = Unit {0}
  CallsAsItMay (int_site n ty) = Unit {0}
  CallsAsItMay (prim_site n) = Unit {0}
  CallsAsItMay (argument i) = Unit {0}
  CallsAsItMay (extractor_call t s) = Unit {0}
  CallsAsItMay (constructor_call t ss i) = MayBeCalled t i
  CallsAsItMay (iterator s) = Unit {0}
  CallsAsItMay (make_variant ty k ss) = Unit {0}
  CallsAsItMay (match_variant s k i) = Unit {0}
  CallsAsItMay (make_struct ty ss) = Unit {0}
  CallsAsItMay (extract_struct s i) = Unit {0}
  CallsAsItMay (make_some s) = Unit {0}
  CallsAsItMay (match_some s) = Unit {0}
  CallsAsItMay (match_tuple s i) = Unit {0}

  -- ---- patterns

  -- so many sites do
  many_may : (f : ℕ → Site) → ((i : ℕ) → CallsAsItMay (f i)) → (i n : ℕ) → EachSite CallsAsItMay (from_on f i n)
  many_may f h i zero = tt
  many_may f h i (suc n) = (h i, many_may f h (suc i) n)

  -- what an extractor gives does
  extract_may : (m b : Bool) (t : ℕ) (s : Site) → CallsAsItMay (extract_site m b (extractor_call t s))
  extract_may true b t s = tt
  extract_may false true t s = tt
  extract_may false false t s = tt

  -- so does an output
  output_may : (n : ℕ) (s : Site) (i : ℕ) → CallsAsItMay s → CallsAsItMay (output n s i)
  output_may zero s i h = tt
  output_may (suc zero) s i h = h
  output_may (suc (suc n)) s i h = tt

  -- and the site of a pattern's part
  parts_may : (shape : TermShape) (t n : ℕ) (s : Site) (i : ℕ) → CallsAsItMay (parts facts shape t n s i)
  parts_may (variant_shape k) t n s i = tt
  parts_may struct_shape t n s i = tt
  parts_may declared_shape t n s i =
      output_may n (extract_site (facts.multi t) (facts.infallible t) (extractor_call t s)) i (extract_may (facts.multi t) (facts.infallible t) t s)

  -- what an extractor's call needs does
  extract_needs_may : (m b : Bool) (s : Site) → EachSite CallsAsItMay (extract_needs m b s)
  extract_needs_may true b s = (tt, tt)
  extract_needs_may false true s = tt
  extract_needs_may false false s = (tt, tt)

  -- which outputs are needed do
  output_needs_may : (n : ℕ) (s : Site) → EachSite CallsAsItMay (output_needs n s)
  output_needs_may zero s = tt
  output_needs_may (suc zero) s = tt
  output_needs_may (suc (suc n)) s = many_may (match_tuple s) (λ i. tt) 0 (suc (suc n))

  -- and what a pattern's term needs
  open_may : (shape : TermShape) (t n : ℕ) (s : Site) → EachSite CallsAsItMay (open_needs facts shape t n s)
  open_may (variant_shape k) t n s = many_may (match_variant s k) (λ i. tt) 0 n
  open_may struct_shape t n s = many_may (extract_struct s) (λ i. tt) 0 n
  open_may declared_shape t n s = (
    tt,
    sites_append CallsAsItMay (extract_needs (facts.multi t) (facts.infallible t) (extractor_call t s)) _
        (extract_needs_may (facts.multi t) (facts.infallible t) (extractor_call t s))
        (output_needs_may n (extract_site (facts.multi t) (facts.infallible t) (extractor_call t s))),
  )

  mutual
    -- what patterns need does
    needs_may : (q : TypedPattern) (s : Site) → EachSite CallsAsItMay (needs facts q s)
    needs_may (typed_bind ty k q) s = needs_may q s
    needs_may (typed_var ty k) s = tt
    needs_may (typed_bool ty b) s = tt
    needs_may (typed_int ty n) s = tt
    needs_may (typed_prim ty n) s = tt
    needs_may (typed_term ty t ps) s =
        sites_append CallsAsItMay (open_needs facts (facts.shape t) t (patterns ps) s) _ (open_may (facts.shape t) t (patterns ps) s)
        (all_needs_may ps (parts facts (facts.shape t) t (patterns ps) s))
    needs_may (typed_wildcard ty) s = tt
    needs_may (typed_and ty ps) s = all_needs_may ps (λ i. s)

    -- so does what some patterns need
    all_needs_may : (ps : TypedPatterns) (at : ℕ → Site) → EachSite CallsAsItMay (needs_all facts ps at)
    all_needs_may no_typed at = tt
    all_needs_may (more_typed q ps) at =
        sites_append CallsAsItMay (needs facts q (at 0)) _ (needs_may q (at 0)) (all_needs_may ps (λ i. at (suc i)))

  -- and what the arguments need
  args_may : (ps : TypedPatterns) (i : ℕ) → EachSite CallsAsItMay (args_needs facts ps i)
  args_may no_typed i = tt
  args_may (more_typed q ps) i =
      (tt, sites_append CallsAsItMay (needs facts q (argument i)) _ (needs_may q (argument i)) (args_may ps (suc i)))

  -- each variable's site does
  abbrev AllMay : (ℕ → Site) → Type 0
  AllMay vars = (k : ℕ) → CallsAsItMay (vars k)

  -- with one more
  set_may : (vars : ℕ → Site) (j : ℕ) (s : Site) → AllMay vars → CallsAsItMay s → AllMay (set vars j s)
  set_may vars j s h g k = go (k == j) refl
    where
      go : (b : Bool) → (k == j) ≡ b → CallsAsItMay (set vars j s k)
      go true e = rw e g
      go false e = rw e (h k)

  mutual
    -- what patterns bind does
    bound_may : (q : TypedPattern) (s : Site) (vars : ℕ → Site) → AllMay vars → CallsAsItMay s → AllMay (bound facts q s vars)
    bound_may (typed_bind ty j q) s vars h g = set_may (bound facts q s vars) j s (bound_may q s vars h g) g
    bound_may (typed_var ty k) s vars h g = h
    bound_may (typed_bool ty b) s vars h g = h
    bound_may (typed_int ty n) s vars h g = h
    bound_may (typed_prim ty n) s vars h g = h
    bound_may (typed_term ty t ps) s vars h g =
        all_bound_may ps (parts facts (facts.shape t) t (patterns ps) s) vars h (parts_may (facts.shape t) t (patterns ps) s)
    bound_may (typed_wildcard ty) s vars h g = h
    bound_may (typed_and ty ps) s vars h g = all_bound_may ps (λ i. s) vars h (λ i. g)

    -- so does what some patterns bind
    all_bound_may : (ps : TypedPatterns) (at : ℕ → Site) (vars : ℕ → Site) → AllMay vars → AllMay at → AllMay (bound_all facts ps at vars)
    all_bound_may no_typed at vars h g = h
    all_bound_may (more_typed q ps) at vars h g =
        all_bound_may ps (λ i. at (suc i)) (bound facts q (at 0) vars) (bound_may q (at 0) vars h (g 0)) (λ i. g (suc i))

  -- ---- expressions

  -- a visit gives such a site, and needs such sites
  abbrev Visited : Site → List Site → Type 0
  Visited s needed = CallsAsItMay s × EachSite CallsAsItMay needed

  -- a call's answer
  answer_may : (m b : Bool) (t i : ℕ) (ss : Sites) → MayBeCalled t i
      → CallsAsItMay (answer_site m b (constructor_call t ss i)) × EachSite CallsAsItMay (answer_needs m b (constructor_call t ss i))
  answer_may true b t i ss h = (tt, (h, (tt, tt)))
  answer_may false true t i ss h = (tt, (h, (tt, tt)))
  answer_may false false t i ss h = (h, (h, tt))

  -- what a term does
  called_may : (b : Bool) (t : ℕ) (r : Sites × Log) → p.terms.pure t ≡ b → (p.has_rules t ≡ true → R t) → EachSite CallsAsItMay (r.1.needed)
      → Visited ((called facts b t r).0) ((called facts b t r).1.needed)
  called_may true t r e runs h =
      let a = answer_may (facts.multi t) (facts.partial t) t zero (r.0) (runs, e) in
      (a.0, sites_append CallsAsItMay (r.1.needed) _ h (a.1))
  called_may false t r e runs h =
      let a = answer_may (facts.multi t) (facts.partial t) t (suc (length (r.1.impure))) (r.0) (runs, e) in
      (a.0, sites_append CallsAsItMay (r.1.needed) _ h (a.1))

  -- what a term makes of its arguments does
  applied_may : (shape : TermShape) (ty t : ℕ) (r : Sites × Log) → (p.has_rules t ≡ true → R t) → EachSite CallsAsItMay (r.1.needed)
      → Visited ((applied facts shape ty t r).0) ((applied facts shape ty t r).1.needed)
  applied_may (variant_shape k) ty t r runs h = (tt, sites_append CallsAsItMay (r.1.needed) _ h (tt, tt))
  applied_may struct_shape ty t r runs h = (tt, sites_append CallsAsItMay (r.1.needed) _ h (tt, tt))
  applied_may declared_shape ty t r runs h = called_may (facts.pure t) t r refl runs h

  mutual
    -- so does what a visit of an expression gives and needs
    visit_may : (e : TypedExpr) (vars : ℕ → Site) (log : Log) → IsSoundExpr p R e → AllMay vars → EachSite CallsAsItMay log.needed
        → Visited ((visit facts vars log e).0) ((visit facts vars log e).1.needed)
    visit_may (built_var ty k) vars log o g h = (g k, h)
    visit_may (built_bool ty b) vars log o g h = (tt, sites_append CallsAsItMay log.needed _ h (tt, tt))
    visit_may (built_int ty n) vars log o g h = (tt, sites_append CallsAsItMay log.needed _ h (tt, tt))
    visit_may (built_prim ty n) vars log o g h = (tt, sites_append CallsAsItMay log.needed _ h (tt, tt))
    visit_may (built_term ty t es) vars log o g h =
        applied_may (facts.shape t) ty t (visit_all facts vars log es) (o.0) (visit_all_may es vars log (o.1) g h)
    visit_may (built_let ty bs body) vars log o g h =
        let q = visit_lets_may bs vars log (o.0) g h in
        visit_may body ((visit_lets facts vars log bs).0) ((visit_lets facts vars log bs).1) (o.1) (q.0) (q.1)

    -- what visits of expressions need
    visit_all_may : (es : TypedExprs) (vars : ℕ → Site) (log : Log) → AreSoundExprs p R es → AllMay vars → EachSite CallsAsItMay log.needed
        → EachSite CallsAsItMay ((visit_all facts vars log es).1.needed)
    visit_all_may no_built vars log o g h = h
    visit_all_may (more_built e es) vars log o g h =
        visit_all_may es vars ((visit facts vars log e).1) (o.1) g ((visit_may e vars log (o.0) g h).1)

    -- and what visits of bindings bind and need
    visit_lets_may : (bs : TypedBindings) (vars : ℕ → Site) (log : Log) → AreSoundBindings p R bs → AllMay vars
        → EachSite CallsAsItMay log.needed → AllMay ((visit_lets facts vars log bs).0)
        × EachSite CallsAsItMay ((visit_lets facts vars log bs).1.needed)
    visit_lets_may no_typed_bindings vars log o g h = (g, h)
    visit_lets_may (more_typed_bindings k ty e bs) vars log o g h =
        let a = visit_may e vars log (o.0) g h in
        visit_lets_may bs (set vars k ((visit facts vars log e).0)) ((visit facts vars log e).1) (o.1) (set_may vars k _ g (a.0)) (a.1)

  -- a visit gives the site of what is written out
  written : (vars : ℕ → Site) (e : TypedExpr) → (visit facts vars no_log e).0 ≡ site_of facts vars (word_of facts e)
  written vars e = (visited facts vars e var_word vars (λ j. refl) [] no_log refl).0

  -- ---- rules

  -- what if-lets need and bind
  iflets_may : (xs : List TypedIfLet) (vars : ℕ → Site) → AreSoundIfLets p R xs → AllMay vars
      → EachSite CallsAsItMay (iflets_needs facts xs vars) × AllMay (iflets_bound facts xs vars)
  iflets_may [] vars o g = (tt, g)
  iflets_may (x ∷ xs) vars o g =
      let v = visit_may x.value vars no_log (o.0) g tt in
      let s : CallsAsItMay (iflet_site facts vars x) = subst CallsAsItMay (written vars x.value) (v.0) in
      let q = bound_may x.pattern (iflet_site facts vars x) vars g s in
      let rest = iflets_may xs (bound facts x.pattern (iflet_site facts vars x) vars) (o.1) q in (
        sites_append CallsAsItMay ((visit facts vars no_log x.value).1.needed) _ (v.1)
            (sites_append CallsAsItMay (needs facts x.pattern (iflet_site facts vars x)) _ (needs_may x.pattern (iflet_site facts vars x)) (rest.0)),
        rest.1,
      )

  -- a made option calls nothing
  some_may : (b : Bool) (s : Site) → CallsAsItMay s → CallsAsItMay (some_of b s)
  some_may true s h = tt
  some_may false s h = h

  -- What a sound rule needs, and its result.
  pub rule_may : (rule : TypedRule) → IsSoundRule p R rule
      → ((s : Site) → IsNeeded (needs_of p.terms rule) s → CallsAsItMay s) × ((b : Bool) → CallsAsItMay (result_of p.terms b rule))
  rule_may rule sound =
      let args = all_bound_may rule.args argument nothing (λ k. tt) (λ i. tt) in
      let lets = iflets_may rule.iflets (args_bound facts rule) sound.iflets args in
      let v = visit_may rule.right (vars_of facts rule) no_log sound.right (lets.1) tt in (
        λ s n. each_needed CallsAsItMay (needs_of facts rule) s
            (sites_append CallsAsItMay (args_needs facts rule.args 0) _ (args_may rule.args 0)
            (sites_append CallsAsItMay (iflets_needs facts rule.iflets (args_bound facts rule)) _ (lets.0) (v.1))) n,
        λ b. some_may b _ (subst CallsAsItMay (written (vars_of facts rule) rule.right) (v.0)),
      )
