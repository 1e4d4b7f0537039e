-- A variant that a rule makes is that of a term that the rule calls.
use Rattle.std.proofs.Common.{◌≡◌, inl, inr, ℕ, zero, suc, Bool, true, false, List, [], ◌∷◌, ◌++◌, ◌==◌, Option, Some, slice_get, unwrap_or}
use Rattle.std.proofs.Common.{refl, sym, ap, subst, ◌∙◌}
use Rattle.isle_rules.specs.TypedRules.{TypedPattern, typed_bind, typed_var, typed_bool, typed_int, typed_prim, typed_term, typed_wildcard}
use Rattle.isle_rules.specs.TypedRules.{typed_and, TypedPatterns, no_typed, more_typed, TypedExpr, built_var, built_bool, built_int}
use Rattle.isle_rules.specs.TypedRules.{built_prim, built_term, built_let, TypedExprs, no_built, more_built, TypedBindings, no_typed_bindings}
use Rattle.isle_rules.specs.TypedRules.{more_typed_bindings, built_at, Variable, TypedIfLet, TypedRule}
use Rattle.isle_rules.specs.Signatures.{Flags, TermForm, variant_form, struct_form, declared_form, Signature, Declared}
use Rattle.isle_rules.specs.Elaboration.{on_lhs}
use Rattle.isle_rules.specs.SoundRules.WellTyped.{IsTypedExpr, AreTypedExprs, AreTypedBindings, AreTypedIfLets, CallsTerm, IsTypedRule}
use Rattle.isle_meaning.specs.Facts.{TermShape, variant_shape, struct_shape, declared_shape, TermFacts, facts_of, patterns, shape_of_form, no_term}
use Rattle.isle_meaning.specs.Words.{Word, var_word, bool_word, int_word, prim_word, variant_word, struct_word, call_word, Words, Step, set}
use Rattle.isle_meaning.specs.Words.{apply, flat, flat_all, flat_lets, word_of}
use Rattle.isle_meaning.specs.Sites.{Site, argument, extractor_call, constructor_call, make_variant, match_variant, extract_struct}
use Rattle.isle_meaning.specs.Sites.{match_tuple, Sites, answer_site, extract_site, output, site_of}
use Rattle.isle_meaning.specs.Demands.{parts, bound, bound_all, iflet_site, iflets_bound, nothing, args_bound, vars_of, some_of, result_of}
use Rattle.isle_meaning.specs.Needs.{from_on, extract_needs, output_needs, open_needs, needs, needs_all, args_needs, Log, answer_needs, called}
use Rattle.isle_meaning.specs.Needs.{applied, visit, visit_all, visit_lets, no_log, iflets_needs, needs_of, IsNeeded}

-- a term is the variant at a place of a type
pub record IsVariantTerm (declared : Declared) (ty place : ℕ) : Type 0 where
  pub number : ℕ
  pub term : Signature
  pub known : slice_get declared.terms number ≡ Some term
  pub form : term.form ≡ variant_form place
  pub type : term.ret ≡ ty

-- a term of a variant's shape is that variant
variant_by : (form : TermForm) (k : ℕ) → shape_of_form form ≡ variant_shape k → form ≡ variant_form k
variant_by (variant_form j) k e = ap variant_form (let same : j ≡ k = cc in same)
variant_by struct_form k e = absurd cc
variant_by (declared_form flags constructor extractor) k e = absurd cc

module _ (K : ℕ → ℕ → Type 0) where
  -- the site makes no variant, or one with K
  abbrev pub Known : Site → Type 0
  Known (make_variant ty k ss) = K ty k
  Known _ = Unit {0}

  -- so of what is written out
  abbrev KnownWord : Word → Type 0
  KnownWord (variant_word ty k ws) = K ty k
  KnownWord _ = Unit {0}

  pub record AllKnown (sites : List Site) : Type 0 where
    pub each : (s : Site) → IsNeeded sites s → Known s

  abbrev VarsKnown : (ℕ → Site) → Type 0
  VarsKnown vars = (j : ℕ) → Known (vars j)

  none_known : AllKnown []
  none_known = record { each = λ s none. absurd none }

  more_known : (t : Site) (sites : List Site) → Known t → AllKnown sites → AllKnown (t ∷ sites)
  more_known t sites here rest =
      record { each = λ s needed. elim needed [ inl e ↦ subst Known (sym e) here | inr h ↦ rest.each s h ] }

  one_known : (t : Site) → Known t → AllKnown (t ∷ [])
  one_known t here = more_known t [] here none_known

  both_known : (xs ys : List Site) → AllKnown xs → AllKnown ys → AllKnown (xs ++ ys)
  both_known [] ys one other = other
  both_known (x ∷ xs) ys one other =
      more_known x (xs ++ ys) (one.each x (inl refl)) (both_known xs ys (record { each = λ s n. one.each s (inr n) }) other)

  from_known : (at : ℕ → Site) → VarsKnown at → (i n : ℕ) → AllKnown (from_on at i n)
  from_known at each i zero = none_known
  from_known at each i (suc n) = more_known (at i) (from_on at (suc i) n) (each i) (from_known at each (suc i) n)

  answer_known : (m p : Bool) (t : ℕ) (ss : Sites) (i : ℕ) → Known (answer_site m p (constructor_call t ss i))
  answer_known true p t ss i = tt
  answer_known false true t ss i = tt
  answer_known false false t ss i = tt

  extract_known : (m i : Bool) (t : ℕ) (s : Site) → Known (extract_site m i (extractor_call t s))
  extract_known true i t s = tt
  extract_known false true t s = tt
  extract_known false false t s = tt

  output_known : (n : ℕ) (s : Site) (i : ℕ) → Known s → Known (output n s i)
  output_known zero s i h = tt
  output_known (suc zero) s i h = h
  output_known (suc (suc n)) s i h = tt

  set_known : (vars : ℕ → Site) (k : ℕ) (s : Site) → VarsKnown vars → Known s → VarsKnown (set vars k s)
  set_known vars k s each here j = go (j == k) refl
    where
      go : (b : Bool) → (j == k) ≡ b → Known (set vars k s j)
      go true q = rw q here
      go false q = rw q (each j)

  set_word_known : (vars : ℕ → Word) (k : ℕ) (w : Word) → ((j : ℕ) → KnownWord (vars j)) → KnownWord w → (j : ℕ) → KnownWord (set vars k w j)
  set_word_known vars k w each here j = go (j == k) refl
    where
      go : (b : Bool) → (j == k) ≡ b → KnownWord (set vars k w j)
      go true q = rw q here
      go false q = rw q (each j)

  site_known : (facts : TermFacts) (vars : ℕ → Site) → VarsKnown vars → (w : Word) → KnownWord w → Known (site_of facts vars w)
  site_known facts vars each (var_word k) h = each k
  site_known facts vars each (bool_word ty b) h = tt
  site_known facts vars each (int_word ty n) h = tt
  site_known facts vars each (prim_word n) h = tt
  site_known facts vars each (variant_word ty k ws) h = h
  site_known facts vars each (struct_word ty ws) h = tt
  site_known facts vars each (call_word t ws i) h = answer_known (facts.multi t) (facts.partial t) t _ i

  -- patterns make nothing
  opened_known : (facts : TermFacts) (shape : TermShape) (t n : ℕ) (s : Site) → AllKnown (open_needs facts shape t n s)
  opened_known facts (variant_shape k) t n s = from_known (match_variant s k) (λ j. tt) 0 n
  opened_known facts struct_shape t n s = from_known (extract_struct s) (λ j. tt) 0 n
  opened_known facts declared_shape t n s =
      more_known (extractor_call t s) _ tt
      (both_known (extract_needs (facts.multi t) (facts.infallible t) (extractor_call t s)) _ (of_extract (facts.multi t) (facts.infallible t))
      (of_outputs n (extract_site (facts.multi t) (facts.infallible t) (extractor_call t s))))
    where
      of_extract : (m i : Bool) → AllKnown (extract_needs m i (extractor_call t s))
      of_extract true i = one_known _ tt
      of_extract false true = none_known
      of_extract false false = one_known _ tt

      of_outputs : (n : ℕ) (u : Site) → AllKnown (output_needs n u)
      of_outputs zero u = none_known
      of_outputs (suc zero) u = none_known
      of_outputs (suc (suc n)) u = from_known (match_tuple u) (λ j. tt) 0 (suc (suc n))

  parts_known : (facts : TermFacts) (shape : TermShape) (t n : ℕ) (s : Site) → VarsKnown (parts facts shape t n s)
  parts_known facts (variant_shape k) t n s j = tt
  parts_known facts struct_shape t n s j = tt
  parts_known facts declared_shape t n s j =
      output_known n (extract_site (facts.multi t) (facts.infallible t) (extractor_call t s)) j
      (extract_known (facts.multi t) (facts.infallible t) t s)

  mutual
    pattern_known : (facts : TermFacts) (p : TypedPattern) (s : Site) → AllKnown (needs facts p s)
    pattern_known facts (typed_bind ty k p) s = pattern_known facts p s
    pattern_known facts (typed_var ty k) s = none_known
    pattern_known facts (typed_bool ty b) s = none_known
    pattern_known facts (typed_int ty n) s = none_known
    pattern_known facts (typed_prim ty n) s = none_known
    pattern_known facts (typed_term ty t ps) s =
        both_known (open_needs facts (facts.shape t) t (patterns ps) s) (needs_all facts ps (parts facts (facts.shape t) t (patterns ps) s))
        (opened_known facts (facts.shape t) t (patterns ps) s) (patterns_known facts ps (parts facts (facts.shape t) t (patterns ps) s))
    pattern_known facts (typed_wildcard ty) s = none_known
    pattern_known facts (typed_and ty ps) s = patterns_known facts ps (λ i. s)

    patterns_known : (facts : TermFacts) (ps : TypedPatterns) (at : ℕ → Site) → AllKnown (needs_all facts ps at)
    patterns_known facts no_typed at = none_known
    patterns_known facts (more_typed p ps) at =
        both_known (needs facts p (at 0)) (needs_all facts ps (λ i. at (suc i))) (pattern_known facts p (at 0))
        (patterns_known facts ps (λ i. at (suc i)))

  args_known : (facts : TermFacts) (ps : TypedPatterns) (i : ℕ) → AllKnown (args_needs facts ps i)
  args_known facts no_typed i = none_known
  args_known facts (more_typed p ps) i =
      more_known (argument i) _ tt
      (both_known (needs facts p (argument i)) (args_needs facts ps (suc i)) (pattern_known facts p (argument i)) (args_known facts ps (suc i)))

  mutual
    bound_known : (facts : TermFacts) (p : TypedPattern) (s : Site) (vars : ℕ → Site) → Known s → VarsKnown vars → VarsKnown (bound facts p s vars)
    bound_known facts (typed_bind ty k p) s vars here each = set_known (bound facts p s vars) k s (bound_known facts p s vars here each) here
    bound_known facts (typed_var ty k) s vars here each = each
    bound_known facts (typed_bool ty b) s vars here each = each
    bound_known facts (typed_int ty n) s vars here each = each
    bound_known facts (typed_prim ty n) s vars here each = each
    bound_known facts (typed_term ty t ps) s vars here each =
        all_bound_known facts ps (parts facts (facts.shape t) t (patterns ps) s) vars (parts_known facts (facts.shape t) t (patterns ps) s) each
    bound_known facts (typed_wildcard ty) s vars here each = each
    bound_known facts (typed_and ty ps) s vars here each = all_bound_known facts ps (λ i. s) vars (λ i. here) each

    all_bound_known : (facts : TermFacts) (ps : TypedPatterns) (at vars : ℕ → Site) → VarsKnown at → VarsKnown vars
        → VarsKnown (bound_all facts ps at vars)
    all_bound_known facts no_typed at vars there each = each
    all_bound_known facts (more_typed p ps) at vars there each =
        all_bound_known facts ps (λ i. at (suc i)) (bound facts p (at 0) vars) (λ i. there (suc i)) (bound_known facts p (at 0) vars (there 0) each)

module _ (declared : Declared) (variables : List Variable) where
  abbrev K : ℕ → ℕ → Type 0
  K = IsVariantTerm declared

  abbrev facts : TermFacts
  facts = facts_of declared

  -- a called term that has a variant's shape is that variant
  called_variant : (caller : Flags) (own ty number : ℕ) (Fit : List ℕ → Type 0) → own ≡ ty → CallsTerm declared caller ty number Fit
      → (k : ℕ) → facts.shape number ≡ variant_shape k → K own k
  called_variant caller own ty number Fit same calls k shape = record {
    number = number;
    term = calls.term;
    known = calls.known;
    form = variant_by calls.term.form k
        (ap (λ (o : Option Signature). shape_of_form (unwrap_or o no_term).form) (sym calls.known) ∙ shape);
    type = calls.type ∙ sym same;
  }

  apply_known : (shape : TermShape) (pure : Bool) (ty t : ℕ) (r : Words × List Step) → ((k : ℕ) → shape ≡ variant_shape k → K ty k)
      → KnownWord K (apply shape pure ty t r).0
  apply_known (variant_shape k) pure ty t r known = known k refl
  apply_known struct_shape pure ty t r known = tt
  apply_known declared_shape true ty t r known = tt
  apply_known declared_shape false ty t r known = tt

  mutual
    flat_known : (e : TypedExpr) (caller : Flags) (ty : ℕ) → IsTypedExpr declared variables caller ty e → (vars : ℕ → Word)
        → ((j : ℕ) → KnownWord K (vars j)) → (steps : List Step) → KnownWord K (flat facts vars steps e).0
    flat_known (built_var own k) caller ty typed vars each steps = each k
    flat_known (built_bool own b) caller ty typed vars each steps = tt
    flat_known (built_int own n) caller ty typed vars each steps = tt
    flat_known (built_prim own n) caller ty typed vars each steps = tt
    flat_known (built_term own t es) caller ty (same, calls) vars each steps =
        apply_known (facts.shape t) (facts.pure t) own t (flat_all facts vars steps es) (called_variant caller own ty t _ same calls)
    flat_known (built_let own bs body) caller ty (same, bindings, typed) vars each steps =
        flat_known body caller ty typed (flat_lets facts vars steps bs).0 (lets_known bs caller bindings vars each steps)
        (flat_lets facts vars steps bs).1

    lets_known : (bs : TypedBindings) (caller : Flags) → AreTypedBindings declared variables caller bs → (vars : ℕ → Word)
        → ((j : ℕ) → KnownWord K (vars j)) → (steps : List Step) → (j : ℕ) → KnownWord K ((flat_lets facts vars steps bs).0 j)
    lets_known no_typed_bindings caller typed vars each steps = each
    lets_known (more_typed_bindings k ty e bs) caller (var, value, typed) vars each steps =
        lets_known bs caller typed (set vars k (flat facts vars steps e).0)
        (set_word_known K vars k (flat facts vars steps e).0 each (flat_known e caller ty value vars each steps)) (flat facts vars steps e).1

  -- an expression's site makes no other variant
  expr_known : (e : TypedExpr) (caller : Flags) (ty : ℕ) → IsTypedExpr declared variables caller ty e → (vars : ℕ → Site) → VarsKnown K vars
      → Known K (site_of facts vars (word_of facts e))
  expr_known e caller ty typed vars each = site_known K facts vars each (word_of facts e) (flat_known e caller ty typed var_word (λ j. tt) [])

  abbrev Visited : Site × Log → Type 0
  Visited r = Known K r.0 × AllKnown K r.1.needed

  call_known : (m p : Bool) (t : ℕ) (ss : Sites) (i : ℕ) → AllKnown K (answer_needs m p (constructor_call t ss i))
  call_known true p t ss i = more_known K _ _ tt (one_known K _ tt)
  call_known false true t ss i = more_known K _ _ tt (one_known K _ tt)
  call_known false false t ss i = one_known K _ tt

  applied_known : (shape : TermShape) (ty t : ℕ) (r : Sites × Log) → ((k : ℕ) → shape ≡ variant_shape k → K ty k) → AllKnown K r.1.needed
      → Visited (applied facts shape ty t r)
  applied_known (variant_shape k) ty t r known log =
      (known k refl, both_known K r.1.needed (make_variant ty k r.0 ∷ []) log (one_known K (make_variant ty k r.0) (known k refl)))
  applied_known struct_shape ty t r known log = (tt, both_known K r.1.needed _ log (one_known K _ tt))
  applied_known declared_shape ty t r known log = of_call (facts.pure t)
    where
      of_call : (pure : Bool) → Visited (called facts pure t r)
      of_call true = (
        answer_known K (facts.multi t) (facts.partial t) t _ _,
        both_known K r.1.needed _ log (call_known (facts.multi t) (facts.partial t) t _ _),
      )
      of_call false = (
        answer_known K (facts.multi t) (facts.partial t) t _ _,
        both_known K r.1.needed _ log (call_known (facts.multi t) (facts.partial t) t _ _),
      )

  mutual
    visit_known : (e : TypedExpr) (caller : Flags) (ty : ℕ) → IsTypedExpr declared variables caller ty e → (vars : ℕ → Site) → VarsKnown K vars
        → (log : Log) → AllKnown K log.needed → Visited (visit facts vars log e)
    visit_known (built_var own k) caller ty typed vars each log before = (each k, before)
    visit_known (built_bool own b) caller ty typed vars each log before = (tt, both_known K log.needed _ before (one_known K _ tt))
    visit_known (built_int own n) caller ty typed vars each log before = (tt, both_known K log.needed _ before (one_known K _ tt))
    visit_known (built_prim own n) caller ty typed vars each log before = (tt, both_known K log.needed _ before (one_known K _ tt))
    visit_known (built_term own t es) caller ty (same, calls) vars each log before =
        applied_known (facts.shape t) own t (visit_all facts vars log es) (called_variant caller own ty t _ same calls)
        (all_visited es caller calls.term.args calls.args vars each log before)
    visit_known (built_let own bs body) caller ty (same, bindings, typed) vars each log before =
        let (more, after) = lets_visited bs caller bindings vars each log before in
        visit_known body caller ty typed (visit_lets facts vars log bs).0 more (visit_lets facts vars log bs).1 after

    all_visited : (es : TypedExprs) (caller : Flags) (tys : List ℕ) → AreTypedExprs declared variables caller tys es → (vars : ℕ → Site)
        → VarsKnown K vars → (log : Log) → AllKnown K log.needed → AllKnown K (visit_all facts vars log es).1.needed
    all_visited no_built caller [] typed vars each log before = before
    all_visited no_built caller (ty ∷ tys) typed vars each log before = absurd typed
    all_visited (more_built e es) caller [] typed vars each log before = absurd typed
    all_visited (more_built e es) caller (ty ∷ tys) (typed, others) vars each log before =
        let first = visit_known e caller ty typed vars each log before in
        all_visited es caller tys others vars each (visit facts vars log e).1 first.1

    lets_visited : (bs : TypedBindings) (caller : Flags) → AreTypedBindings declared variables caller bs → (vars : ℕ → Site) → VarsKnown K vars
        → (log : Log) → AllKnown K log.needed → VarsKnown K (visit_lets facts vars log bs).0 × AllKnown K (visit_lets facts vars log bs).1.needed
    lets_visited no_typed_bindings caller typed vars each log before = (each, before)
    lets_visited (more_typed_bindings k ty e bs) caller (var, value, typed) vars each log before =
        let first = visit_known e caller ty value vars each log before in
        lets_visited bs caller typed (set vars k (visit facts vars log e).0) (set_known K vars k (visit facts vars log e).0 each first.0)
        (visit facts vars log e).1 first.1

  iflets_known : (xs : List TypedIfLet) (caller : Flags) → AreTypedIfLets declared variables caller xs → (vars : ℕ → Site) → VarsKnown K vars
      → AllKnown K (iflets_needs facts xs vars) × VarsKnown K (iflets_bound facts xs vars)
  iflets_known [] caller typed vars each = (none_known K, each)
  iflets_known (x ∷ xs) caller (value, pattern, typed) vars each =
      let site = iflet_site facts vars x in
      let here = expr_known x.value caller (built_at x.value) value vars each in
      let more = bound_known K facts x.pattern site vars here each in
      let rest = iflets_known xs caller typed (bound facts x.pattern site vars) more in (
        both_known K (visit facts vars no_log x.value).1.needed _
            (visit_known x.value caller (built_at x.value) value vars each no_log (none_known K)).1
            (both_known K (needs facts x.pattern site) (iflets_needs facts xs (bound facts x.pattern site vars))
            (pattern_known K facts x.pattern site) rest.0),
        rest.1,
      )

made_known : (K : ℕ → ℕ → Type 0) (partial : Bool) (s : Site) → Known K s → Known K (some_of partial s)
made_known K true s h = tt
made_known K false s h = h

-- each site that a well-typed rule needs, and that of its result, makes no variant but that of a term
pub rule_known : (declared : Declared) (rule : TypedRule) → IsTypedRule declared rule → (partial : Bool)
    → AllKnown (IsVariantTerm declared) (needs_of (facts_of declared) rule) × Known (IsVariantTerm declared)
    (result_of (facts_of declared) partial rule)
rule_known declared rule typed partial =
    let facts = facts_of declared in let K = IsVariantTerm declared in
    let args = all_bound_known K facts rule.args argument nothing (λ j. tt) (λ j. tt) in
    let iflets = iflets_known declared rule.variables rule.iflets (on_lhs typed.flags) typed.iflets (args_bound facts rule) args in
    let right = visit_known declared rule.variables rule.right typed.flags typed.root.ret typed.right (vars_of facts rule) iflets.1 no_log
    (none_known K) in (
      both_known K (args_needs facts rule.args 0) _ (args_known K facts rule.args 0)
          (both_known K (iflets_needs facts rule.iflets (args_bound facts rule)) (visit facts (vars_of facts rule) no_log rule.right).1.needed
          iflets.0 right.1),
      made_known K partial (site_of facts (vars_of facts rule) (word_of facts rule.right))
          (expr_known declared rule.variables rule.right typed.flags typed.root.ret typed.right (vars_of facts rule) iflets.1),
    )
