-- The sites of a rule are of their kinds, and its demands are of their sites' types.
use Rattle.std.proofs.Common.{◌≡◌, ◌⊎◌, inl, inr, ℕ, zero, suc, ◌<◌, ◌+◌, ◌==◌, List, [], ◌∷◌, ◌++◌, length, Bool, true, false, refl}
use Rattle.std.proofs.Common.{sym, ap, subst, ◌∙◌, arith, eqb-true, eq-eqb}
use Rattle.isle_rules.specs.TypedRules.{TypedPattern, typed_bind, typed_var, typed_bool, typed_int, typed_prim, typed_term, typed_wildcard}
use Rattle.isle_rules.specs.TypedRules.{typed_and, TypedPatterns, no_typed, more_typed, TypedExpr, built_var, built_bool, built_int}
use Rattle.isle_rules.specs.TypedRules.{built_prim, built_term, built_let, TypedExprs, no_built, more_built, TypedBindings, no_typed_bindings}
use Rattle.isle_rules.specs.TypedRules.{more_typed_bindings, TypedIfLet, TypedRule}
use Rattle.isle_meaning.specs.Facts.{TermShape, variant_shape, struct_shape, declared_shape, TermFacts, patterns, nth_type}
use Rattle.isle_meaning.specs.Words.{set, word_of}
use Rattle.isle_meaning.specs.Sites.{Site, bool_site, int_site, prim_site, argument, extractor_call, constructor_call, iterator}
use Rattle.isle_meaning.specs.Sites.{make_variant, match_variant, make_struct, extract_struct, make_some, match_some, match_tuple}
use Rattle.isle_meaning.specs.Sites.{Sites, no_sites, more_sites, answer_site, extract_site, output, site_of}
use Rattle.isle_meaning.specs.Sorts.{plain_sort, of_outputs, sort, Suits}
use Rattle.isle_meaning.specs.Demands.{Demand, extractor_demands, opens, parts, bound, bound_all, demands, demands_all, contents}
use Rattle.isle_meaning.specs.Demands.{contents_all}
use Rattle.isle_meaning.specs.Demands.{iflet_site, iflets_bound, iflets_demands, nothing, args_bound, vars_of, demands_of, some_of}
use Rattle.isle_meaning.specs.Demands.{result_of}
use Rattle.isle_meaning.specs.Holds.{Each}
use Rattle.isle_meaning.specs.Needs.{from_on, extract_needs, output_needs, open_needs, needs, needs_all, args_needs, Log, no_log}
use Rattle.isle_meaning.specs.Needs.{answer_needs}
use Rattle.isle_meaning.specs.Needs.{called, applied, visit, visit_all, visit_lets, iflets_needs, needs_of, IsNeeded}
use Rattle.isle_meaning.specs.Scopes.{scope, scope_all, iflets_scope, IsWellOpened, IsWellScoped, AreWellScoped, IsSingle, let_scope}
use Rattle.isle_meaning.specs.Scopes.{ReadsExpr}
use Rattle.isle_meaning.specs.Scopes.{ReadExprs, ReadsLets, IfLetsAreWellScoped, none, scope_of, IsWellScopedRule}
use Rattle.isle_meaning.specs.Typing.{part_types, IsTyped, AllTyped, EachTyped, ExprTyped, ExprsTyped, BindingsTyped, IfLetsTyped, RuleIsTyped}
use Rattle.isle_meaning.specs.Laws.Matching.{IsRuleOfTypes}
use Rattle.isle_meaning.specs.Demands.{DemandOf}
use Rattle.isle_meaning.specs.Elaborated.{IsElaborated}
use Rattle.isle_meaning.proofs.Matching.Basics.{each_append}
use Rattle.isle_meaning.proofs.Matching.Sorting.{among}
use Rattle.isle_meaning.specs.AboutSites.Kinds.{MayBeCalled, OfSeveral, HasItsKind, HaveTheirKinds, IsOfItsKind}
use Rattle.isle_meaning.proofs.Matching.Visited.{visit_is_written}
use Rattle.isle_meaning.proofs.Sites.Parts.{EachSite, sites_append, each_needed}

-- the terms that are taken to be `multi` where variables and calls are looked at: none, where several answers are asked
abbrev pub flags_for : (several : Bool) → TermFacts → ℕ → Bool
flags_for false facts = facts.multi
flags_for true facts = λ t. false

-- what is said of terms then
abbrev pub facts_for : (several : Bool) → TermFacts → TermFacts
facts_for several facts = record facts { multi = flags_for several facts }

-- a term that isn't taken to be `multi` may be called
may_call : (several : Bool) (facts : TermFacts) (t : ℕ) → flags_for several facts t ≡ false → MayBeCalled several facts t
may_call false facts t m = m
may_call true facts t m = tt

-- where one that is `multi` may be called, several answers are asked
several_asked : (several : Bool) (facts : TermFacts) (t : ℕ) (P : Type 0) → MayBeCalled several facts t → facts.multi t ≡ true → P
    → OfSeveral several P
several_asked false facts t P may m p = absurd (let e : false ≡ true = sym may ∙ m in cc)
several_asked true facts t P may m p = p

-- What is so where several answers are asked is so.
pub several_so : (several : Bool) (P : Type 0) → OfSeveral several P → P
several_so false P h = absurd h
several_so true P h = h

-- A term's patterns are as many as its types.
pub typed_count : (facts : TermFacts) (tys : List ℕ) (G : ℕ → ℕ) (ps : TypedPatterns) (us : List ℕ) → AllTyped facts G ps us
    → patterns ps ≡ length us
typed_count facts tys G no_typed [] t = refl
typed_count facts tys G no_typed (u ∷ us) t = absurd t
typed_count facts tys G (more_typed p ps) [] t = absurd t
typed_count facts tys G (more_typed p ps) (u ∷ us) t = ap suc (typed_count facts tys G ps us (t.1))

module _ (several : Bool) (facts : TermFacts) (tys : List ℕ) where
  -- what is said of terms, where variables and calls are looked at
  abbrev seen_facts : TermFacts
  seen_facts = facts_for several facts

  -- the site is of its kind
  abbrev W : Site → Type 0
  W = HasItsKind several facts tys

  -- the site holds a value of the type, and is of its kind
  abbrev IsGood : Site → ℕ → Type 0
  IsGood s u = (sort facts tys s ≡ plain_sort u) × W s

  -- a demand is of its kind and of its sites' types
  abbrev Fits : Demand → Type 0
  Fits d = IsOfItsKind several facts tys d × Suits facts tys d

  -- what is looked into on the way fits
  mutual
    contents_fit : (s : Site) → W s → Each Fits (contents s)
    contents_fit (bool_site b ty) h = tt
    contents_fit (int_site n ty) h = tt
    contents_fit (prim_site n) h = tt
    contents_fit (argument i) h = tt
    contents_fit (extractor_call t s) h = contents_fit s (h.0)
    contents_fit (constructor_call t ss i) h = all_fit ss (h.0)
    contents_fit (iterator s) h = contents_fit s ((several_so several _ h).0)
    contents_fit (make_variant ty k ss) h = all_fit ss h
    contents_fit (match_variant s k i) h = contents_fit s (h.0)
    contents_fit (make_struct ty ss) h = all_fit ss h
    contents_fit (extract_struct s i) h = contents_fit s (h.0)
    contents_fit (make_some s) h = contents_fit s (h.0)
    contents_fit (match_some s) h = (((h.0, tt), h.1), contents_fit s (h.0))
    contents_fit (match_tuple s i) h = contents_fit s (h.0)

    -- so is what is looked into in sites
    all_fit : (ss : Sites) → HaveTheirKinds several facts tys ss → Each Fits (contents_all ss)
    all_fit no_sites h = tt
    all_fit (more_sites s ss) h = each_append Fits (contents s) (contents_all ss) (contents_fit s (h.0.0)) (all_fit ss (h.1))

  -- fields from one on are of their kinds
  fields_kinded : (f : ℕ → Site) (i n : ℕ) → ((j : ℕ) → i < suc j → j < i + n → W (f j)) → EachSite W (from_on f i n)
  fields_kinded f i zero h = tt
  fields_kinded f i (suc n) h = (h i (omega arith) (omega arith), fields_kinded f (suc i) n (λ j p q. h j (omega arith) (omega arith)))

  -- so are outputs
  output_kinded : (n : ℕ) (s : Site) (ts : List ℕ) → n ≡ length ts → sort facts tys s ≡ of_outputs ts → W s → EachSite W (output_needs n s)
  output_kinded zero s ts e k w = tt
  output_kinded (suc zero) s ts e k w = tt
  output_kinded (suc (suc n)) s [] e k w = absurd (omega arith)
  output_kinded (suc (suc n)) s (t ∷ []) e k w = absurd (omega arith)
  output_kinded (suc (suc n)) s (t ∷ (u ∷ us)) e k w =
      fields_kinded (match_tuple s) 0 (suc (suc n)) (λ j p q. (w, (t ∷ (u ∷ us), k, omega arith)))

  -- an output holds a value of its type
  output_good : (n : ℕ) (s : Site) (ts : List ℕ) (i : ℕ) → n ≡ length ts → i < n → sort facts tys s ≡ of_outputs ts → W s
      → IsGood (output n s i) (nth_type ts i)
  output_good n s [] i l j e h = absurd (omega arith)
  output_good zero s (t ∷ ts) i l j e h = absurd (omega arith)
  output_good (suc zero) s (t ∷ []) zero l j e h = (e, h)
  output_good (suc zero) s (t ∷ []) (suc i) l j e h = absurd (omega arith)
  output_good (suc zero) s (t ∷ (u ∷ us)) i l j e h = absurd (omega arith)
  output_good (suc (suc n)) s (t ∷ []) i l j e h = absurd (omega arith)
  output_good (suc (suc n)) s (t ∷ (u ∷ us)) i l j e h = (rw e refl, (h, (t ∷ (u ∷ us), e, omega arith)))

  -- an extractor's call is of its kind
  call_kinded : (t u : ℕ) (s : Site) → MayBeCalled several facts t → IsGood s u → W (extractor_call t s)
  call_kinded t u s may h = (h.1, (u, h.0), may)

  -- what an extractor gives holds its outputs
  given_kinded : (m b : Bool) (t u : ℕ) (s : Site) → MayBeCalled several facts t → facts.multi t ≡ m → facts.infallible t ≡ b → IsGood s u
      → W (extract_site m b (extractor_call t s)) × (sort facts tys (extract_site m b (extractor_call t s)) ≡ of_outputs (facts.inputs t))
  given_kinded true b t u s may m e h = (
    several_asked several facts t _ may m (call_kinded t u s may h, (of_outputs (facts.inputs t), rw m refl)),
    rw m refl,
  )
  given_kinded false true t u s may m e h = (call_kinded t u s may h, rw (m, e) refl)
  given_kinded false false t u s may m e h =
      ((call_kinded t u s may h, (of_outputs (facts.inputs t), rw (m, e) refl)), rw (m, e) refl)

  -- what it needs is of its kind
  extract_kinded : (m b : Bool) (t u : ℕ) (s : Site) → MayBeCalled several facts t → facts.multi t ≡ m → facts.infallible t ≡ b → IsGood s u
      → EachSite W (extract_needs m b (extractor_call t s))
  extract_kinded true b t u s may m e h = ((given_kinded true b t u s may m e h).0, tt)
  extract_kinded false true t u s may m e h = tt
  extract_kinded false false t u s may m e h = ((given_kinded false false t u s may m e h).0, tt)

  -- so is what a pattern's term needs
  opened_needs : (shape : TermShape) (t u n : ℕ) (s : Site) → IsWellOpened seen_facts shape t n → IsGood s u
      → EachSite W (open_needs facts shape t n s)
  opened_needs (variant_shape k) t u n s w h = fields_kinded (match_variant s k) 0 n (λ j p q. (h.1, (u, h.0)))
  opened_needs struct_shape t u n s w h = fields_kinded (extract_struct s) 0 n (λ j p q. (h.1, (u, h.0)))
  opened_needs declared_shape t u n s w h =
      let may = may_call several facts t (w.1) in
      let g = given_kinded (facts.multi t) (facts.infallible t) t u s may refl refl h in (
        call_kinded t u s may h,
        sites_append W (extract_needs (facts.multi t) (facts.infallible t) (extractor_call t s)) _
            (extract_kinded (facts.multi t) (facts.infallible t) t u s may refl refl h)
            (output_kinded n (extract_site (facts.multi t) (facts.infallible t) (extractor_call t s)) (facts.inputs t) (w.0) (g.1) (g.0)),
      )

  -- the sites of a pattern's parts hold values of their types
  parts_good : (shape : TermShape) (ty t n : ℕ) (s : Site) (i : ℕ) → IsWellOpened seen_facts shape t n
      → n ≡ length (part_types facts shape ty t) → i < n → IsGood s ty
      → IsGood (parts facts shape t n s i) (nth_type (part_types facts shape ty t) i)
  parts_good (variant_shape k) ty t n s i w l j h = (rw (h.0) refl, (h.1, (ty, h.0)))
  parts_good struct_shape ty t n s i w l j h = (rw (h.0) refl, (h.1, (ty, h.0)))
  parts_good declared_shape ty t n s i w l j h =
      let g = given_kinded (facts.multi t) (facts.infallible t) t ty s (may_call several facts t (w.1)) refl refl h in
      output_good n (extract_site (facts.multi t) (facts.infallible t) (extractor_call t s)) (facts.inputs t) i (w.0) j (g.1) (g.0)

  -- what an extractor demands is of its kind
  extractor_fits : (m b : Bool) (t u : ℕ) (s : Site) → MayBeCalled several facts t → facts.multi t ≡ m → facts.infallible t ≡ b → IsGood s u
      → Each Fits (extractor_demands m b (extractor_call t s))
  extractor_fits true b t u s may m e h = tt
  extractor_fits false true t u s may m e h = tt
  extractor_fits false false t u s may m e h = (((call_kinded t u s may h, tt), (of_outputs (facts.inputs t), rw (m, e) refl)), tt)

  -- so is what a pattern demands of its own site
  opens_fit : (shape : TermShape) (ty t n : ℕ) (s : Site) → IsWellOpened seen_facts shape t n → n ≡ length (part_types facts shape ty t)
      → IsGood s ty → Each Fits (opens facts shape ty t n s)
  opens_fit (variant_shape k) ty t n s w l h = (((h.1, l), h.0), tt)
  opens_fit struct_shape ty t n s w l h = (((h.1, l), h.0), tt)
  opens_fit declared_shape ty t n s w l h =
      extractor_fits (facts.multi t) (facts.infallible t) t ty s (may_call several facts t (w.1)) refl refl h

  module _ (G : ℕ → ℕ) where
    -- the variables' sites hold values of their types
    abbrev AreGood : (ℕ → Type 0) → (ℕ → Site) → Type 0
    AreGood S vars = (k : ℕ) → S k → IsGood (vars k) (G k)

    -- one more variable's does
    set_good : (S : ℕ → Type 0) (vars : ℕ → Site) (j : ℕ) (s : Site) (u : ℕ) → AreGood S vars → IsGood s u → G j ≡ u
        → AreGood (λ k. (k ≡ j) ⊎ S k) (set vars j s)
    set_good S vars j s u g h e k i = go (k == j) refl i
      where
        go : (b : Bool) → (k == j) ≡ b → (k ≡ j) ⊎ S k → IsGood (set vars j s k) (G k)
        go true p x =
            let q : k ≡ j = eqb-true k j p in rw p (subst (IsGood s) (sym (ap G q ∙ e)) h)
        go false p (inl q) = absurd (let r : (k == k) ≡ true = eq-eqb k k refl in
            let z : (k == k) ≡ false = subst (λ (w : ℕ). (k == w) ≡ false) (sym q) p in cc)
        go false p (inr x) = rw p (g k x)

    -- what patterns need, demand and bind
    abbrev Seen : List Site → List Demand → (ℕ → Type 0) → (ℕ → Site) → Type 0
    Seen needed ds S vars = EachSite W needed × Each Fits ds × AreGood S vars

    mutual
      seen : (p : TypedPattern) (u : ℕ) (S : ℕ → Type 0) (vars : ℕ → Site) (s : Site) → IsWellScoped seen_facts p S → IsTyped facts G p u
          → AreGood S vars → IsGood s u → Seen (needs facts p s) (demands facts p s vars) (scope p S) (bound facts p s vars)
      seen (typed_bind ty j p) u S vars s w t g h =
          let (a, b, c) = seen p u S vars s (w.0) (t.2) g h in (a, b, set_good (scope p S) (bound facts p s vars) j s u c h (t.1))
      seen (typed_var ty k) u S vars s w t g h =
          let x = g k w in (tt, (((h.1, x.1), (u, h.0, x.0 ∙ ap plain_sort (t.1))), tt), g)
      seen (typed_bool ty b) u S vars s w t g h = (tt, (((h.1, tt), h.0 ∙ ap plain_sort (sym t)), tt), g)
      seen (typed_int ty n) u S vars s w t g h = (tt, (((h.1, tt), h.0 ∙ ap plain_sort (sym t)), tt), g)
      seen (typed_prim ty n) u S vars s w t g h = (tt, (((h.1, tt), (u, h.0)), tt), g)
      seen (typed_term ty t ps) u S vars s w p g h =
          let h' : IsGood s ty = subst (IsGood s) (sym (p.0)) h in
          let l = typed_count facts tys G ps (part_types facts (facts.shape t) ty t) (p.2) in
          let (a, b, c) = seen_all ps (part_types facts (facts.shape t) ty t) S vars (parts facts (facts.shape t) t (patterns ps) s) (w.1) (p.2) g
          (λ i j. parts_good (facts.shape t) ty t (patterns ps) s i (w.0) l j h') in (
            sites_append W (open_needs facts (facts.shape t) t (patterns ps) s) _ (opened_needs (facts.shape t) t ty (patterns ps) s (w.0) h') a,
            each_append Fits (opens facts (facts.shape t) ty t (patterns ps) s) _
                (opens_fit (facts.shape t) ty t (patterns ps) s (w.0) l h') b,
            c,
          )
      seen (typed_wildcard ty) u S vars s w t g h = (tt, tt, g)
      seen (typed_and ty ps) u S vars s w t g h = seen_each ps u S vars s w (t.1) g h

      -- what patterns do, each at its own site
      seen_all : (ps : TypedPatterns) (us : List ℕ) (S : ℕ → Type 0) (vars : ℕ → Site) (at : ℕ → Site) → AreWellScoped seen_facts ps S
          → AllTyped facts G ps us → AreGood S vars → ((i : ℕ) → i < patterns ps → IsGood (at i) (nth_type us i))
          → Seen (needs_all facts ps at) (demands_all facts ps at vars) (scope_all ps S) (bound_all facts ps at vars)
      seen_all no_typed us S vars at w t g h = (tt, tt, g)
      seen_all (more_typed p ps) [] S vars at w t g h = absurd t
      seen_all (more_typed p ps) (u ∷ us) S vars at w t g h =
          let (a, b, c) = seen p u S vars (at 0) (w.0) (t.0) g (h 0 (omega arith)) in
          let (d, e, f) = seen_all ps us (scope p S) (bound facts p (at 0) vars) (λ i. at (suc i)) (w.1) (t.1) c (λ i l. h (suc i) (omega arith))
          in (sites_append W (needs facts p (at 0)) _ a d, each_append Fits (demands facts p (at 0) vars) _ b e, f)

      -- what patterns do, all at one site
      seen_each : (ps : TypedPatterns) (u : ℕ) (S : ℕ → Type 0) (vars : ℕ → Site) (s : Site) → AreWellScoped seen_facts ps S
          → EachTyped facts G ps u → AreGood S vars → IsGood s u
          → Seen (needs_all facts ps (λ i. s)) (demands_all facts ps (λ i. s) vars) (scope_all ps S) (bound_all facts ps (λ i. s) vars)
      seen_each no_typed u S vars s w t g h = (tt, tt, g)
      seen_each (more_typed p ps) u S vars s w t g h =
          let (a, b, c) = seen p u S vars s (w.0) (t.0) g h in
          let (d, e, f) = seen_each ps u (scope p S) (bound facts p s vars) s (w.1) (t.1) c h in
          (sites_append W (needs facts p s) _ a d, each_append Fits (demands facts p s vars) _ b e, f)

    -- arguments and their patterns
    args_seen : (ps : TypedPatterns) (us : List ℕ) (i : ℕ) (S : ℕ → Type 0) (vars : ℕ → Site) → AreWellScoped seen_facts ps S → AllTyped facts G ps us
        → AreGood S vars → ((j : ℕ) → j < length us → IsGood (argument (i + j)) (nth_type us j)) → EachSite W (args_needs facts ps i)
    args_seen no_typed us i S vars w t g h = tt
    args_seen (more_typed p ps) [] i S vars w t g h = absurd t
    args_seen (more_typed p ps) (u ∷ us) i S vars w t g h =
        let e : i + 0 ≡ i = omega arith in
        let here : IsGood (argument i) u = subst (λ (k : ℕ). IsGood (argument k) u) e (h 0 (omega arith)) in
        let (a, b, c) = seen p u S vars (argument i) (w.0) (t.0) g here in
        let rest = args_seen ps us (suc i) (scope p S) (bound facts p (argument i) vars) (w.1) (t.1) c
        (λ j l. let f : i + suc j ≡ suc i + j = omega arith in subst (λ (k : ℕ). IsGood (argument k) (nth_type us j)) f (h (suc j) (omega arith))) in
        (here.1, sites_append W (needs facts p (argument i)) (args_needs facts ps (suc i)) a rest)

    -- ---- expressions

    -- a visit gives a value of the type, and what it needs is of its kind
    abbrev Visited : Site → ℕ → List Site → Type 0
    Visited s u needed = IsGood s u × EachSite W needed

    -- one of arguments does
    abbrev Args : Sites → List Site → Type 0
    Args ss needed = HaveTheirKinds several facts tys ss × EachSite W needed

    -- what a call gives holds a value
    answer_good : (m b : Bool) (t u : ℕ) (ss : Sites) (i : ℕ) → MayBeCalled several facts t → facts.multi t ≡ m → facts.partial t ≡ b
        → facts.type_of t ≡ u → HaveTheirKinds several facts tys ss
        → IsGood (answer_site m b (constructor_call t ss i)) u × EachSite W (answer_needs m b (constructor_call t ss i))
    answer_good true b t u ss i may m e f h =
        let call : W (constructor_call t ss i) = (h, may) in
        let given : W (iterator (constructor_call t ss i)) =
        several_asked several facts t _ may m (call, (plain_sort (facts.type_of t), rw m refl)) in
        ((rw (m, f) refl, given), (call, (given, tt)))
    answer_good false true t u ss i may m e f h =
        let call : W (constructor_call t ss i) = (h, may) in
        let given : W (match_some (constructor_call t ss i)) = (call, (plain_sort (facts.type_of t), rw (m, e) refl)) in
        ((rw (m, e, f) refl, given), (call, (given, tt)))
    answer_good false false t u ss i may m e f h =
        let call : W (constructor_call t ss i) = (h, may) in ((rw (m, e, f) refl, call), (call, tt))

    -- so does a call
    called_good : (b : Bool) (t u : ℕ) (r : Sites × Log) → flags_for several facts t ≡ false → facts.type_of t ≡ u → Args (r.0) (r.1.needed)
        → Visited ((called facts b t r).0) u ((called facts b t r).1.needed)
    called_good true t u r m f h =
        let a = answer_good (facts.multi t) (facts.partial t) t u (r.0) zero (may_call several facts t m) refl refl f (h.0) in
        (a.0, sites_append W (r.1.needed) _ (h.1) (a.1))
    called_good false t u r m f h =
        let a = answer_good (facts.multi t) (facts.partial t) t u (r.0) (suc (length (r.1.impure))) (may_call several facts t m) refl refl f (h.0)
        in (a.0, sites_append W (r.1.needed) _ (h.1) (a.1))

    -- so does a term
    applied_good : (shape : TermShape) (ty t u : ℕ) (r : Sites × Log) → IsSingle seen_facts shape t → ty ≡ u → facts.type_of t ≡ u
        → Args (r.0) (r.1.needed)
        → Visited ((applied facts shape ty t r).0) u ((applied facts shape ty t r).1.needed)
    applied_good (variant_shape k) ty t u r m e f h = ((ap plain_sort e, h.0), sites_append W (r.1.needed) _ (h.1) (h.0, tt))
    applied_good struct_shape ty t u r m e f h = ((ap plain_sort e, h.0), sites_append W (r.1.needed) _ (h.1) (h.0, tt))
    applied_good declared_shape ty t u r m e f h = called_good (facts.pure t) t u r m f h

    mutual
      visit_seen : (e : TypedExpr) (u : ℕ) (S : ℕ → Type 0) (vars : ℕ → Site) (log : Log) → ReadsExpr seen_facts e S → ExprTyped facts G e u
          → AreGood S vars → EachSite W log.needed → Visited ((visit facts vars log e).0) u ((visit facts vars log e).1.needed)
      visit_seen (built_var ty k) u S vars log r t g h = (subst (IsGood (vars k)) (t.1) (g k r), h)
      visit_seen (built_bool ty b) u S vars log r t g h = ((ap plain_sort t, tt), sites_append W log.needed _ h (tt, tt))
      visit_seen (built_int ty n) u S vars log r t g h = ((ap plain_sort t, tt), sites_append W log.needed _ h (tt, tt))
      visit_seen (built_prim ty n) u S vars log r t g h = ((ap plain_sort (t.1), tt), sites_append W log.needed _ h (tt, tt))
      visit_seen (built_term ty t es) u S vars log r p g h =
          let q = visit_all_seen es (part_types facts (facts.shape t) ty t) S vars log (r.1) (p.2) g h in
          applied_good (facts.shape t) ty t u (visit_all facts vars log es) (r.0) (p.0) (p.1) q
      visit_seen (built_let ty bs body) u S vars log r t g h =
          let q = visit_lets_seen bs S vars log (r.0) (t.0) g h in
          visit_seen body u (let_scope bs S) ((visit_lets facts vars log bs).0) ((visit_lets facts vars log bs).1) (r.1) (t.1) (q.0) (q.1)

      -- what visits of expressions do
      visit_all_seen : (es : TypedExprs) (us : List ℕ) (S : ℕ → Type 0) (vars : ℕ → Site) (log : Log) → ReadExprs seen_facts es S
          → ExprsTyped facts G es us → AreGood S vars → EachSite W log.needed
          → Args ((visit_all facts vars log es).0) ((visit_all facts vars log es).1.needed)
      visit_all_seen no_built us S vars log r t g h = (tt, h)
      visit_all_seen (more_built e es) [] S vars log r t g h = absurd t
      visit_all_seen (more_built e es) (u ∷ us) S vars log r t g h =
          let p = visit_seen e u S vars log (r.0) (t.0) g h in
          let q = visit_all_seen es us S vars ((visit facts vars log e).1) (r.1) (t.1) g (p.1) in
          (((p.0.1, (u, p.0.0)), q.0), q.1)

      -- what visits of bindings do
      visit_lets_seen : (bs : TypedBindings) (S : ℕ → Type 0) (vars : ℕ → Site) (log : Log) → ReadsLets seen_facts bs S → BindingsTyped facts G bs
          → AreGood S vars → EachSite W log.needed
          → AreGood (let_scope bs S) ((visit_lets facts vars log bs).0) × EachSite W ((visit_lets facts vars log bs).1.needed)
      visit_lets_seen no_typed_bindings S vars log r t g h = (g, h)
      visit_lets_seen (more_typed_bindings k ty e bs) S vars log r t g h =
          let p = visit_seen e ty S vars log (r.0) (t.1) g h in
          visit_lets_seen bs (λ j. (j ≡ k) ⊎ S j) (set vars k ((visit facts vars log e).0)) ((visit facts vars log e).1) (r.1) (t.2)
          (set_good S vars k _ ty g (p.0) (t.0)) (p.1)

    -- what the variables stand for after some if-lets
    abbrev vars_after : TypedRule → List TypedIfLet → ℕ → Site
    vars_after rule before = iflets_bound facts before (args_bound facts rule)

    -- after one more
    one_more : (start : ℕ → Site) (before : List TypedIfLet) (x : TypedIfLet) → iflets_bound facts (before ++ x ∷ []) start
        ≡ bound facts x.pattern (iflet_site facts (iflets_bound facts before start) x) (iflets_bound facts before start)
    one_more start [] x = refl
    one_more start (y ∷ before) x = one_more (bound facts y.pattern (iflet_site facts start y) start) before x

    -- a visit gives the site of what is written out
    written : (rule : TypedRule) (before : List TypedIfLet) (e : TypedExpr)
        → (visit facts (vars_after rule before) no_log e).0 ≡ site_of facts (vars_after rule before) (word_of facts e)
    written rule before e = (visit_is_written facts (record rule { iflets = before; right = e })).0

    -- what the rest of a rule's if-lets need, demand and bind
    iflets_seen : (rule : TypedRule) (xs before : List TypedIfLet) (S : ℕ → Type 0) → IfLetsAreWellScoped seen_facts xs S → IfLetsTyped facts G xs
        → AreGood S (vars_after rule before)
        → Seen (iflets_needs facts xs (vars_after rule before)) (iflets_demands facts xs (vars_after rule before)) (iflets_scope xs S)
        (iflets_bound facts xs (vars_after rule before))
    iflets_seen rule [] before S w t g = (tt, tt, g)
    iflets_seen rule (x ∷ xs) before S w t g =
        let (u, e, p) = t.0 in
        let v = visit_seen x.value u S (vars_after rule before) no_log (w.0) e g tt in
        let h : IsGood (iflet_site facts (vars_after rule before) x) u = subst (λ (z : Site). IsGood z u) (written rule before x.value) (v.0) in
        let (a, b, c) = seen x.pattern u S (vars_after rule before) (iflet_site facts (vars_after rule before) x) (w.1) p g h in
        let more = one_more (args_bound facts rule) before x in
        let rest = iflets_seen rule xs (before ++ x ∷ []) (scope x.pattern S) (w.2) (t.1)
        (subst (AreGood (scope x.pattern S)) (sym more) c) in
        let (d, f, i) = subst (λ (z : ℕ → Site). Seen (iflets_needs facts xs z) (iflets_demands facts xs z)
        (iflets_scope xs (scope x.pattern S)) (iflets_bound facts xs z)) more rest in (
          sites_append W ((visit facts (vars_after rule before) no_log x.value).1.needed) _ (v.1)
              (sites_append W (needs facts x.pattern (iflet_site facts (vars_after rule before) x)) _ a d),
          each_append Fits (contents (iflet_site facts (vars_after rule before) x)) _
              (contents_fit (iflet_site facts (vars_after rule before) x) (h.1))
              (each_append Fits
              (demands facts x.pattern (iflet_site facts (vars_after rule before) x) (vars_after rule before)) _ b f),
          i,
        )

  -- a made option is of its kind
  some_kinded : (b : Bool) (s : Site) (u : ℕ) → IsGood s u → W (some_of b s)
  some_kinded true s u h = (h.1, (u, h.0))
  some_kinded false s u h = h.1

  -- What a rule needs, its result, and what it demands.
  pub sites_seen : (rule : TypedRule) → IsWellScopedRule seen_facts rule → (u : ℕ) (G : ℕ → ℕ) → RuleIsTyped facts tys u G rule
      → ((s : Site) → IsNeeded (needs_of facts rule) s → HasItsKind several facts tys s)
      × ((b : Bool) → HasItsKind several facts tys (result_of facts b rule))
      × ((d : Demand) → DemandOf facts rule d → IsOfItsKind several facts tys d × Suits facts tys d)
  sites_seen rule well u G typed =
      let begins : AreGood G none nothing = λ k n. absurd n in
      let (a, b, c) = seen_all G rule.args tys none nothing argument well.args typed.args begins
      (λ i l. let m = typed_count facts tys G rule.args tys typed.args in (refl, omega arith)) in
      let args = args_seen G rule.args tys 0 none nothing well.args typed.args begins
      (λ j l. let e : 0 + j ≡ j = omega arith in subst (λ (k : ℕ). IsGood (argument k) (nth_type tys j)) (sym e) (refl, l)) in
      let (d, e, f) = iflets_seen G rule rule.iflets [] (λ k. scope_all rule.args none k) well.iflets typed.iflets c in
      let v = visit_seen G rule.right u (scope_of rule) (vars_of facts rule) no_log well.right typed.right f tt in (
        λ s n. each_needed W (needs_of facts rule) s
            (sites_append W (args_needs facts rule.args 0) _ args (sites_append W (iflets_needs facts rule.iflets (args_bound facts rule)) _ d (v.1)))
            n,
        λ k. some_kinded k _ u (subst (λ (z : Site). IsGood z u) ((visit_is_written facts rule).0) (v.0)),
        among Fits (demands_of facts rule) (each_append Fits (demands_all facts rule.args argument nothing) _ b e),
      )

-- What a rule that asks no `multi` term needs, its result, and what it demands.
pub rule_seen : (facts : TermFacts) (tys : List ℕ) (rule : TypedRule) → IsRuleOfTypes facts tys rule
    → ((s : Site) → IsNeeded (needs_of facts rule) s → HasItsKind false facts tys s)
    × ((b : Bool) → HasItsKind false facts tys (result_of facts b rule))
    × ((d : Demand) → DemandOf facts rule d → IsOfItsKind false facts tys d × Suits facts tys d)
rule_seen facts tys rule is = sites_seen false facts tys rule is.well is.result_type is.var_types is.typed

-- What any rule does.
pub any_seen : (facts : TermFacts) (tys : List ℕ) (rule : TypedRule) → IsElaborated facts tys rule
    → ((s : Site) → IsNeeded (needs_of facts rule) s → HasItsKind true facts tys s)
    × ((b : Bool) → HasItsKind true facts tys (result_of facts b rule))
    × ((d : Demand) → DemandOf facts rule d → IsOfItsKind true facts tys d × Suits facts tys d)
any_seen facts tys rule is = sites_seen true facts tys rule is.well is.result_type is.var_types is.typed
