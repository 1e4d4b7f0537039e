-- The sites of a sound rule are typed.
use Rattle.std.proofs.Common.{◌≡◌, ◌⊎◌, inl, inr, ℕ, zero, suc, ◌<◌, ◌+◌, ◌==◌, List, [], ◌∷◌, ◌++◌, length, Bool, true, false, refl}
use Rattle.std.proofs.Common.{sym, ap, subst, ◌∙◌, arith, eqb-true, eq-eqb}
use Rattle.isle_rules.specs.TypedRules.{TypedPattern, typed_bind, typed_var, typed_bool, typed_int, typed_prim, typed_term, typed_wildcard}
use Rattle.isle_rules.specs.TypedRules.{typed_and, TypedPatterns, no_typed, more_typed, TypedExpr, built_var, built_bool, built_int}
use Rattle.isle_rules.specs.TypedRules.{built_prim, built_term, built_let, TypedExprs, no_built, more_built, TypedBindings, no_typed_bindings}
use Rattle.isle_rules.specs.TypedRules.{more_typed_bindings, TypedIfLet, TypedRule}
use Rattle.isle_meaning.specs.Values.{bool_value, int_value, constant_value}
use Rattle.isle_meaning.specs.GroundValues.{IsValueOf}
use Rattle.isle_meaning.specs.Worlds.{CheckedProgram}
use Rattle.isle_meaning.specs.SoundPrograms.{IsSoundExpr, AreSoundExprs, AreSoundBindings, AreSoundIfLets, IsSoundRule}
use Rattle.isle_meaning.specs.Facts.{TermShape, variant_shape, struct_shape, declared_shape, TermFacts, patterns, nth_type}
use Rattle.isle_meaning.specs.Words.{set, word_of}
use Rattle.isle_meaning.specs.Sites.{Site, bool_site, int_site, prim_site, argument, extractor_call, constructor_call, iterator}
use Rattle.isle_meaning.specs.Sites.{make_variant, match_variant, make_struct, extract_struct, make_some, match_some, match_tuple}
use Rattle.isle_meaning.specs.Sites.{Sites, no_sites, more_sites, answer_site, extract_site, output, site_of}
use Rattle.isle_meaning.specs.Sorts.{Sort, plain_sort, tuple_sort, option_sort, of_outputs, sort}
use Rattle.isle_meaning.specs.AboutSites.Kinds.{IsPlain}
use Rattle.isle_meaning.specs.AboutSites.Parts.{SpeaksOf}
use Rattle.isle_meaning.specs.Demands.{Demand, extractor_demands, opens, parts, bound, bound_all, demands, demands_all, contents}
use Rattle.isle_meaning.specs.Demands.{contents_all}
use Rattle.isle_meaning.specs.Demands.{iflet_site, iflets_bound, iflets_demands, nothing, args_bound, vars_of, demands_of, some_of}
use Rattle.isle_meaning.specs.Demands.{result_of}
use Rattle.isle_meaning.specs.Holds.{Each}
use Rattle.isle_meaning.specs.Needs.{from_on, extract_needs, output_needs, open_needs, needs, needs_all, args_needs, Log, no_log}
use Rattle.isle_meaning.specs.Needs.{answer_needs}
use Rattle.isle_meaning.specs.Needs.{called, applied, visit, visit_all, visit_lets, iflets_needs, needs_of, IsNeeded}
use Rattle.isle_meaning.specs.Scopes.{scope, scope_all, iflets_scope, IsWellOpened, IsWellScoped, AreWellScoped, IsSingle, let_scope}
use Rattle.isle_meaning.specs.Scopes.{ReadsExpr}
use Rattle.isle_meaning.specs.Scopes.{ReadExprs, ReadsLets, IfLetsAreWellScoped, none, scope_of}
use Rattle.isle_meaning.specs.Typing.{part_types, IsTyped, AllTyped, EachTyped, ExprTyped, ExprsTyped, BindingsTyped, IfLetsTyped}
use Rattle.isle_meaning.specs.Demands.{DemandOf}
use Rattle.isle_meaning.specs.Machine.Trees.{option_sort_if}
use Rattle.isle_meaning.proofs.Matching.Basics.{each_append}
use Rattle.isle_meaning.proofs.Matching.Sorting.{among}
use Rattle.isle_meaning.proofs.Matching.Visited.{visit_is_written}
use Rattle.isle_meaning.proofs.Sites.Kinded.{typed_count}
use Rattle.isle_meaning.proofs.Sites.Parts.{EachSite, sites_append, each_needed}

module _ (p : CheckedProgram) (tys : List ℕ) where
  -- what is said of its terms
  abbrev pub facts : TermFacts
  facts = p.terms

  -- At every depth literals are of their types, arguments are there, calls and made data take values of their types, and fields, contents
  -- and outputs are of what has them; no call is `multi`.
  abbrev mutual
    pub IsTypedSite : Site → Type 0
    IsTypedSite (bool_site b ty) = IsValueOf p.values (bool_value b) ty
    IsTypedSite (int_site n ty) = IsValueOf p.values (int_value n) ty
    IsTypedSite (prim_site n) = IsValueOf p.values (constant_value n) (facts.constant_type n)
    IsTypedSite (argument i) = i < length tys
    IsTypedSite (extractor_call t s) = IsTypedSite s × (sort facts tys s ≡ plain_sort (facts.type_of t)) × (facts.multi t ≡ false)
    IsTypedSite (constructor_call t ss i) = AreTypedSites ss (facts.inputs t) × (facts.multi t ≡ false)
    IsTypedSite (iterator s) = ⊥
    IsTypedSite (make_variant ty k ss) =
        ((t : ℕ) × (facts.shape t ≡ variant_shape k) × (facts.type_of t ≡ ty)) × AreTypedSites ss (facts.variant_fields ty k)
    IsTypedSite (match_variant s k i) = IsTypedSite s × IsPlain (sort facts tys s)
    IsTypedSite (make_struct ty ss) =
        ((t : ℕ) × (facts.shape t ≡ struct_shape) × (facts.type_of t ≡ ty)) × AreTypedSites ss (facts.struct_fields ty)
    IsTypedSite (extract_struct s i) = IsTypedSite s × IsPlain (sort facts tys s)
    IsTypedSite (make_some s) = IsTypedSite s × IsPlain (sort facts tys s)
    IsTypedSite (match_some s) = IsTypedSite s × ((k : Sort) × (sort facts tys s ≡ option_sort k))
    IsTypedSite (match_tuple s i) = IsTypedSite s × ((ts : List ℕ) × (sort facts tys s ≡ tuple_sort ts) × (i < length ts))

    -- values of these types, one each
    pub AreTypedSites : Sites → List ℕ → Type 0
    AreTypedSites no_sites [] = Unit {0}
    AreTypedSites no_sites (u ∷ us) = ⊥
    AreTypedSites (more_sites s ss) [] = ⊥
    AreTypedSites (more_sites s ss) (u ∷ us) = ((sort facts tys s ≡ plain_sort u) × IsTypedSite s) × AreTypedSites ss us

  -- the site is of a value of the type, and typed
  abbrev IsGood : Site → ℕ → Type 0
  IsGood s u = (sort facts tys s ≡ plain_sort u) × IsTypedSite s

  -- a demand speaks of typed sites
  abbrev Fits : Demand → Type 0
  Fits d = SpeaksOf IsTypedSite d

  -- so does what is looked into on the way
  mutual
    contents_fit : (s : Site) → IsTypedSite s → Each Fits (contents s)
    contents_fit (bool_site b ty) h = tt
    contents_fit (int_site n ty) h = tt
    contents_fit (prim_site n) h = tt
    contents_fit (argument i) h = tt
    contents_fit (extractor_call t s) h = contents_fit s (h.0)
    contents_fit (constructor_call t ss i) h = all_fit ss (facts.inputs t) (h.0)
    contents_fit (iterator s) h = absurd h
    contents_fit (make_variant ty k ss) h = all_fit ss (facts.variant_fields ty k) (h.1)
    contents_fit (match_variant s k i) h = contents_fit s (h.0)
    contents_fit (make_struct ty ss) h = all_fit ss (facts.struct_fields ty) (h.1)
    contents_fit (extract_struct s i) h = contents_fit s (h.0)
    contents_fit (make_some s) h = contents_fit s (h.0)
    contents_fit (match_some s) h = (h.0, contents_fit s (h.0))
    contents_fit (match_tuple s i) h = contents_fit s (h.0)

    all_fit : (ss : Sites) (us : List ℕ) → AreTypedSites ss us → Each Fits (contents_all ss)
    all_fit no_sites us h = tt
    all_fit (more_sites s ss) [] h = absurd h
    all_fit (more_sites s ss) (u ∷ us) h =
        each_append Fits (contents s) (contents_all ss) (contents_fit s (h.0.1)) (all_fit ss us (h.1))

  -- fields from one on are typed
  fields_typed : (f : ℕ → Site) (i n : ℕ) → ((j : ℕ) → i < suc j → j < i + n → IsTypedSite (f j)) → EachSite IsTypedSite (from_on f i n)
  fields_typed f i zero h = tt
  fields_typed f i (suc n) h = (h i (omega arith) (omega arith), fields_typed f (suc i) n (λ j p q. h j (omega arith) (omega arith)))

  -- so are outputs
  outputs_typed : (n : ℕ) (s : Site) (ts : List ℕ) → n ≡ length ts → sort facts tys s ≡ of_outputs ts → IsTypedSite s
      → EachSite IsTypedSite (output_needs n s)
  outputs_typed zero s ts e k w = tt
  outputs_typed (suc zero) s ts e k w = tt
  outputs_typed (suc (suc n)) s [] e k w = absurd (omega arith)
  outputs_typed (suc (suc n)) s (t ∷ []) e k w = absurd (omega arith)
  outputs_typed (suc (suc n)) s (t ∷ (u ∷ us)) e k w =
      fields_typed (match_tuple s) 0 (suc (suc n)) (λ j p q. (w, (t ∷ (u ∷ us), k, omega arith)))

  -- an output is of a value of its type
  output_good : (n : ℕ) (s : Site) (ts : List ℕ) (i : ℕ) → n ≡ length ts → i < n → sort facts tys s ≡ of_outputs ts → IsTypedSite s
      → IsGood (output n s i) (nth_type ts i)
  output_good n s [] i l j e h = absurd (omega arith)
  output_good zero s (t ∷ ts) i l j e h = absurd (omega arith)
  output_good (suc zero) s (t ∷ []) zero l j e h = (e, h)
  output_good (suc zero) s (t ∷ []) (suc i) l j e h = absurd (omega arith)
  output_good (suc zero) s (t ∷ (u ∷ us)) i l j e h = absurd (omega arith)
  output_good (suc (suc n)) s (t ∷ []) i l j e h = absurd (omega arith)
  output_good (suc (suc n)) s (t ∷ (u ∷ us)) i l j e h = (rw e refl, (h, (t ∷ (u ∷ us), e, omega arith)))

  -- what an extractor gives has its outputs
  given_typed : (m b : Bool) (t : ℕ) (s : Site) → facts.multi t ≡ false → facts.multi t ≡ m → facts.infallible t ≡ b → IsGood s (facts.type_of t)
      → IsTypedSite (extract_site m b (extractor_call t s))
      × (sort facts tys (extract_site m b (extractor_call t s)) ≡ of_outputs (facts.inputs t))
  given_typed true b t s single m e h = absurd (let z : true ≡ false = sym m ∙ single in cc)
  given_typed false true t s single m e h = ((h.1, h.0, single), rw (m, e) refl)
  given_typed false false t s single m e h = (((h.1, h.0, single), (of_outputs (facts.inputs t), rw (m, e) refl)), rw (m, e) refl)

  -- what it needs is typed
  extract_typed : (m b : Bool) (t : ℕ) (s : Site) → facts.multi t ≡ false → facts.multi t ≡ m → facts.infallible t ≡ b
      → IsGood s (facts.type_of t) → EachSite IsTypedSite (extract_needs m b (extractor_call t s))
  extract_typed true b t s single m e h = absurd (let z : true ≡ false = sym m ∙ single in cc)
  extract_typed false true t s single m e h = tt
  extract_typed false false t s single m e h = ((given_typed false false t s single m e h).0, tt)

  -- so is what a pattern's term needs
  opened_needs : (shape : TermShape) (t u n : ℕ) (s : Site) → IsWellOpened facts shape t n → u ≡ facts.type_of t → IsGood s u
      → EachSite IsTypedSite (open_needs facts shape t n s)
  opened_needs (variant_shape k) t u n s w f h = fields_typed (match_variant s k) 0 n (λ j p q. (h.1, (u, h.0)))
  opened_needs struct_shape t u n s w f h = fields_typed (extract_struct s) 0 n (λ j p q. (h.1, (u, h.0)))
  opened_needs declared_shape t u n s w f h =
      let own : IsGood s (facts.type_of t) = subst (IsGood s) f h in
      let g = given_typed (facts.multi t) (facts.infallible t) t s (w.1) refl refl own in (
        (own.1, own.0, w.1),
        sites_append IsTypedSite (extract_needs (facts.multi t) (facts.infallible t) (extractor_call t s)) _
            (extract_typed (facts.multi t) (facts.infallible t) t s (w.1) refl refl own)
            (outputs_typed n (extract_site (facts.multi t) (facts.infallible t) (extractor_call t s)) (facts.inputs t) (w.0) (g.1) (g.0)),
      )

  -- the sites of a pattern's parts are of values of their types
  parts_good : (shape : TermShape) (ty t n : ℕ) (s : Site) (i : ℕ) → IsWellOpened facts shape t n → ty ≡ facts.type_of t
      → n ≡ length (part_types facts shape ty t) → i < n → IsGood s ty
      → IsGood (parts facts shape t n s i) (nth_type (part_types facts shape ty t) i)
  parts_good (variant_shape k) ty t n s i w f l j h = (rw (h.0) refl, (h.1, (ty, h.0)))
  parts_good struct_shape ty t n s i w f l j h = (rw (h.0) refl, (h.1, (ty, h.0)))
  parts_good declared_shape ty t n s i w f l j h =
      let g = given_typed (facts.multi t) (facts.infallible t) t s (w.1) refl refl (subst (IsGood s) f h) in
      output_good n (extract_site (facts.multi t) (facts.infallible t) (extractor_call t s)) (facts.inputs t) i (w.0) j (g.1) (g.0)

  -- what an extractor demands is of typed sites
  extractor_fits : (m b : Bool) (t : ℕ) (s : Site) → facts.multi t ≡ false → facts.multi t ≡ m → IsGood s (facts.type_of t)
      → Each Fits (extractor_demands m b (extractor_call t s))
  extractor_fits true b t s single m h = tt
  extractor_fits false true t s single m h = tt
  extractor_fits false false t s single m h = ((h.1, h.0, single), tt)

  -- so is what a pattern demands of its own site
  opens_fit : (shape : TermShape) (ty t n : ℕ) (s : Site) → IsWellOpened facts shape t n → ty ≡ facts.type_of t → IsGood s ty
      → Each Fits (opens facts shape ty t n s)
  opens_fit (variant_shape k) ty t n s w f h = (h.1, tt)
  opens_fit struct_shape ty t n s w f h = (h.1, tt)
  opens_fit declared_shape ty t n s w f h =
      extractor_fits (facts.multi t) (facts.infallible t) t s (w.1) refl (subst (IsGood s) f h)

  module _ (G : ℕ → ℕ) where
    -- the variables' sites are of values of their types
    abbrev AreGood : (ℕ → Type 0) → (ℕ → Site) → Type 0
    AreGood S vars = (k : ℕ) → S k → IsGood (vars k) (G k)

    -- one more variable's is
    set_good : (S : ℕ → Type 0) (vars : ℕ → Site) (j : ℕ) (s : Site) (u : ℕ) → AreGood S vars → IsGood s u → G j ≡ u
        → AreGood (λ k. (k ≡ j) ⊎ S k) (set vars j s)
    set_good S vars j s u g h e k i = go (k == j) refl i
      where
        go : (b : Bool) → (k == j) ≡ b → (k ≡ j) ⊎ S k → IsGood (set vars j s k) (G k)
        go true p x =
            let q : k ≡ j = eqb-true k j p in rw p (subst (IsGood s) (sym (ap G q ∙ e)) h)
        go false p (inl q) = absurd (let r : (k == k) ≡ true = eq-eqb k k refl in
            let z : (k == k) ≡ false = subst (λ (w : ℕ). (k == w) ≡ false) (sym q) p in cc)
        go false p (inr x) = rw p (g k x)

    -- what patterns need, demand and bind
    abbrev Seen : List Site → List Demand → (ℕ → Type 0) → (ℕ → Site) → Type 0
    Seen needed ds S vars = EachSite IsTypedSite needed × Each Fits ds × AreGood S vars

    mutual
      seen : (q : TypedPattern) (u : ℕ) (S : ℕ → Type 0) (vars : ℕ → Site) (s : Site) → IsWellScoped facts q S → IsTyped facts G q u
          → AreGood S vars → IsGood s u → Seen (needs facts q s) (demands facts q s vars) (scope q S) (bound facts q s vars)
      seen (typed_bind ty j q) u S vars s w t g h =
          let (a, b, c) = seen q u S vars s (w.0) (t.2) g h in (a, b, set_good (scope q S) (bound facts q s vars) j s u c h (t.1))
      seen (typed_var ty k) u S vars s w t g h = (tt, ((h.1, (g k w).1), tt), g)
      seen (typed_bool ty b) u S vars s w t g h = (tt, (h.1, tt), g)
      seen (typed_int ty n) u S vars s w t g h = (tt, (h.1, tt), g)
      seen (typed_prim ty n) u S vars s w t g h = (tt, (h.1, tt), g)
      seen (typed_term ty t ps) u S vars s w q g h =
          let h' : IsGood s ty = subst (IsGood s) (sym (q.0)) h in
          let own : ty ≡ facts.type_of t = q.0 ∙ sym (q.1) in
          let l = typed_count facts tys G ps (part_types facts (facts.shape t) ty t) (q.2) in
          let (a, b, c) = seen_all ps (part_types facts (facts.shape t) ty t) S vars (parts facts (facts.shape t) t (patterns ps) s) (w.1) (q.2) g
          (λ i j. parts_good (facts.shape t) ty t (patterns ps) s i (w.0) own l j h') in (
            sites_append IsTypedSite (open_needs facts (facts.shape t) t (patterns ps) s) _
                (opened_needs (facts.shape t) t ty (patterns ps) s (w.0) own h') a,
            each_append Fits (opens facts (facts.shape t) ty t (patterns ps) s) _
                (opens_fit (facts.shape t) ty t (patterns ps) s (w.0) own h') b,
            c,
          )
      seen (typed_wildcard ty) u S vars s w t g h = (tt, tt, g)
      seen (typed_and ty ps) u S vars s w t g h = seen_each ps u S vars s w (t.1) g h

      -- what patterns do, each at its own site
      seen_all : (ps : TypedPatterns) (us : List ℕ) (S : ℕ → Type 0) (vars : ℕ → Site) (at : ℕ → Site) → AreWellScoped facts ps S
          → AllTyped facts G ps us → AreGood S vars → ((i : ℕ) → i < patterns ps → IsGood (at i) (nth_type us i))
          → Seen (needs_all facts ps at) (demands_all facts ps at vars) (scope_all ps S) (bound_all facts ps at vars)
      seen_all no_typed us S vars at w t g h = (tt, tt, g)
      seen_all (more_typed q ps) [] S vars at w t g h = absurd t
      seen_all (more_typed q ps) (u ∷ us) S vars at w t g h =
          let (a, b, c) = seen q u S vars (at 0) (w.0) (t.0) g (h 0 (omega arith)) in
          let (d, e, f) = seen_all ps us (scope q S) (bound facts q (at 0) vars) (λ i. at (suc i)) (w.1) (t.1) c (λ i l. h (suc i) (omega arith))
          in (sites_append IsTypedSite (needs facts q (at 0)) _ a d, each_append Fits (demands facts q (at 0) vars) _ b e, f)

      -- what patterns do, all at one site
      seen_each : (ps : TypedPatterns) (u : ℕ) (S : ℕ → Type 0) (vars : ℕ → Site) (s : Site) → AreWellScoped facts ps S
          → EachTyped facts G ps u → AreGood S vars → IsGood s u
          → Seen (needs_all facts ps (λ i. s)) (demands_all facts ps (λ i. s) vars) (scope_all ps S) (bound_all facts ps (λ i. s) vars)
      seen_each no_typed u S vars s w t g h = (tt, tt, g)
      seen_each (more_typed q ps) u S vars s w t g h =
          let (a, b, c) = seen q u S vars s (w.0) (t.0) g h in
          let (d, e, f) = seen_each ps u (scope q S) (bound facts q s vars) s (w.1) (t.1) c h in
          (sites_append IsTypedSite (needs facts q s) _ a d, each_append Fits (demands facts q s vars) _ b e, f)

    -- arguments and their patterns
    args_seen : (ps : TypedPatterns) (us : List ℕ) (i : ℕ) (S : ℕ → Type 0) (vars : ℕ → Site) → AreWellScoped facts ps S → AllTyped facts G ps us
        → AreGood S vars → ((j : ℕ) → j < length us → IsGood (argument (i + j)) (nth_type us j)) → EachSite IsTypedSite (args_needs facts ps i)
    args_seen no_typed us i S vars w t g h = tt
    args_seen (more_typed q ps) [] i S vars w t g h = absurd t
    args_seen (more_typed q ps) (u ∷ us) i S vars w t g h =
        let e : i + 0 ≡ i = omega arith in
        let here : IsGood (argument i) u = subst (λ (k : ℕ). IsGood (argument k) u) e (h 0 (omega arith)) in
        let (a, b, c) = seen q u S vars (argument i) (w.0) (t.0) g here in
        let rest = args_seen ps us (suc i) (scope q S) (bound facts q (argument i) vars) (w.1) (t.1) c
        (λ j l. let f : i + suc j ≡ suc i + j = omega arith in subst (λ (k : ℕ). IsGood (argument k) (nth_type us j)) f (h (suc j) (omega arith))) in
        (here.1, sites_append IsTypedSite (needs facts q (argument i)) (args_needs facts ps (suc i)) a rest)

    -- ---- expressions

    -- a visit gives a value of the type, and what it needs is typed
    abbrev Visited : Site → ℕ → List Site → Type 0
    Visited s u needed = IsGood s u × EachSite IsTypedSite needed

    -- one of arguments does
    abbrev Args : Sites → List ℕ → List Site → Type 0
    Args ss us needed = AreTypedSites ss us × EachSite IsTypedSite needed

    -- what a call gives is a value of its type
    answer_good : (m b : Bool) (t u : ℕ) (ss : Sites) (i : ℕ) → facts.multi t ≡ false → facts.multi t ≡ m → facts.partial t ≡ b
        → facts.type_of t ≡ u → AreTypedSites ss (facts.inputs t)
        → IsGood (answer_site m b (constructor_call t ss i)) u × EachSite IsTypedSite (answer_needs m b (constructor_call t ss i))
    answer_good true b t u ss i single m e f h = absurd (let z : true ≡ false = sym m ∙ single in cc)
    answer_good false true t u ss i single m e f h =
        let call : IsTypedSite (constructor_call t ss i) = (h, single) in
        let given : IsTypedSite (match_some (constructor_call t ss i)) = (call, (plain_sort (facts.type_of t), rw (m, e) refl)) in
        ((rw (m, e, f) refl, given), (call, (given, tt)))
    answer_good false false t u ss i single m e f h =
        let call : IsTypedSite (constructor_call t ss i) = (h, single) in ((rw (m, e, f) refl, call), (call, tt))

    -- so is what a term does
    called_good : (b : Bool) (t u : ℕ) (r : Sites × Log) → facts.multi t ≡ false → facts.type_of t ≡ u → Args (r.0) (facts.inputs t) (r.1.needed)
        → Visited ((called facts b t r).0) u ((called facts b t r).1.needed)
    called_good true t u r single f h =
        let a = answer_good (facts.multi t) (facts.partial t) t u (r.0) zero single refl refl f (h.0) in
        (a.0, sites_append IsTypedSite (r.1.needed) _ (h.1) (a.1))
    called_good false t u r single f h =
        let a = answer_good (facts.multi t) (facts.partial t) t u (r.0) (suc (length (r.1.impure))) single refl refl f (h.0) in
        (a.0, sites_append IsTypedSite (r.1.needed) _ (h.1) (a.1))

    applied_good : (shape : TermShape) (ty t u : ℕ) (r : Sites × Log) → facts.shape t ≡ shape → IsSingle facts shape t → ty ≡ u
        → facts.type_of t ≡ u → Args (r.0) (part_types facts shape ty t) (r.1.needed)
        → Visited ((applied facts shape ty t r).0) u ((applied facts shape ty t r).1.needed)
    applied_good (variant_shape k) ty t u r is m e f h =
        let made : IsTypedSite (make_variant ty k (r.0)) = ((t, is, f ∙ sym e), h.0) in
        ((ap plain_sort e, made), sites_append IsTypedSite (r.1.needed) _ (h.1) (made, tt))
    applied_good struct_shape ty t u r is m e f h =
        let made : IsTypedSite (make_struct ty (r.0)) = ((t, is, f ∙ sym e), h.0) in
        ((ap plain_sort e, made), sites_append IsTypedSite (r.1.needed) _ (h.1) (made, tt))
    applied_good declared_shape ty t u r is m e f h = called_good (facts.pure t) t u r m f h

    module _ (R : ℕ → Type 0) where
      mutual
        visit_seen : (e : TypedExpr) (u : ℕ) (S : ℕ → Type 0) (vars : ℕ → Site) (log : Log) → IsSoundExpr p R e → ReadsExpr facts e S
            → ExprTyped facts G e u → AreGood S vars → EachSite IsTypedSite log.needed
            → Visited ((visit facts vars log e).0) u ((visit facts vars log e).1.needed)
        visit_seen (built_var ty k) u S vars log o r t g h = (subst (IsGood (vars k)) (t.1) (g k r), h)
        visit_seen (built_bool ty b) u S vars log o r t g h = ((ap plain_sort t, o), sites_append IsTypedSite log.needed _ h (o, tt))
        visit_seen (built_int ty n) u S vars log o r t g h = ((ap plain_sort t, o), sites_append IsTypedSite log.needed _ h (o, tt))
        visit_seen (built_prim ty n) u S vars log o r t g h =
            let own : IsTypedSite (prim_site n) = subst (IsValueOf p.values (constant_value n)) (t.0 ∙ sym (t.1)) o in
            ((ap plain_sort (t.1), own), sites_append IsTypedSite log.needed _ h (own, tt))
        visit_seen (built_term ty t es) u S vars log o r q g h =
            let a = visit_all_seen es (part_types facts (facts.shape t) ty t) S vars log (o.1) (r.1) (q.2) g h in
            applied_good (facts.shape t) ty t u (visit_all facts vars log es) refl (r.0) (q.0) (q.1) a
        visit_seen (built_let ty bs body) u S vars log o r t g h =
            let q = visit_lets_seen bs S vars log (o.0) (r.0) (t.0) g h in
            visit_seen body u (let_scope bs S) ((visit_lets facts vars log bs).0) ((visit_lets facts vars log bs).1) (o.1) (r.1) (t.1) (q.0) (q.1)

        -- what visits of expressions do
        visit_all_seen : (es : TypedExprs) (us : List ℕ) (S : ℕ → Type 0) (vars : ℕ → Site) (log : Log) → AreSoundExprs p R es
            → ReadExprs facts es S → ExprsTyped facts G es us → AreGood S vars → EachSite IsTypedSite log.needed
            → Args ((visit_all facts vars log es).0) us ((visit_all facts vars log es).1.needed)
        visit_all_seen no_built [] S vars log o r t g h = (tt, h)
        visit_all_seen no_built (u ∷ us) S vars log o r t g h = absurd t
        visit_all_seen (more_built e es) [] S vars log o r t g h = absurd t
        visit_all_seen (more_built e es) (u ∷ us) S vars log o r t g h =
            let a = visit_seen e u S vars log (o.0) (r.0) (t.0) g h in
            let q = visit_all_seen es us S vars ((visit facts vars log e).1) (o.1) (r.1) (t.1) g (a.1) in
            ((a.0, q.0), q.1)

        -- what visits of bindings do
        visit_lets_seen : (bs : TypedBindings) (S : ℕ → Type 0) (vars : ℕ → Site) (log : Log) → AreSoundBindings p R bs → ReadsLets facts bs S
            → BindingsTyped facts G bs → AreGood S vars → EachSite IsTypedSite log.needed
            → AreGood (let_scope bs S) ((visit_lets facts vars log bs).0) × EachSite IsTypedSite ((visit_lets facts vars log bs).1.needed)
        visit_lets_seen no_typed_bindings S vars log o r t g h = (g, h)
        visit_lets_seen (more_typed_bindings k ty e bs) S vars log o r t g h =
            let a = visit_seen e ty S vars log (o.0) (r.0) (t.1) g h in
            visit_lets_seen bs (λ j. (j ≡ k) ⊎ S j) (set vars k ((visit facts vars log e).0)) ((visit facts vars log e).1) (o.1) (r.1) (t.2)
            (set_good S vars k _ ty g (a.0) (t.0)) (a.1)

      -- what the variables stand for after some if-lets
      abbrev vars_after : TypedRule → List TypedIfLet → ℕ → Site
      vars_after rule before = iflets_bound facts before (args_bound facts rule)

      -- after one more
      one_more : (start : ℕ → Site) (before : List TypedIfLet) (x : TypedIfLet) → iflets_bound facts (before ++ x ∷ []) start
          ≡ bound facts x.pattern (iflet_site facts (iflets_bound facts before start) x) (iflets_bound facts before start)
      one_more start [] x = refl
      one_more start (y ∷ before) x = one_more (bound facts y.pattern (iflet_site facts start y) start) before x

      -- a visit gives the site of what is written out
      written : (rule : TypedRule) (before : List TypedIfLet) (e : TypedExpr)
          → (visit facts (vars_after rule before) no_log e).0 ≡ site_of facts (vars_after rule before) (word_of facts e)
      written rule before e = (visit_is_written facts (record rule { iflets = before; right = e })).0

      -- what the rest of a rule's if-lets need, demand and bind
      iflets_seen : (rule : TypedRule) (xs before : List TypedIfLet) (S : ℕ → Type 0) → AreSoundIfLets p R xs → IfLetsAreWellScoped facts xs S
          → IfLetsTyped facts G xs → AreGood S (vars_after rule before)
          → Seen (iflets_needs facts xs (vars_after rule before)) (iflets_demands facts xs (vars_after rule before)) (iflets_scope xs S)
          (iflets_bound facts xs (vars_after rule before))
      iflets_seen rule [] before S o w t g = (tt, tt, g)
      iflets_seen rule (x ∷ xs) before S o w t g =
          let (u, e, q) = t.0 in
          let v = visit_seen x.value u S (vars_after rule before) no_log (o.0) (w.0) e g tt in
          let h : IsGood (iflet_site facts (vars_after rule before) x) u = subst (λ (z : Site). IsGood z u) (written rule before x.value) (v.0) in
          let (a, b, c) = seen x.pattern u S (vars_after rule before) (iflet_site facts (vars_after rule before) x) (w.1) q g h in
          let more = one_more (args_bound facts rule) before x in
          let rest = iflets_seen rule xs (before ++ x ∷ []) (scope x.pattern S) (o.1) (w.2) (t.1)
          (subst (AreGood (scope x.pattern S)) (sym more) c) in
          let (d, f, i) = subst (λ (z : ℕ → Site). Seen (iflets_needs facts xs z) (iflets_demands facts xs z)
          (iflets_scope xs (scope x.pattern S)) (iflets_bound facts xs z)) more rest in (
            sites_append IsTypedSite ((visit facts (vars_after rule before) no_log x.value).1.needed) _ (v.1)
                (sites_append IsTypedSite (needs facts x.pattern (iflet_site facts (vars_after rule before) x)) _ a d),
            each_append Fits (contents (iflet_site facts (vars_after rule before) x)) _
                (contents_fit (iflet_site facts (vars_after rule before) x) (h.1))
                (each_append Fits
                (demands facts x.pattern (iflet_site facts (vars_after rule before) x) (vars_after rule before)) _ b f),
            i,
          )

  -- a made option is typed
  some_typed : (b : Bool) (s : Site) (u : ℕ) → IsGood s u → IsTypedSite (some_of b s)
  some_typed true s u h = (h.1, (u, h.0))
  some_typed false s u h = h.1

-- the sites of a sound rule: of its patterns, of its if-lets, and what its right side's visit gives
rule_seen : (p : CheckedProgram) (R : ℕ → Type 0) (rule : TypedRule) → IsSoundRule p R rule
    → EachSite (IsTypedSite p (p.terms.inputs rule.root)) (args_needs p.terms rule.args 0)
    × EachSite (IsTypedSite p (p.terms.inputs rule.root)) (iflets_needs p.terms rule.iflets (args_bound p.terms rule))
    × Each (SpeaksOf (IsTypedSite p (p.terms.inputs rule.root))) (demands_of p.terms rule)
    × (IsGood p (p.terms.inputs rule.root) ((visit p.terms (vars_of p.terms rule) no_log rule.right).0) (p.terms.type_of rule.root)
    × EachSite (IsTypedSite p (p.terms.inputs rule.root)) ((visit p.terms (vars_of p.terms rule) no_log rule.right).1.needed))
rule_seen p R rule sound =
    let facts = p.terms in
    let tys = p.terms.inputs rule.root in
    let F : Demand → Type 0 = SpeaksOf (IsTypedSite p tys) in
    let G = sound.var_types in
    let well = sound.well in
    let typed = sound.typed in
    let begins : AreGood p tys G none nothing = λ k n. absurd n in
    let (a, b, c) = seen_all p tys G rule.args tys none nothing argument well.args typed.args begins
    (λ i l. let m = typed_count facts tys G rule.args tys typed.args in (refl, omega arith)) in
    let args = args_seen p tys G rule.args tys 0 none nothing well.args typed.args begins
    (λ j l. let e : 0 + j ≡ j = omega arith in subst (λ (k : ℕ). IsGood p tys (argument k) (nth_type tys j)) (sym e) (refl, l)) in
    let (d, e, f) = iflets_seen p tys G R rule rule.iflets [] (λ k. scope_all rule.args none k) sound.iflets well.iflets typed.iflets c in
    let v = visit_seen p tys G R rule.right (p.terms.type_of rule.root) (scope_of rule) (vars_of facts rule) no_log sound.right well.right typed.right
    f tt in (
      args,
      d,
      each_append F (demands_all facts rule.args argument nothing) _ b e,
      v,
    )

-- What a sound rule needs, its result, and what it demands.
pub rule_typed : (p : CheckedProgram) (R : ℕ → Type 0) (rule : TypedRule) → IsSoundRule p R rule
    → ((s : Site) → IsNeeded (needs_of p.terms rule) s → IsTypedSite p (p.terms.inputs rule.root) s)
    × ((b : Bool) → IsTypedSite p (p.terms.inputs rule.root) (result_of p.terms b rule))
    × ((d : Demand) → DemandOf p.terms rule d → SpeaksOf (IsTypedSite p (p.terms.inputs rule.root)) d)
rule_typed p R rule sound =
    let facts = p.terms in
    let tys = p.terms.inputs rule.root in
    let W : Site → Type 0 = IsTypedSite p tys in
    let u = p.terms.type_of rule.root in
    let (args, d, fits, v) = rule_seen p R rule sound in (
      λ s n. each_needed W (needs_of facts rule) s
          (sites_append W (args_needs facts rule.args 0) _ args
          (sites_append W (iflets_needs facts rule.iflets (args_bound facts rule)) _ d (v.1))) n,
      λ k. some_typed p tys k _ u (subst (λ (z : Site). IsGood p tys z u) ((visit_is_written facts rule).0) (v.0)),
      among (SpeaksOf W) (demands_of facts rule) fits,
    )

-- Its result is of the term's type, or an option of one where the term may fail.
pub result_sort : (p : CheckedProgram) (R : ℕ → Type 0) (rule : TypedRule) → IsSoundRule p R rule → (b : Bool)
    → sort p.terms (p.terms.inputs rule.root) (result_of p.terms b rule) ≡ option_sort_if b (plain_sort (p.terms.type_of rule.root))
result_sort p R rule sound b =
    let (args, d, fits, v) = rule_seen p R rule sound in
    let u = p.terms.type_of rule.root in
    let tys = p.terms.inputs rule.root in
    of_option b (site_of p.terms (vars_of p.terms rule) (word_of p.terms rule.right))
    ((subst (λ (z : Site). IsGood p tys z u) ((visit_is_written p.terms rule).0) (v.0)).0)
  where
    of_option : (b : Bool) (s : Site) → sort p.terms (p.terms.inputs rule.root) s ≡ plain_sort (p.terms.type_of rule.root)
        → sort p.terms (p.terms.inputs rule.root) (some_of b s) ≡ option_sort_if b (plain_sort (p.terms.type_of rule.root))
    of_option true s e = ap option_sort e
    of_option false s e = e
