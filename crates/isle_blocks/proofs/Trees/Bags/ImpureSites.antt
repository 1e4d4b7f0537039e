-- The impure calls of what a rule needs are those of its right side, each by its number.
use Rattle.std.proofs.Common.{◌≡◌, ◌⊎◌, inl, inr, ℕ, zero, suc, ◌==◌, List, [], ◌∷◌, ◌++◌, map, length, Bool, true, false, Some, slice_get, refl, ap, sym}
use Rattle.std.proofs.Common.{subst, ◌∙◌}
use Rattle.std.proofs.lemmas.Option.{none-some}
use Rattle.isle_rules.specs.TypedRules.{TypedPattern, typed_bind, typed_var, typed_bool, typed_int, typed_prim, typed_term, typed_wildcard}
use Rattle.isle_rules.specs.TypedRules.{typed_and, TypedPatterns, no_typed, more_typed, TypedExpr, built_var, built_bool, built_int}
use Rattle.isle_rules.specs.TypedRules.{built_prim, built_term, built_let, TypedExprs, no_built, more_built, TypedBindings, no_typed_bindings}
use Rattle.isle_rules.specs.TypedRules.{more_typed_bindings, TypedIfLet, TypedRule}
use Rattle.isle_meaning.specs.AboutSites.ImpureCalls.{IsImpureCall, IsPure, IfLetsArePure}
use Rattle.isle_meaning.specs.AboutSites.Parts.{IsOneOf}
use Rattle.isle_meaning.specs.Demands.{parts, bound, iflet_site, args_bound, vars_of, impure_of, nothing}
use Rattle.isle_meaning.specs.Facts.{TermShape, variant_shape, struct_shape, declared_shape, TermFacts, patterns}
use Rattle.isle_meaning.specs.Needs.{from_on, extract_needs, output_needs, open_needs, needs, needs_all, args_needs, Log, no_log, need}
use Rattle.isle_meaning.specs.Needs.{answer_needs, called, applied, visit, visit_all, visit_lets, iflets_needs, needs_of, IsNeeded}
use Rattle.isle_meaning.specs.Scopes.{OfCall, OfCalls, OfAllCalls}
use Rattle.isle_meaning.specs.Sites.{Site, bool_site, int_site, prim_site, argument, extractor_call, constructor_call, iterator}
use Rattle.isle_meaning.specs.Sites.{make_variant, match_variant, make_struct, extract_struct, match_some, match_tuple}
use Rattle.isle_meaning.specs.Sites.{Sites, more_sites, answer_site, extract_site, step_site}
use Rattle.isle_meaning.specs.Words.{var_word, set}
use Rattle.isle_meaning.proofs.Chains.Causing.{get_append, get_last}
use Rattle.isle_meaning.proofs.Matching.Visited.{visited}
use Rattle.isle_meaning.proofs.Sites.Carried.{parts_carried, pattern_carries, patterns_carry}
use Rattle.isle_meaning.proofs.Sites.Parts.{OfSubtrees, of_whole, of_one, EachSite, sites_append, each_needed}
use Rattle.isle_meaning.proofs.Sites.Pure.{pure_carried}

-- one of two lists' sites
needed_either : (s : Site) (xs ys : List Site) → IsNeeded (xs ++ ys) s → IsNeeded xs s ⊎ IsNeeded ys s
needed_either s [] ys h = inr h
needed_either s (x ∷ xs) ys (inl e) = inl (inl e)
needed_either s (x ∷ xs) ys (inr h) = elim (needed_either s xs ys h) [ inl k ↦ inl (inr k) | inr k ↦ inr k ]

-- what stands in the first list stands in the second, at the same place
abbrev Extends : List Site → List Site → Type 0
Extends xs ys = (i : ℕ) (s : Site) → slice_get xs i ≡ Some s → slice_get ys i ≡ Some s

module _ (facts : TermFacts) where
  -- what a call gives
  abbrev answer : ℕ → Sites → ℕ → Site
  answer t ss i = answer_site (facts.multi t) (facts.partial t) (constructor_call t ss i)

  -- an impure call stands among these at its number
  abbrev HasNumber : List Site → Site → Type 0
  HasNumber calls u = (t : ℕ) (ss : Sites) (i : ℕ) → u ≡ constructor_call t ss (suc i) → slice_get calls i ≡ Some (answer t ss (suc i))

  -- so does each that the site has
  abbrev pub IsLogged : List Site → Site → Type 0
  IsLogged calls s = OfSubtrees (HasNumber calls) s

  -- they stand among more
  logged_more : (xs ys : List Site) (s : Site) → Extends xs ys → IsLogged xs s → IsLogged ys s
  logged_more xs ys s f h u m t ss i e = f i (answer t ss (suc i)) (h u m t ss i e)

  each_more : (xs ys ss : List Site) → Extends xs ys → EachSite (IsLogged xs) ss → EachSite (IsLogged ys) ss
  each_more xs ys [] f h = tt
  each_more xs ys (s ∷ ss) f h = (logged_more xs ys s f (h.0), each_more xs ys ss f (h.1))

  -- a site without impure calls has none, and the other way round
  pure_logged : (calls : List Site) (s : Site) → IsPure s → IsLogged calls s
  pure_logged calls s h u m t ss i e = absurd (h u m (subst IsImpureCall (sym e) tt))

  none_impure : (u : Site) → HasNumber [] u → IsImpureCall u → ⊥
  none_impure (constructor_call t ss (suc i)) h z = none-some (answer t ss (suc i)) (h t ss i refl)
  none_impure u h z = absurd z

  logged_pure : (s : Site) → IsLogged [] s → IsPure s
  logged_pure s h u m z = none_impure u (h u m) z

  -- what a call gives, and needs
  answer_logged : (m b : Bool) (calls : List Site) (c : Site) → IsLogged calls c
      → IsLogged calls (answer_site m b c) × EachSite (IsLogged calls) (answer_needs m b c)
  answer_logged true b calls c h =
      let all : IsLogged calls (iterator c) =
      of_whole (HasNumber calls) (iterator c) (λ t ss i e. absurd cc) (λ u m. of_one (HasNumber calls) c u h m) in (all, (h, (all, tt)))
  answer_logged false true calls c h =
      let all : IsLogged calls (match_some c) =
      of_whole (HasNumber calls) (match_some c) (λ t ss i e. absurd cc) (λ u m. of_one (HasNumber calls) c u h m) in (all, (h, (all, tt)))
  answer_logged false false calls c h = (h, (h, tt))

  -- an impure call that is logged last
  last_logged : (calls : List Site) (t : ℕ) (ss : Sites) → HasNumber (calls ++ answer t ss (suc (length calls)) ∷ [])
      (constructor_call t ss (suc (length calls)))
  last_logged calls t ss u us i e =
      let p : t ≡ u = cc in let q : length calls ≡ i = cc in
      let new = calls ++ answer t ss (suc (length calls)) ∷ [] in
      let same : answer t ss (suc (length calls)) ≡ answer u us (suc i) =
      ap (λ (z : ℕ). answer_site (facts.multi z) (facts.partial z) (constructor_call t ss (suc (length calls)))) p
      ∙ ap (answer_site (facts.multi u) (facts.partial u)) e in
      subst (λ (z : ℕ). slice_get new z ≡ Some (answer u us (suc i))) q (get_last calls (answer t ss (suc (length calls))) ∙ ap Some same)

  -- what a visit leaves
  abbrev Left : Log → Site → Log → Type 0
  Left old s log = Extends old.impure log.impure × IsLogged log.impure s × EachSite (IsLogged log.impure) log.needed

  -- what visits of arguments leave
  abbrev LeftAll : Log → Sites → Log → Type 0
  LeftAll old ss log = Extends old.impure log.impure × ((u : Site) → IsOneOf ss u → IsLogged log.impure u) × EachSite (IsLogged log.impure) log.needed

  -- a constant, or made data
  one_left : (old : Log) (log : Log) (s : Site) → Extends old.impure log.impure → IsLogged log.impure s → EachSite (IsLogged log.impure) log.needed
      → Left old s (need (s ∷ []) log)
  one_left old log s f h g = (f, h, sites_append (IsLogged log.impure) log.needed (s ∷ []) g (h, tt))

  -- a call
  called_left : (b : Bool) (t : ℕ) (old : Log) (r : Sites × Log) → LeftAll old (r.0) (r.1)
      → Left old ((called facts b t r).0) ((called facts b t r).1)
  called_left true t old r (f, h, g) =
      let calls = r.1.impure in
      let call : IsLogged calls (constructor_call t (r.0) zero) =
      of_whole (HasNumber calls) (constructor_call t (r.0) zero) (λ u us i e. absurd cc) h in
      let (a, n) = answer_logged (facts.multi t) (facts.partial t) calls (constructor_call t (r.0) zero) call in
      (f, a, sites_append (IsLogged calls) (r.1.needed) _ g n)
  called_left false t old r (f, h, g) =
      let calls = r.1.impure in let last = answer t (r.0) (suc (length calls)) in
      let new = calls ++ last ∷ [] in
      let more : Extends calls new = λ i s e. get_append calls (last ∷ []) i s e in
      let call : IsLogged new (constructor_call t (r.0) (suc (length calls))) =
      of_whole (HasNumber new) (constructor_call t (r.0) (suc (length calls))) (last_logged calls t (r.0))
      (λ u m. logged_more calls new u more (h u m)) in
      let (a, n) = answer_logged (facts.multi t) (facts.partial t) new (constructor_call t (r.0) (suc (length calls))) call in
      (λ i s e. more i s (f i s e), a, sites_append (IsLogged new) (r.1.needed) _ (each_more calls new (r.1.needed) more g) n)

  -- a term
  applied_left : (shape : TermShape) (ty t : ℕ) (old : Log) (r : Sites × Log) → LeftAll old (r.0) (r.1)
      → Left old ((applied facts shape ty t r).0) ((applied facts shape ty t r).1)
  applied_left (variant_shape k) ty t old r (f, h, g) =
      one_left old (r.1) (make_variant ty k (r.0)) f (of_whole (HasNumber (r.1.impure)) (make_variant ty k (r.0)) (λ u us i e. absurd cc) h) g
  applied_left struct_shape ty t old r (f, h, g) =
      one_left old (r.1) (make_struct ty (r.0)) f (of_whole (HasNumber (r.1.impure)) (make_struct ty (r.0)) (λ u us i e. absurd cc) h) g
  applied_left declared_shape ty t old r h = called_left (facts.pure t) t old r h

  -- the variables stand for such sites
  abbrev AllLogged : List Site → (ℕ → Site) → Type 0
  AllLogged calls vars = (k : ℕ) → IsLogged calls (vars k)

  vars_more : (xs ys : List Site) (vars : ℕ → Site) → Extends xs ys → AllLogged xs vars → AllLogged ys vars
  vars_more xs ys vars f v k = logged_more xs ys (vars k) f (v k)

  set_logged : (calls : List Site) (vars : ℕ → Site) (j : ℕ) (s : Site) → AllLogged calls vars → IsLogged calls s → AllLogged calls (set vars j s)
  set_logged calls vars j s v h k = go (k == j) refl
    where
      go : (b : Bool) → (k == j) ≡ b → IsLogged calls (set vars j s k)
      go true e = rw e h
      go false e = rw e (v k)

  mutual
    -- an expression
    visit_left : (e : TypedExpr) (vars : ℕ → Site) (log : Log) → AllLogged log.impure vars → EachSite (IsLogged log.impure) log.needed
        → Left log ((visit facts vars log e).0) ((visit facts vars log e).1)
    visit_left (built_var ty k) vars log v h = (λ i s e. e, v k, h)
    visit_left (built_bool ty b) vars log v h =
        one_left log log (bool_site b ty) (λ i s e. e) (of_whole (HasNumber log.impure) (bool_site b ty) (λ t ss i e. absurd cc) (λ u m. absurd m)) h
    visit_left (built_int ty n) vars log v h =
        one_left log log (int_site n ty) (λ i s e. e) (of_whole (HasNumber log.impure) (int_site n ty) (λ t ss i e. absurd cc) (λ u m. absurd m)) h
    visit_left (built_prim ty n) vars log v h =
        one_left log log (prim_site n) (λ i s e. e) (of_whole (HasNumber log.impure) (prim_site n) (λ t ss i e. absurd cc) (λ u m. absurd m)) h
    visit_left (built_term ty t es) vars log v h =
        applied_left (facts.shape t) ty t log (visit_all facts vars log es) (all_left es vars log v h)
    visit_left (built_let ty bs body) vars log v h =
        let (f, w, g) = lets_left bs vars log v h in
        let (k, s, n) = visit_left body ((visit_lets facts vars log bs).0) ((visit_lets facts vars log bs).1) w g in
        (λ i u e. k i u (f i u e), s, n)

    -- expressions
    all_left : (es : TypedExprs) (vars : ℕ → Site) (log : Log) → AllLogged log.impure vars → EachSite (IsLogged log.impure) log.needed
        → LeftAll log ((visit_all facts vars log es).0) ((visit_all facts vars log es).1)
    all_left no_built vars log v h = (λ i s e. e, (λ u m. absurd m), h)
    all_left (more_built e es) vars log v h =
        let mid = (visit facts vars log e).1 in
        let (f, s, g) = visit_left e vars log v h in
        let (k, ss, n) = all_left es vars mid (vars_more log.impure mid.impure vars f v) g in (
          λ i u q. k i u (f i u q),
          λ u m. one_of u ((visit facts vars log e).0) ((visit_all facts vars mid es).0) ((visit_all facts vars mid es).1.impure)
              (logged_more mid.impure ((visit_all facts vars mid es).1.impure) ((visit facts vars log e).0) k s) ss m,
          n,
        )
      where
        one_of : (u s : Site) (ss : Sites) (calls : List Site) → IsLogged calls s → ((w : Site) → IsOneOf ss w → IsLogged calls w)
            → IsOneOf (more_sites s ss) u → IsLogged calls u
        one_of u s ss calls g f (inl e) = subst (IsLogged calls) (sym e) g
        one_of u s ss calls g f (inr m) = f u m

    -- bindings
    lets_left : (bs : TypedBindings) (vars : ℕ → Site) (log : Log) → AllLogged log.impure vars → EachSite (IsLogged log.impure) log.needed
        → Extends log.impure ((visit_lets facts vars log bs).1.impure)
        × AllLogged ((visit_lets facts vars log bs).1.impure) ((visit_lets facts vars log bs).0)
        × EachSite (IsLogged ((visit_lets facts vars log bs).1.impure)) ((visit_lets facts vars log bs).1.needed)
    lets_left no_typed_bindings vars log v h = (λ i s e. e, v, h)
    lets_left (more_typed_bindings k ty e bs) vars log v h =
        let mid = (visit facts vars log e).1 in
        let (f, s, g) = visit_left e vars log v h in
        let (l, w, n) = lets_left bs (set vars k ((visit facts vars log e).0)) mid
        (set_logged mid.impure vars k ((visit facts vars log e).0) (vars_more log.impure mid.impure vars f v) s) g in
        (λ i u q. l i u (f i u q), w, n)

  -- ---- patterns and if-lets

  -- an extractor's call
  call_pure : (t : ℕ) (s : Site) → IsPure s → IsPure (extractor_call t s)
  call_pure t s h =
      of_whole (λ (u : Site). IsImpureCall u → ⊥) (extractor_call t s) (λ z. z) (λ u m. of_one (λ (u : Site). IsImpureCall u → ⊥) s u h m)

  -- that of a term
  term_pure : (shape : TermShape) (t : ℕ) (s : Site) → IsPure s → OfCall IsPure shape t s
  term_pure (variant_shape k) t s h = tt
  term_pure struct_shape t s h = tt
  term_pure declared_shape t s h = call_pure t s h

  -- the sites of a pattern's parts
  parts_pure : (shape : TermShape) (t n : ℕ) (s : Site) → IsPure s → (i : ℕ) → IsPure (parts facts shape t n s i)
  parts_pure shape t n s h i = parts_carried facts IsPure pure_carried shape t n s i (term_pure shape t s h) h

  -- so many
  each_from : (f : ℕ → Site) (i n : ℕ) → ((j : ℕ) → IsPure (f j)) → EachSite IsPure (from_on f i n)
  each_from f i zero h = tt
  each_from f i (suc n) h = (h i, each_from f (suc i) n h)

  -- what an extractor's call gives
  extract_pure : (m b : Bool) (s : Site) → IsPure s → EachSite IsPure (extract_needs m b s) × IsPure (extract_site m b s)
  extract_pure true b s h = let k = pure_carried.item s h in ((k, tt), k)
  extract_pure false true s h = (tt, h)
  extract_pure false false s h = let k = pure_carried.content s h in ((k, tt), k)

  -- its outputs
  outputs_pure : (n : ℕ) (s : Site) → IsPure s → EachSite IsPure (output_needs n s)
  outputs_pure zero s h = tt
  outputs_pure (suc zero) s h = tt
  outputs_pure (suc (suc n)) s h = each_from (match_tuple s) 0 (suc (suc n)) (λ j. pure_carried.output s j h)

  -- what a term's pattern needs
  open_pure : (shape : TermShape) (t n : ℕ) (s : Site) → IsPure s → EachSite IsPure (open_needs facts shape t n s)
  open_pure (variant_shape k) t n s h = each_from (match_variant s k) 0 n (λ j. pure_carried.variant s k j h)
  open_pure struct_shape t n s h = each_from (extract_struct s) 0 n (λ j. pure_carried.struct s j h)
  open_pure declared_shape t n s h =
      let c = call_pure t s h in
      let (a, b) = extract_pure (facts.multi t) (facts.infallible t) (extractor_call t s) c in
      (c, sites_append IsPure (extract_needs (facts.multi t) (facts.infallible t) (extractor_call t s)) _ a (outputs_pure n _ b))

  mutual
    -- what a pattern needs, and its calls
    pattern_pure : (p : TypedPattern) (s : Site) → IsPure s → EachSite IsPure (needs facts p s) × OfCalls facts IsPure p s
    pattern_pure (typed_bind ty k p) s h = pattern_pure p s h
    pattern_pure (typed_var ty k) s h = (tt, tt)
    pattern_pure (typed_bool ty b) s h = (tt, tt)
    pattern_pure (typed_int ty n) s h = (tt, tt)
    pattern_pure (typed_prim ty n) s h = (tt, tt)
    pattern_pure (typed_term ty t ps) s h =
        let (a, b) = patterns_pure ps (parts facts (facts.shape t) t (patterns ps) s) (parts_pure (facts.shape t) t (patterns ps) s h) in (
          sites_append IsPure (open_needs facts (facts.shape t) t (patterns ps) s) _ (open_pure (facts.shape t) t (patterns ps) s h) a,
          (term_pure (facts.shape t) t s h, b),
        )
    pattern_pure (typed_wildcard ty) s h = (tt, tt)
    pattern_pure (typed_and ty ps) s h = patterns_pure ps (λ i. s) (λ i. h)

    -- so patterns
    patterns_pure : (ps : TypedPatterns) (at : ℕ → Site) → ((i : ℕ) → IsPure (at i)) → EachSite IsPure (needs_all facts ps at)
        × OfAllCalls facts IsPure ps at
    patterns_pure no_typed at h = (tt, tt)
    patterns_pure (more_typed p ps) at h =
        let (a, b) = pattern_pure p (at 0) (h 0) in
        let (c, d) = patterns_pure ps (λ i. at (suc i)) (λ i. h (suc i)) in (sites_append IsPure (needs facts p (at 0)) _ a c, (b, d))

  -- the arguments and their patterns
  args_pure : (ps : TypedPatterns) (i : ℕ) → EachSite IsPure (args_needs facts ps i)
  args_pure no_typed i = tt
  args_pure (more_typed p ps) i = (
    pure_carried.argument i,
    sites_append IsPure (needs facts p (argument i)) _ ((pattern_pure p (argument i) (pure_carried.argument i)).0)
        (args_pure ps (suc i)),
  )

  -- each without impure calls
  each_pure : (ss : List Site) → EachSite (IsLogged []) ss → EachSite IsPure ss
  each_pure [] h = tt
  each_pure (s ∷ ss) h = (logged_pure s (h.0), each_pure ss (h.1))

  -- if-lets
  iflets_pure : (xs : List TypedIfLet) (vars : ℕ → Site) → ((k : ℕ) → IsPure (vars k)) → IfLetsArePure facts xs
      → EachSite IsPure (iflets_needs facts xs vars)
  iflets_pure [] vars v h = tt
  iflets_pure (x ∷ xs) vars v h =
      let site = iflet_site facts vars x in
      let (f, s, g) = visit_left x.value vars no_log (λ k. pure_logged [] (vars k) (v k)) tt in
      let (same, logged) = visited facts vars x.value (λ k. var_word k) vars (λ j. refl) [] no_log refl in
      let none : (visit facts vars no_log x.value).1.impure ≡ [] = logged ∙ ap (map (step_site facts vars)) (h.0) in
      let pure : IsPure site = subst IsPure same (logged_pure _
      (subst (λ (calls : List Site). IsLogged calls ((visit facts vars no_log x.value).0)) none s)) in
      let all = each_pure ((visit facts vars no_log x.value).1.needed)
      (subst (λ (calls : List Site). EachSite (IsLogged calls) ((visit facts vars no_log x.value).1.needed)) none g) in
      let (a, b) = pattern_pure x.pattern site pure in
      let next = (pattern_carries facts IsPure pure_carried x.pattern site vars b v pure).1 in
      sites_append IsPure ((visit facts vars no_log x.value).1.needed) _ all
      (sites_append IsPure (needs facts x.pattern site) _ a (iflets_pure xs (bound facts x.pattern site vars) next (h.1)))

  module _ (rule : TypedRule) (pure : IfLetsArePure facts rule.iflets) where
    -- the variables after the arguments
    args_vars : (k : ℕ) → IsPure (args_bound facts rule k)
    args_vars k =
        (patterns_carry facts IsPure pure_carried rule.args argument nothing ((patterns_pure rule.args argument pure_carried.argument).1)
        pure_carried.nothing pure_carried.argument).1 k

    -- Each site that the rule needs has only impure calls of its right side.
    pub needed_logged : ((k : ℕ) → IsPure (vars_of facts rule k)) → (s : Site) → IsNeeded (needs_of facts rule) s → IsLogged (impure_of facts rule) s
    needed_logged v s n =
        let (f, g, all) = visit_left rule.right (vars_of facts rule) no_log (λ k. pure_logged [] (vars_of facts rule k) (v k)) tt in
        let (same, logged) = visited facts (vars_of facts rule) rule.right (λ k. var_word k) (vars_of facts rule) (λ j. refl) [] no_log refl in
        elim (needed_either s (args_needs facts rule.args 0) _ n) [
          | inl k ↦ pure_logged (impure_of facts rule) s (each_needed IsPure (args_needs facts rule.args 0) s (args_pure rule.args 0) k)
          | inr k ↦ elim (needed_either s (iflets_needs facts rule.iflets (args_bound facts rule)) _ k) [
            | inl l ↦ pure_logged (impure_of facts rule) s
                (each_needed IsPure (iflets_needs facts rule.iflets (args_bound facts rule)) s
                (iflets_pure rule.iflets (args_bound facts rule) args_vars pure) l)
            | inr l ↦ subst (λ (calls : List Site). IsLogged calls s) logged
                (each_needed (IsLogged ((visit facts (vars_of facts rule) no_log rule.right).1.impure))
                ((visit facts (vars_of facts rule) no_log rule.right).1.needed) s all l)
          ]
        ]
