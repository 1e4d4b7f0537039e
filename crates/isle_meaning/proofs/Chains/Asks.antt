-- Which calls a rule asks in its patterns and if-lets.
use Rattle.std.proofs.Common.{◌≡◌, ℕ, zero, suc, List, [], ◌∷◌, ◌++◌, Bool, true, false, ◌==◌, refl, subst}
use Rattle.isle_rules.specs.TypedRules.{TypedPattern, typed_bind, typed_var, typed_bool, typed_int, typed_prim, typed_term, typed_wildcard}
use Rattle.isle_rules.specs.TypedRules.{typed_and, TypedPatterns, no_typed, more_typed, TypedExpr, built_var, built_bool, built_int}
use Rattle.isle_rules.specs.TypedRules.{built_prim, built_term, built_let, TypedExprs, no_built, more_built, TypedBindings, no_typed_bindings}
use Rattle.isle_rules.specs.TypedRules.{more_typed_bindings, TypedIfLet, TypedRule}
use Rattle.isle_meaning.specs.Facts.{TermShape, variant_shape, struct_shape, declared_shape, TermFacts, patterns}
use Rattle.isle_meaning.specs.Words.{Word, var_word, bool_word, int_word, prim_word, variant_word, struct_word, call_word, Words}
use Rattle.isle_meaning.specs.Words.{no_words, more_words, Step, set, flat, flat_all, flat_lets, call, apply, word_of, steps_of}
use Rattle.isle_meaning.specs.Sites.{Site, bool_site, int_site, prim_site, argument, extractor_call, constructor_call, iterator}
use Rattle.isle_meaning.specs.Sites.{make_variant, match_variant, make_struct, extract_struct, make_some, match_some, match_tuple}
use Rattle.isle_meaning.specs.Sites.{Sites, no_sites, more_sites, answer_site, extract_site, output, site_of, sites_of}
use Rattle.isle_meaning.specs.Demands.{parts, bound, bound_all, iflet_site, args_bound, nothing}
use Rattle.isle_meaning.specs.Scopes.{OfCall, OfCalls, OfAllCalls, OfIfLets}
use Rattle.isle_meaning.specs.Laws.Calls.{CallOf, ExprCalls, ExprsCall, BindingsCall, PatternCalls, PatternsCall, IfLetsCall}
use Rattle.isle_meaning.proofs.Chains.Causing.{Cites, CitesAll, steps_are_causal}
use Rattle.isle_meaning.proofs.Chains.Unique.{EachStep}

-- the calls that are the site or parts of it are pure constructors of these terms and extractors of those
abbrev mutual
  pub Asks : (ℕ → Type 0) → (ℕ → Type 0) → Site → Type 0
  Asks C E (bool_site b ty) = Unit {0}
  Asks C E (int_site n ty) = Unit {0}
  Asks C E (prim_site n) = Unit {0}
  Asks C E (argument i) = Unit {0}
  Asks C E (extractor_call t s) = E t × Asks C E s
  Asks C E (constructor_call t ss zero) = C t × AskAll C E ss
  Asks C E (constructor_call t ss (suc i)) = ⊥
  Asks C E (iterator s) = Asks C E s
  Asks C E (make_variant ty k ss) = AskAll C E ss
  Asks C E (match_variant s k i) = Asks C E s
  Asks C E (make_struct ty ss) = AskAll C E ss
  Asks C E (extract_struct s i) = Asks C E s
  Asks C E (make_some s) = Asks C E s
  Asks C E (match_some s) = Asks C E s
  Asks C E (match_tuple s i) = Asks C E s

  -- those of sites
  pub AskAll : (ℕ → Type 0) → (ℕ → Type 0) → Sites → Type 0
  AskAll C E no_sites = Unit {0}
  AskAll C E (more_sites s ss) = Asks C E s × AskAll C E ss

-- a word has no impure call
abbrev mutual
  pub IsPureWord : Word → Type 0
  IsPureWord (var_word k) = Unit {0}
  IsPureWord (bool_word ty b) = Unit {0}
  IsPureWord (int_word ty n) = Unit {0}
  IsPureWord (prim_word n) = Unit {0}
  IsPureWord (variant_word ty k ws) = ArePureWords ws
  IsPureWord (struct_word ty ws) = ArePureWords ws
  IsPureWord (call_word t ws zero) = ArePureWords ws
  IsPureWord (call_word t ws (suc i)) = ⊥

  -- words have none
  pub ArePureWords : Words → Type 0
  ArePureWords no_words = Unit {0}
  ArePureWords (more_words w ws) = IsPureWord w × ArePureWords ws

-- the calls of a word are of these terms
abbrev mutual
  pub WordCalls : (ℕ → Type 0) → Word → Type 0
  WordCalls Q (var_word k) = Unit {0}
  WordCalls Q (bool_word ty b) = Unit {0}
  WordCalls Q (int_word ty n) = Unit {0}
  WordCalls Q (prim_word n) = Unit {0}
  WordCalls Q (variant_word ty k ws) = WordsCall Q ws
  WordCalls Q (struct_word ty ws) = WordsCall Q ws
  WordCalls Q (call_word t ws i) = Q t × WordsCall Q ws

  -- those of words
  pub WordsCall : (ℕ → Type 0) → Words → Type 0
  WordsCall Q no_words = Unit {0}
  WordsCall Q (more_words w ws) = WordCalls Q w × WordsCall Q ws

mutual
  -- a word that mentions no step has no impure call
  uncited_pure : (x : Word) → Cites [] x → IsPureWord x
  uncited_pure (var_word k) h = tt
  uncited_pure (bool_word ty b) h = tt
  uncited_pure (int_word ty n) h = tt
  uncited_pure (prim_word n) h = tt
  uncited_pure (variant_word ty k ws) h = all_uncited_pure ws h
  uncited_pure (struct_word ty ws) h = all_uncited_pure ws h
  uncited_pure (call_word t ws zero) h = all_uncited_pure ws h
  uncited_pure (call_word t ws (suc i)) h = absurd (let e = h.0 in cc)

  -- nor have words
  all_uncited_pure : (xs : Words) → CitesAll [] xs → ArePureWords xs
  all_uncited_pure no_words h = tt
  all_uncited_pure (more_words x xs) h = (uncited_pure x (h.0), all_uncited_pure xs (h.1))

-- an expression without steps has no impure call
word_pure : (facts : TermFacts) (e : TypedExpr) → steps_of facts e ≡ [] → IsPureWord (word_of facts e)
word_pure facts e h =
    uncited_pure (word_of facts e) (subst (λ (steps : List Step). Cites steps (word_of facts e)) h ((steps_are_causal facts e).1))

-- if-lets have no impure calls
abbrev pub HaveNoSteps : TermFacts → List TypedIfLet → Type 0
HaveNoSteps facts [] = Unit {0}
HaveNoSteps facts (x ∷ xs) = (steps_of facts x.value ≡ []) × HaveNoSteps facts xs

-- a step calls one of these terms, and so do its arguments
abbrev pub StepCalls : (ℕ → Type 0) → Step → Type 0
StepCalls Q s = Q s.term × WordsCall Q s.args

-- what is set everywhere
set_all : {A : Type 0} (P : A → Type 0) (f : ℕ → A) (k : ℕ) (x : A) → ((j : ℕ) → P (f j)) → P x → (j : ℕ) → P (set f k x j)
set_all P f k x h p j = go (j == k) refl
  where
    go : (b : Bool) → (j == k) ≡ b → P (set f k x j)
    go true e = rw e p
    go false e = rw e (h j)

module _ (facts : TermFacts) where
  module _ (Q : ℕ → Type 0) where
    -- one more step
    each_append : (steps : List Step) (s : Step) → EachStep (StepCalls Q) steps → StepCalls Q s → EachStep (StepCalls Q) (steps ++ s ∷ [])
    each_append [] s h r = (r, tt)
    each_append (x ∷ steps) s h r = (h.0, each_append steps s (h.1) r)

    -- a call is of what it calls
    call_calls : (b : Bool) (t : ℕ) (r : Words × List Step) → Q t → WordsCall Q (r.0) → EachStep (StepCalls Q) (r.1)
        → WordCalls Q ((call b t r).0) × EachStep (StepCalls Q) ((call b t r).1)
    call_calls true t r q h k = ((q, h), k)
    call_calls false t r q h k = ((q, h), each_append (r.1) _ k (q, h))

    -- so is a term
    apply_calls : (shape : TermShape) (b : Bool) (ty t : ℕ) (r : Words × List Step) → CallOf Q shape t → WordsCall Q (r.0)
        → EachStep (StepCalls Q) (r.1) → WordCalls Q ((apply shape b ty t r).0) × EachStep (StepCalls Q) ((apply shape b ty t r).1)
    apply_calls (variant_shape i) b ty t r q h k = (h, k)
    apply_calls struct_shape b ty t r q h k = (h, k)
    apply_calls declared_shape b ty t r q h k = call_calls b t r q h k

    mutual
      -- an expression written out calls what the expression calls
      flat_calls : (e : TypedExpr) (vars : ℕ → Word) (steps : List Step) → ((k : ℕ) → WordCalls Q (vars k)) → EachStep (StepCalls Q) steps
          → ExprCalls facts Q e → WordCalls Q ((flat facts vars steps e).0) × EachStep (StepCalls Q) ((flat facts vars steps e).1)
      flat_calls (built_var ty k) vars steps v s h = (v k, s)
      flat_calls (built_bool ty b) vars steps v s h = (tt, s)
      flat_calls (built_int ty n) vars steps v s h = (tt, s)
      flat_calls (built_prim ty n) vars steps v s h = (tt, s)
      flat_calls (built_term ty t es) vars steps v s h =
          let r = flat_all_calls es vars steps v s (h.1) in
          apply_calls (facts.shape t) (facts.pure t) ty t (flat_all facts vars steps es) (h.0) (r.0) (r.1)
      flat_calls (built_let ty bs body) vars steps v s h =
          let r = flat_lets_calls bs vars steps v s (h.0) in
          flat_calls body ((flat_lets facts vars steps bs).0) ((flat_lets facts vars steps bs).1) (r.0) (r.1) (h.1)

      -- so do expressions
      flat_all_calls : (es : TypedExprs) (vars : ℕ → Word) (steps : List Step) → ((k : ℕ) → WordCalls Q (vars k))
          → EachStep (StepCalls Q) steps → ExprsCall facts Q es → WordsCall Q ((flat_all facts vars steps es).0)
          × EachStep (StepCalls Q) ((flat_all facts vars steps es).1)
      flat_all_calls no_built vars steps v s h = (tt, s)
      flat_all_calls (more_built e es) vars steps v s h =
          let r = flat_calls e vars steps v s (h.0) in
          let q = flat_all_calls es vars ((flat facts vars steps e).1) v (r.1) (h.1) in
          ((r.0, q.0), q.1)

      -- so do bindings
      flat_lets_calls : (bs : TypedBindings) (vars : ℕ → Word) (steps : List Step) → ((k : ℕ) → WordCalls Q (vars k))
          → EachStep (StepCalls Q) steps → BindingsCall facts Q bs
          → ((k : ℕ) → WordCalls Q ((flat_lets facts vars steps bs).0 k)) × EachStep (StepCalls Q) ((flat_lets facts vars steps bs).1)
      flat_lets_calls no_typed_bindings vars steps v s h = (v, s)
      flat_lets_calls (more_typed_bindings k ty e bs) vars steps v s h =
          let r = flat_calls e vars steps v s (h.0) in
          flat_lets_calls bs (set vars k ((flat facts vars steps e).0)) ((flat facts vars steps e).1)
          (set_all (WordCalls Q) vars k _ v (r.0)) (r.1) (h.1)

    -- An expression's word and steps call what the expression calls.
    pub word_calls : (e : TypedExpr) → ExprCalls facts Q e → WordCalls Q (word_of facts e) × EachStep (StepCalls Q) (steps_of facts e)
    word_calls e h = flat_calls e var_word [] (λ k. tt) tt h

  module _ (C E : ℕ → Type 0) where
    -- what a call gives asks no more than it
    answer_asks : (multi partial : Bool) (s : Site) → Asks C E s → Asks C E (answer_site multi partial s)
    answer_asks true partial s h = h
    answer_asks false true s h = h
    answer_asks false false s h = h

    mutual
      -- a word's site asks what the word calls
      site_asks : (vars : ℕ → Site) → ((k : ℕ) → Asks C E (vars k)) → (w : Word) → IsPureWord w → WordCalls C w
          → Asks C E (site_of facts vars w)
      site_asks vars v (var_word k) h q = v k
      site_asks vars v (bool_word ty b) h q = tt
      site_asks vars v (int_word ty n) h q = tt
      site_asks vars v (prim_word n) h q = tt
      site_asks vars v (variant_word ty k ws) h q = sites_ask vars v ws h q
      site_asks vars v (struct_word ty ws) h q = sites_ask vars v ws h q
      site_asks vars v (call_word t ws zero) h q =
          answer_asks (facts.multi t) (facts.partial t) (constructor_call t (sites_of facts vars ws) zero)
          (q.0, sites_ask vars v ws h (q.1))
      site_asks vars v (call_word t ws (suc i)) h q = absurd h

      -- words' sites ask what the words call
      sites_ask : (vars : ℕ → Site) → ((k : ℕ) → Asks C E (vars k)) → (ws : Words) → ArePureWords ws → WordsCall C ws
          → AskAll C E (sites_of facts vars ws)
      sites_ask vars v no_words h q = tt
      sites_ask vars v (more_words w ws) h q = (site_asks vars v w (h.0) (q.0), sites_ask vars v ws (h.1) (q.1))

    -- an output asks what its source asks
    output_asks : (n : ℕ) (s : Site) (i : ℕ) → Asks C E s → Asks C E (output n s i)
    output_asks zero s i h = h
    output_asks (suc zero) s i h = h
    output_asks (suc (suc n)) s i h = h

    -- what an extractor gives asks its call
    extract_asks : (multi infallible : Bool) (s : Site) → Asks C E s → Asks C E (extract_site multi infallible s)
    extract_asks true infallible s h = h
    extract_asks false true s h = h
    extract_asks false false s h = h

    -- a part asks its source's calls and the extractor's
    parts_ask : (shape : TermShape) (t n : ℕ) (s : Site) → CallOf E shape t → Asks C E s → (i : ℕ) → Asks C E (parts facts shape t n s i)
    parts_ask (variant_shape k) t n s q h i = h
    parts_ask struct_shape t n s q h i = h
    parts_ask declared_shape t n s q h i = output_asks n _ i
        (extract_asks (facts.multi t) (facts.infallible t) (extractor_call t s) (q, h))

    mutual
      -- what a variable stands for after a pattern asks these
      bound_asks : (p : TypedPattern) (s : Site) (vars : ℕ → Site) → PatternCalls facts E p → Asks C E s → ((k : ℕ) → Asks C E (vars k))
          → (k : ℕ) → Asks C E (bound facts p s vars k)
      bound_asks (typed_bind ty j p) s vars q h v = set_all (Asks C E) (bound facts p s vars) j s (bound_asks p s vars q h v) h
      bound_asks (typed_var ty j) s vars q h v = v
      bound_asks (typed_bool ty b) s vars q h v = v
      bound_asks (typed_int ty n) s vars q h v = v
      bound_asks (typed_prim ty n) s vars q h v = v
      bound_asks (typed_term ty t ps) s vars q h v =
          bound_all_asks ps _ vars (q.1) (parts_ask (facts.shape t) t (patterns ps) s (q.0) h) v
      bound_asks (typed_wildcard ty) s vars q h v = v
      bound_asks (typed_and ty ps) s vars q h v = bound_all_asks ps (λ i. s) vars q (λ i. h) v

      -- so does what one stands for after patterns
      bound_all_asks : (ps : TypedPatterns) (at : ℕ → Site) (vars : ℕ → Site) → PatternsCall facts E ps → ((i : ℕ) → Asks C E (at i))
          → ((k : ℕ) → Asks C E (vars k)) → (k : ℕ) → Asks C E (bound_all facts ps at vars k)
      bound_all_asks no_typed at vars q h v = v
      bound_all_asks (more_typed p ps) at vars q h v =
          bound_all_asks ps (λ i. at (suc i)) (bound facts p (at 0) vars) (q.1) (λ i. h (suc i)) (bound_asks p (at 0) vars (q.0) (h 0) v)

    -- an extractor's call asks these
    opens_asks : (shape : TermShape) (t : ℕ) (s : Site) → CallOf E shape t → Asks C E s → OfCall (Asks C E) shape t s
    opens_asks (variant_shape k) t s q h = tt
    opens_asks struct_shape t s q h = tt
    opens_asks declared_shape t s q h = (q, h)

    mutual
      -- the calls of a pattern ask these
      calls_ask : (p : TypedPattern) (s : Site) → PatternCalls facts E p → Asks C E s → OfCalls facts (Asks C E) p s
      calls_ask (typed_bind ty k p) s q h = calls_ask p s q h
      calls_ask (typed_var ty k) s q h = tt
      calls_ask (typed_bool ty b) s q h = tt
      calls_ask (typed_int ty n) s q h = tt
      calls_ask (typed_prim ty n) s q h = tt
      calls_ask (typed_term ty t ps) s q h =
          (opens_asks (facts.shape t) t s (q.0) h, calls_all_ask ps _ (q.1) (parts_ask (facts.shape t) t (patterns ps) s (q.0) h))
      calls_ask (typed_wildcard ty) s q h = tt
      calls_ask (typed_and ty ps) s q h = calls_all_ask ps (λ i. s) q (λ i. h)

      -- so do those of patterns
      calls_all_ask : (ps : TypedPatterns) (at : ℕ → Site) → PatternsCall facts E ps → ((i : ℕ) → Asks C E (at i))
          → OfAllCalls facts (Asks C E) ps at
      calls_all_ask no_typed at q h = tt
      calls_all_ask (more_typed p ps) at q h = (calls_ask p (at 0) (q.0) (h 0), calls_all_ask ps (λ i. at (suc i)) (q.1) (λ i. h (suc i)))

    -- so do those of if-lets
    iflets_ask : (xs : List TypedIfLet) (vars : ℕ → Site) → ((k : ℕ) → Asks C E (vars k))
        → HaveNoSteps facts xs → IfLetsCall facts C E xs → OfIfLets facts (Asks C E) xs vars
    iflets_ask [] vars v h q = tt
    iflets_ask (x ∷ xs) vars v h q =
        let s : Asks C E (iflet_site facts vars x) =
        site_asks vars v (word_of facts x.value) (word_pure facts x.value (h.0)) ((word_calls C x.value (q.0)).0) in (
          s,
          calls_ask x.pattern (iflet_site facts vars x) (q.1) s,
          iflets_ask xs (bound facts x.pattern (iflet_site facts vars x) vars) (bound_asks x.pattern _ vars (q.1) s v) (h.1) (q.2),
        )

    -- The calls in a rule's patterns and if-lets are of these terms.
    pub rule_asks : (rule : TypedRule) → PatternsCall facts E rule.args
        → HaveNoSteps facts rule.iflets → IfLetsCall facts C E rule.iflets
        → OfAllCalls facts (Asks C E) rule.args argument × OfIfLets facts (Asks C E) rule.iflets (args_bound facts rule)
    rule_asks rule a h q = (
      calls_all_ask rule.args argument a (λ i. tt),
      iflets_ask rule.iflets (args_bound facts rule) (bound_all_asks rule.args argument nothing a (λ i. tt) (λ k. tt)) h q,
    )

  module _ (A B : Site → Type 0) (f : (s : Site) → A s → B s) where
    -- something weaker of an extractor's call
    call_map : (shape : TermShape) (t : ℕ) (s : Site) → OfCall A shape t s → OfCall B shape t s
    call_map (variant_shape k) t s h = tt
    call_map struct_shape t s h = tt
    call_map declared_shape t s h = f (extractor_call t s) h

    mutual
      -- something weaker of each call of a pattern
      pub calls_map : (p : TypedPattern) (s : Site) → OfCalls facts A p s → OfCalls facts B p s
      calls_map (typed_bind ty k p) s h = calls_map p s h
      calls_map (typed_var ty k) s h = tt
      calls_map (typed_bool ty b) s h = tt
      calls_map (typed_int ty n) s h = tt
      calls_map (typed_prim ty n) s h = tt
      calls_map (typed_term ty t ps) s h = (call_map (facts.shape t) t s (h.0), calls_all_map ps _ (h.1))
      calls_map (typed_wildcard ty) s h = tt
      calls_map (typed_and ty ps) s h = calls_all_map ps (λ i. s) h

      -- of patterns
      pub calls_all_map : (ps : TypedPatterns) (at : ℕ → Site) → OfAllCalls facts A ps at → OfAllCalls facts B ps at
      calls_all_map no_typed at h = tt
      calls_all_map (more_typed p ps) at h = (calls_map p (at 0) (h.0), calls_all_map ps (λ i. at (suc i)) (h.1))

    -- of if-lets
    pub iflets_map : (xs : List TypedIfLet) (vars : ℕ → Site) → OfIfLets facts A xs vars → OfIfLets facts B xs vars
    iflets_map [] vars h = tt
    iflets_map (x ∷ xs) vars h = (
      f (iflet_site facts vars x) (h.0),
      calls_map x.pattern (iflet_site facts vars x) (h.1),
      iflets_map xs (bound facts x.pattern (iflet_site facts vars x) vars) (h.2),
    )
