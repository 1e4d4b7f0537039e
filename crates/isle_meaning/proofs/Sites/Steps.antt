-- The impure calls of a word's site are those of the steps that it mentions, each step at its place.
use Rattle.std.proofs.Common.{◌≡◌, ◌⊎◌, inl, inr, ℕ, zero, suc, ◌+◌, List, [], ◌∷◌, ◌++◌, length, Bool, true, false, Some, slice_get}
use Rattle.std.proofs.Common.{refl, sym, ap, subst, ◌∙◌, arith, ◌==◌, eq-eqb}
use Rattle.std.proofs.lemmas.Option.{same_Some, none-some}
use Rattle.isle_rules.specs.TypedRules.{TypedExpr, built_var, built_bool, built_int, built_prim, built_term, built_let, TypedExprs}
use Rattle.isle_rules.specs.TypedRules.{no_built, more_built, TypedBindings, no_typed_bindings, more_typed_bindings}
use Rattle.isle_meaning.specs.Facts.{TermShape, variant_shape, struct_shape, declared_shape, TermFacts}
use Rattle.isle_meaning.specs.Words.{Word, var_word, bool_word, int_word, prim_word, variant_word, struct_word, call_word, Words}
use Rattle.isle_meaning.specs.Words.{no_words, more_words, Step, set, flat, flat_all, flat_lets, call, apply, steps_of}
use Rattle.isle_meaning.specs.Sites.{Site, bool_site, int_site, prim_site, constructor_call, iterator, make_variant, make_struct}
use Rattle.isle_meaning.specs.Sites.{match_some}
use Rattle.isle_meaning.specs.Sites.{answer_site, site_of, sites_of}
use Rattle.isle_meaning.specs.AboutSites.Parts.{IsOneOf}
use Rattle.isle_meaning.specs.Scopes.{Reads, ReadAll, IsSingle, let_scope, ReadsExpr, ReadExprs, ReadsLets}
use Rattle.isle_meaning.specs.AboutSites.ImpureCalls.{IsImpureCall, ImpureCallsAre, IsPure}
use Rattle.isle_meaning.proofs.Chains.Causing.{Cites, CitesAll}
use Rattle.isle_meaning.proofs.Chains.Unique.{EachStep}
use Rattle.isle_meaning.proofs.Sites.Parts.{of_whole, of_one}

-- each step has its place, from a number on
abbrev pub Placed : ℕ → List Step → Type 0
Placed n [] = Unit {0}
Placed n (s ∷ steps) = (s.place ≡ n) × Placed (suc n) steps

-- One more step is placed behind the others.
pub placed_append : (n : ℕ) (steps : List Step) (s : Step) → Placed n steps → s.place ≡ n + length steps → Placed n (steps ++ s ∷ [])
placed_append n [] s h e = ((let f : n + 0 ≡ n = omega arith in e ∙ f), tt)
placed_append n (x ∷ steps) s h e =
    (h.0, placed_append (suc n) steps s (h.1) (let f : n + suc (length steps) ≡ suc n + length steps = omega arith in e ∙ f))

-- A step's place is where it stands.
pub placed_at : (n : ℕ) (steps : List Step) (j : ℕ) (s : Step) → Placed n steps → slice_get steps j ≡ Some s → s.place ≡ n + j
placed_at n [] j s h e = absurd (none-some s e)
placed_at n (x ∷ steps) zero s h e =
    let p = same_Some x s e in let f : n + 0 ≡ n = omega arith in sym (ap (λ (z : Step). z.place) p) ∙ h.0 ∙ sym f
placed_at n (x ∷ steps) (suc j) s h e =
    let f : suc n + j ≡ n + suc j = omega arith in placed_at (suc n) steps j s (h.1) e ∙ f

module _ (facts : TermFacts) where
  -- a call's step is placed behind the others
  call_placed : (b : Bool) (t : ℕ) (r : Words × List Step) → Placed 0 (r.1) → Placed 0 ((call b t r).1)
  call_placed true t r h = h
  call_placed false t r h =
      placed_append 0 (r.1) (record { term = t; args = r.0; place = length (r.1) }) h
      (let f : 0 + length (r.1) ≡ length (r.1) = omega arith in sym f)

  -- so is a term's
  apply_placed : (shape : TermShape) (b : Bool) (ty t : ℕ) (r : Words × List Step) → Placed 0 (r.1) → Placed 0 ((apply shape b ty t r).1)
  apply_placed (variant_shape k) b ty t r h = h
  apply_placed struct_shape b ty t r h = h
  apply_placed declared_shape b ty t r h = call_placed b t r h

  mutual
    flat_placed : (e : TypedExpr) (vars : ℕ → Word) (steps : List Step) → Placed 0 steps → Placed 0 ((flat facts vars steps e).1)
    flat_placed (built_var ty k) vars steps h = h
    flat_placed (built_bool ty b) vars steps h = h
    flat_placed (built_int ty n) vars steps h = h
    flat_placed (built_prim ty n) vars steps h = h
    flat_placed (built_term ty t es) vars steps h =
        apply_placed (facts.shape t) (facts.pure t) ty t (flat_all facts vars steps es) (all_placed es vars steps h)
    flat_placed (built_let ty bs body) vars steps h =
        flat_placed body ((flat_lets facts vars steps bs).0) ((flat_lets facts vars steps bs).1) (lets_placed bs vars steps h)

    -- so are those of expressions
    all_placed : (es : TypedExprs) (vars : ℕ → Word) (steps : List Step) → Placed 0 steps → Placed 0 ((flat_all facts vars steps es).1)
    all_placed no_built vars steps h = h
    all_placed (more_built e es) vars steps h = all_placed es vars ((flat facts vars steps e).1) (flat_placed e vars steps h)

    -- and of bindings
    lets_placed : (bs : TypedBindings) (vars : ℕ → Word) (steps : List Step) → Placed 0 steps → Placed 0 ((flat_lets facts vars steps bs).1)
    lets_placed no_typed_bindings vars steps h = h
    lets_placed (more_typed_bindings k ty e bs) vars steps h =
        lets_placed bs (set vars k ((flat facts vars steps e).0)) ((flat facts vars steps e).1) (flat_placed e vars steps h)

  -- The steps of an expression are placed from the first on.
  pub steps_placed : (e : TypedExpr) → Placed 0 (steps_of facts e)
  steps_placed e = flat_placed e var_word [] tt

  -- the site of a step's call
  abbrev pub call_of : (ℕ → Site) → Step → Site
  call_of vars s = constructor_call s.term (sites_of facts vars s.args) (suc s.place)

  -- a call of one of these steps
  abbrev pub IsCallOf : (ℕ → Site) → List Step → Site → Type 0
  IsCallOf vars steps t = (j : ℕ) × (s : Step) × (slice_get steps j ≡ Some s) × (t ≡ call_of vars s)

  module _ (vars : ℕ → Site) (pure : (k : ℕ) → IsPure (vars k)) (steps : List Step) where
    -- an impure call is one of the steps'
    abbrev IsStep : Site → Type 0
    IsStep t = IsImpureCall t → IsCallOf vars steps t

    -- what a call gives has its impure calls
    answer_steps : (m b : Bool) (s : Site) → ImpureCallsAre (IsCallOf vars steps) s
        → ImpureCallsAre (IsCallOf vars steps) (answer_site m b s)
    answer_steps true b s h = of_whole IsStep (iterator s) (λ i. absurd i) (λ u m. of_one IsStep s u h m)
    answer_steps false true s h = of_whole IsStep (match_some s) (λ i. absurd i) (λ u m. of_one IsStep s u h m)
    answer_steps false false s h = h

    mutual
      -- The impure calls of a word's site are of the steps that it mentions.
      pub word_steps : (w : Word) → Cites steps w → ImpureCallsAre (IsCallOf vars steps) (site_of facts vars w)
      word_steps (var_word k) h = λ u m i. absurd (pure k u m i)
      word_steps (bool_word ty b) h = of_whole IsStep (bool_site b ty) (λ i. absurd i) (λ u m. absurd m)
      word_steps (int_word ty n) h = of_whole IsStep (int_site n ty) (λ i. absurd i) (λ u m. absurd m)
      word_steps (prim_word n) h = of_whole IsStep (prim_site n) (λ i. absurd i) (λ u m. absurd m)
      word_steps (variant_word ty k ws) h = of_whole IsStep (make_variant ty k (sites_of facts vars ws)) (λ i. absurd i) (words_steps ws h)
      word_steps (struct_word ty ws) h = of_whole IsStep (make_struct ty (sites_of facts vars ws)) (λ i. absurd i) (words_steps ws h)
      word_steps (call_word t ws zero) h =
          answer_steps (facts.multi t) (facts.partial t) (constructor_call t (sites_of facts vars ws) zero)
          (of_whole IsStep (constructor_call t (sites_of facts vars ws) zero) (λ i. absurd i) (words_steps ws h))
      word_steps (call_word t ws (suc i)) h =
          answer_steps (facts.multi t) (facts.partial t) (constructor_call t (sites_of facts vars ws) (suc i))
          (of_whole IsStep (constructor_call t (sites_of facts vars ws) (suc i))
          (λ z. (i, record { term = t; args = ws; place = i }, h.0, refl)) (words_steps ws (h.1)))

      -- So are those of words' sites.
      pub words_steps : (ws : Words) → CitesAll steps ws → (u : Site) → IsOneOf (sites_of facts vars ws) u
          → ImpureCallsAre (IsCallOf vars steps) u
      words_steps no_words h u m = absurd m
      words_steps (more_words w ws) h u (inl e) = subst (ImpureCallsAre (IsCallOf vars steps)) (sym e) (word_steps w (h.0))
      words_steps (more_words w ws) h u (inr m) = words_steps ws (h.1) u m

module _ (facts : TermFacts) (Z : ℕ → Type 0) where
  -- the steps' arguments read these variables
  abbrev EachReads : List Step → Type 0
  EachReads steps = EachStep (λ s. ReadAll facts s.args Z) steps

  -- one more step's do
  reads_append : (steps : List Step) (s : Step) → EachReads steps → ReadAll facts s.args Z → EachReads (steps ++ s ∷ [])
  reads_append [] s h r = (r, tt)
  reads_append (x ∷ steps) s h r = (h.0, reads_append steps s (h.1) r)

  -- the words of variables read these
  abbrev Vars : (ℕ → Type 0) → (ℕ → Word) → Type 0
  Vars S vars = (k : ℕ) → S k → Reads facts (vars k) Z

  -- one more variable's does
  set_reads : (S : ℕ → Type 0) (vars : ℕ → Word) (j : ℕ) (w : Word) → Vars S vars → Reads facts w Z → Vars (λ k. (k ≡ j) ⊎ S k) (set vars j w)
  set_reads S vars j w v h k i = go (k == j) refl i
    where
      go : (b : Bool) → (k == j) ≡ b → (k ≡ j) ⊎ S k → Reads facts (set vars j w k) Z
      go true p x = rw p h
      go false p (inl q) = absurd (let z : (k == k) ≡ false = subst (λ (y : ℕ). (k == y) ≡ false) (sym q) p in
          let y : (k == k) ≡ true = eq-eqb k k refl in cc)
      go false p (inr x) = rw p (v k x)

  -- a call reads what its arguments do
  call_reads : (b : Bool) (t : ℕ) (r : Words × List Step) → facts.multi t ≡ false → ReadAll facts (r.0) Z → EachReads (r.1)
      → Reads facts ((call b t r).0) Z × EachReads ((call b t r).1)
  call_reads true t r m h k = ((m, h), k)
  call_reads false t r m h k = ((m, h), reads_append (r.1) _ k h)

  -- so does a term
  apply_reads : (shape : TermShape) (b : Bool) (ty t : ℕ) (r : Words × List Step) → IsSingle facts shape t → ReadAll facts (r.0) Z → EachReads (r.1)
      → Reads facts ((apply shape b ty t r).0) Z × EachReads ((apply shape b ty t r).1)
  apply_reads (variant_shape i) b ty t r m h k = (h, k)
  apply_reads struct_shape b ty t r m h k = (h, k)
  apply_reads declared_shape b ty t r m h k = call_reads b t r m h k

  mutual
    -- what is written out reads these, and so do its steps
    flat_reads : (e : TypedExpr) (S : ℕ → Type 0) (vars : ℕ → Word) (steps : List Step) → ReadsExpr facts e S → Vars S vars → EachReads steps
        → Reads facts ((flat facts vars steps e).0) Z × EachReads ((flat facts vars steps e).1)
    flat_reads (built_var ty k) S vars steps r v h = (v k r, h)
    flat_reads (built_bool ty b) S vars steps r v h = (tt, h)
    flat_reads (built_int ty n) S vars steps r v h = (tt, h)
    flat_reads (built_prim ty n) S vars steps r v h = (tt, h)
    flat_reads (built_term ty t es) S vars steps r v h =
        let q = all_read es S vars steps (r.1) v h in apply_reads (facts.shape t) (facts.pure t) ty t (flat_all facts vars steps es) (r.0) (q.0) (q.1)
    flat_reads (built_let ty bs body) S vars steps r v h =
        let q = lets_read bs S vars steps (r.0) v h in
        flat_reads body (let_scope bs S) ((flat_lets facts vars steps bs).0) ((flat_lets facts vars steps bs).1) (r.1) (q.0) (q.1)

    -- so do expressions
    all_read : (es : TypedExprs) (S : ℕ → Type 0) (vars : ℕ → Word) (steps : List Step) → ReadExprs facts es S → Vars S vars → EachReads steps
        → ReadAll facts ((flat_all facts vars steps es).0) Z × EachReads ((flat_all facts vars steps es).1)
    all_read no_built S vars steps r v h = (tt, h)
    all_read (more_built e es) S vars steps r v h =
        let p = flat_reads e S vars steps (r.0) v h in
        let q = all_read es S vars ((flat facts vars steps e).1) (r.1) v (p.1) in ((p.0, q.0), q.1)

    -- so do bindings
    lets_read : (bs : TypedBindings) (S : ℕ → Type 0) (vars : ℕ → Word) (steps : List Step) → ReadsLets facts bs S → Vars S vars → EachReads steps
        → Vars (let_scope bs S) ((flat_lets facts vars steps bs).0) × EachReads ((flat_lets facts vars steps bs).1)
    lets_read no_typed_bindings S vars steps r v h = (v, h)
    lets_read (more_typed_bindings k ty e bs) S vars steps r v h =
        let p = flat_reads e S vars steps (r.0) v h in
        lets_read bs (λ j. (j ≡ k) ⊎ S j) (set vars k ((flat facts vars steps e).0)) ((flat facts vars steps e).1) (r.1)
        (set_reads S vars k ((flat facts vars steps e).0) v (p.0)) (p.1)

-- The steps of an expression read what the expression does.
pub steps_read : (facts : TermFacts) (S : ℕ → Type 0) (e : TypedExpr) → ReadsExpr facts e S
    → EachStep (λ s. ReadAll facts s.args S) (steps_of facts e)
steps_read facts S e r = (flat_reads facts S e S (λ k. var_word k) [] r (λ k s. s) tt).1
