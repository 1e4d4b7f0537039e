-- What is written out calls what is pure where it stands, and what isn't as a step.
use Rattle.std.proofs.Common.{◌≡◌, ℕ, zero, suc, List, [], ◌∷◌, ◌++◌, Bool, true, false, ◌==◌, refl}
use Rattle.isle_rules.specs.TypedRules.{TypedExpr, built_var, built_bool, built_int, built_prim, built_term, built_let, TypedExprs}
use Rattle.isle_rules.specs.TypedRules.{no_built, more_built, TypedBindings, no_typed_bindings, more_typed_bindings}
use Rattle.isle_meaning.specs.Facts.{TermShape, variant_shape, struct_shape, declared_shape, TermFacts}
use Rattle.isle_meaning.specs.Words.{Word, var_word, bool_word, int_word, prim_word, variant_word, struct_word, call_word, Words}
use Rattle.isle_meaning.specs.Words.{no_words, more_words, Step, set, flat, flat_all, flat_lets, call, apply, word_of, steps_of}
use Rattle.isle_meaning.proofs.Chains.Unique.{EachStep}

-- the calls of a word that aren't steps are of pure terms
abbrev mutual
  pub CallsPure : TermFacts → Word → Type 0
  CallsPure facts (var_word k) = Unit {0}
  CallsPure facts (bool_word ty b) = Unit {0}
  CallsPure facts (int_word ty n) = Unit {0}
  CallsPure facts (prim_word n) = Unit {0}
  CallsPure facts (variant_word ty k ws) = CallPure facts ws
  CallsPure facts (struct_word ty ws) = CallPure facts ws
  CallsPure facts (call_word t ws zero) = (facts.pure t ≡ true) × CallPure facts ws
  CallsPure facts (call_word t ws (suc i)) = CallPure facts ws

  -- those of words
  pub CallPure : TermFacts → Words → Type 0
  CallPure facts no_words = Unit {0}
  CallPure facts (more_words w ws) = CallsPure facts w × CallPure facts ws

-- a step is a call of a term that isn't pure
abbrev pub IsImpureStep : TermFacts → Step → Type 0
IsImpureStep facts s = (facts.pure s.term ≡ false) × CallPure facts s.args

module _ (facts : TermFacts) where
  -- one more step
  each_append : (steps : List Step) (s : Step) → EachStep (IsImpureStep facts) steps → IsImpureStep facts s
      → EachStep (IsImpureStep facts) (steps ++ s ∷ [])
  each_append [] s h r = (r, tt)
  each_append (x ∷ steps) s h r = (h.0, each_append steps s (h.1) r)

  -- one more word
  set_marked : (vars : ℕ → Word) (k : ℕ) (w : Word) → ((j : ℕ) → CallsPure facts (vars j)) → CallsPure facts w → (j : ℕ)
      → CallsPure facts (set vars k w j)
  set_marked vars k w v h j = go (j == k) refl
    where
      go : (b : Bool) → (j == k) ≡ b → CallsPure facts (set vars k w j)
      go true e = rw e h
      go false e = rw e (v j)

  -- a word and the steps before it
  abbrev Marked : Word × List Step → Type 0
  Marked r = CallsPure facts (r.0) × EachStep (IsImpureStep facts) (r.1)

  -- words and the steps before them
  abbrev AllMarked : Words × List Step → Type 0
  AllMarked r = CallPure facts (r.0) × EachStep (IsImpureStep facts) (r.1)

  -- a call is a step unless it is pure
  call_marked : (b : Bool) (t : ℕ) (r : Words × List Step) → facts.pure t ≡ b → AllMarked r → Marked (call b t r)
  call_marked true t r e h = ((e, h.0), h.1)
  call_marked false t r e h = (h.0, each_append (r.1) _ (h.1) (e, h.0))

  -- so is a declared term
  apply_marked : (shape : TermShape) (ty t : ℕ) (r : Words × List Step) → AllMarked r → Marked (apply shape (facts.pure t) ty t r)
  apply_marked (variant_shape k) ty t r h = h
  apply_marked struct_shape ty t r h = h
  apply_marked declared_shape ty t r h = call_marked (facts.pure t) t r refl h

  mutual
    -- an expression written out
    flat_marked : (e : TypedExpr) (vars : ℕ → Word) (steps : List Step) → ((k : ℕ) → CallsPure facts (vars k))
        → EachStep (IsImpureStep facts) steps → Marked (flat facts vars steps e)
    flat_marked (built_var ty k) vars steps v h = (v k, h)
    flat_marked (built_bool ty b) vars steps v h = (tt, h)
    flat_marked (built_int ty n) vars steps v h = (tt, h)
    flat_marked (built_prim ty n) vars steps v h = (tt, h)
    flat_marked (built_term ty t es) vars steps v h =
        apply_marked (facts.shape t) ty t (flat_all facts vars steps es) (flat_all_marked es vars steps v h)
    flat_marked (built_let ty bs body) vars steps v h =
        let r = flat_lets_marked bs vars steps v h in
        flat_marked body ((flat_lets facts vars steps bs).0) ((flat_lets facts vars steps bs).1) (r.0) (r.1)

    -- expressions written out
    flat_all_marked : (es : TypedExprs) (vars : ℕ → Word) (steps : List Step) → ((k : ℕ) → CallsPure facts (vars k))
        → EachStep (IsImpureStep facts) steps → AllMarked (flat_all facts vars steps es)
    flat_all_marked no_built vars steps v h = (tt, h)
    flat_all_marked (more_built e es) vars steps v h =
        let r = flat_marked e vars steps v h in
        let q = flat_all_marked es vars ((flat facts vars steps e).1) v (r.1) in
        ((r.0, q.0), q.1)

    -- bindings written out
    flat_lets_marked : (bs : TypedBindings) (vars : ℕ → Word) (steps : List Step) → ((k : ℕ) → CallsPure facts (vars k))
        → EachStep (IsImpureStep facts) steps
        → ((k : ℕ) → CallsPure facts ((flat_lets facts vars steps bs).0 k))
        × EachStep (IsImpureStep facts) ((flat_lets facts vars steps bs).1)
    flat_lets_marked no_typed_bindings vars steps v h = (v, h)
    flat_lets_marked (more_typed_bindings k ty e bs) vars steps v h =
        let r = flat_marked e vars steps v h in
        flat_lets_marked bs (set vars k ((flat facts vars steps e).0)) ((flat facts vars steps e).1) (set_marked vars k _ v (r.0)) (r.1)

  -- An expression's word calls what is pure where it stands, and what isn't as a step.
  pub calls_marked : (e : TypedExpr) → CallsPure facts (word_of facts e) × EachStep (IsImpureStep facts) (steps_of facts e)
  calls_marked e = flat_marked e var_word [] (λ k. tt) tt
