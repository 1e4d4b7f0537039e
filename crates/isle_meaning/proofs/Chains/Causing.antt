-- What is written out mentions only impure calls before it.
use Rattle.std.proofs.Common.{◌≡◌, ℕ, zero, suc, List, [], ◌∷◌, ◌++◌, length, Bool, true, false, ◌==◌, Some, slice_get, refl, sym, ◌∙◌, ap, subst}
use Rattle.std.proofs.Common.{append_assoc, append-nil}
use Rattle.isle_rules.specs.TypedRules.{TypedExpr, built_var, built_bool, built_int, built_prim, built_term, built_let, TypedExprs}
use Rattle.isle_rules.specs.TypedRules.{no_built, more_built, TypedBindings, no_typed_bindings, more_typed_bindings}
use Rattle.isle_meaning.specs.Facts.{TermShape, variant_shape, struct_shape, declared_shape, TermFacts}
use Rattle.isle_meaning.specs.Words.{Word, var_word, bool_word, int_word, prim_word, variant_word, struct_word, call_word, Words}
use Rattle.isle_meaning.specs.Words.{no_words, more_words, Step, set, flat, flat_all, flat_lets, call, apply, word_of, steps_of}

-- the impure calls that a word mentions are among these, by their places
abbrev mutual
  pub Cites : List Step → Word → Type 0
  Cites steps (var_word k) = Unit {0}
  Cites steps (bool_word ty b) = Unit {0}
  Cites steps (int_word ty n) = Unit {0}
  Cites steps (prim_word n) = Unit {0}
  Cites steps (variant_word ty k ws) = CitesAll steps ws
  Cites steps (struct_word ty ws) = CitesAll steps ws
  Cites steps (call_word t ws zero) = CitesAll steps ws
  Cites steps (call_word t ws (suc i)) = (slice_get steps i ≡ Some (record { term = t; args = ws; place = i })) × CitesAll steps ws

  -- those that words mention
  pub CitesAll : List Step → Words → Type 0
  CitesAll steps no_words = Unit {0}
  CitesAll steps (more_words w ws) = Cites steps w × CitesAll steps ws

-- each call's arguments mention calls before it alone
abbrev pub Causal : List Step → List Step → Type 0
Causal before [] = Unit {0}
Causal before (s ∷ steps) = CitesAll before s.args × Causal (before ++ s ∷ []) steps

-- an item stays where it is in front of more
pub get_append : {A : Type 0} (xs ys : List A) (i : ℕ) (x : A) → slice_get xs i ≡ Some x → slice_get (xs ++ ys) i ≡ Some x
get_append [] ys i x e = absurd cc
get_append (y ∷ xs) ys zero x e = e
get_append (y ∷ xs) ys (suc i) x e = get_append xs ys i x e

-- what is put last stands at the length
pub get_last : {A : Type 0} (xs : List A) (x : A) → slice_get (xs ++ x ∷ []) (length xs) ≡ Some x
get_last [] x = refl
get_last (y ∷ xs) x = get_last xs x

-- one more item
pub length_more : {A : Type 0} (xs : List A) (x : A) → length (xs ++ x ∷ []) ≡ suc (length xs)
length_more [] x = refl
length_more (y ∷ xs) x = ap suc (length_more xs x)

mutual
  -- what a word mentions is among more
  cites_more : (w : Word) (steps more : List Step) → Cites steps w → Cites (steps ++ more) w
  cites_more (var_word k) steps more h = tt
  cites_more (bool_word ty b) steps more h = tt
  cites_more (int_word ty n) steps more h = tt
  cites_more (prim_word n) steps more h = tt
  cites_more (variant_word ty k ws) steps more h = cites_all_more ws steps more h
  cites_more (struct_word ty ws) steps more h = cites_all_more ws steps more h
  cites_more (call_word t ws zero) steps more h = cites_all_more ws steps more h
  cites_more (call_word t ws (suc i)) steps more h = (get_append steps more i _ (h.0), cites_all_more ws steps more (h.1))

  -- so is what words mention
  cites_all_more : (ws : Words) (steps more : List Step) → CitesAll steps ws → CitesAll (steps ++ more) ws
  cites_all_more no_words steps more h = tt
  cites_all_more (more_words w ws) steps more h = (cites_more w steps more (h.0), cites_all_more ws steps more (h.1))

-- one more call, whose arguments mention those before it
causal_append : (steps before : List Step) (s : Step) → Causal before steps → CitesAll (before ++ steps) s.args
    → Causal before (steps ++ s ∷ [])
causal_append [] before s h r = (subst (λ (xs : List Step). CitesAll xs s.args) (append-nil before) r, tt)
causal_append (x ∷ steps) before s h r = (
  h.0,
  causal_append steps (before ++ x ∷ []) s (h.1)
      (subst (λ (xs : List Step). CitesAll xs s.args) (sym (append_assoc before (x ∷ []) steps)) r),
)

-- a list grew, and is causal
pub record Grown (old new : List Step) : Type 0 where
  pub more : List Step
  pub is : new ≡ old ++ more
  pub causal : Causal [] new

-- what grew twice grew
along : {a b c : List Step} → Grown a b → Grown b c → Grown a c
along {a} g h = record {
  more = g.more ++ h.more;
  is = h.is ∙ ap (λ (xs : List Step). xs ++ h.more) (g.is) ∙ append_assoc a (g.more) (h.more);
  causal = h.causal;
}

-- what didn't grow
unmoved : (steps : List Step) → Causal [] steps → Grown steps steps
unmoved steps h = record { more = []; is = sym (append-nil steps); causal = h }

-- what words mention stands in what grew
still : (vars : ℕ → Word) (steps new : List Step) → ((k : ℕ) → Cites steps (vars k)) → Grown steps new → (k : ℕ) → Cites new (vars k)
still vars steps new v g k = subst (λ (xs : List Step). Cites xs (vars k)) (sym (g.is)) (cites_more (vars k) steps (g.more) (v k))

-- one more word
set_cites : (vars : ℕ → Word) (k : ℕ) (w : Word) (steps : List Step) → ((j : ℕ) → Cites steps (vars j)) → Cites steps w → (j : ℕ)
    → Cites steps (set vars k w j)
set_cites vars k w steps v h j = go (j == k) refl
  where
    go : (b : Bool) → (j == k) ≡ b → Cites steps (set vars k w j)
    go true e = rw e h
    go false e = rw e (v j)

module _ (facts : TermFacts) where
  -- a call after its arguments
  call_causal : (b : Bool) (t : ℕ) (old : List Step) (r : Words × List Step) → Grown old (r.1) → CitesAll (r.1) (r.0)
      → Grown old ((call b t r).1) × Cites ((call b t r).1) ((call b t r).0)
  call_causal true t old r g h = (g, h)
  call_causal false t old r g h =
      let s : Step = record { term = t; args = r.0; place = length (r.1) } in (
        record {
          more = g.more ++ s ∷ [];
          is = ap (λ (xs : List Step). xs ++ s ∷ []) (g.is) ∙ append_assoc old (g.more) (s ∷ []);
          causal = causal_append (r.1) [] s (g.causal) h;
        },
        (get_last (r.1) s, cites_all_more (r.0) (r.1) (s ∷ []) h),
      )

  -- a term after its arguments
  apply_causal : (shape : TermShape) (b : Bool) (ty t : ℕ) (old : List Step) (r : Words × List Step) → Grown old (r.1)
      → CitesAll (r.1) (r.0) → Grown old ((apply shape b ty t r).1) × Cites ((apply shape b ty t r).1) ((apply shape b ty t r).0)
  apply_causal (variant_shape k) b ty t old r g h = (g, h)
  apply_causal struct_shape b ty t old r g h = (g, h)
  apply_causal declared_shape b ty t old r g h = call_causal b t old r g h

  mutual
    -- an expression written out is causal
    flat_causal : (e : TypedExpr) (vars : ℕ → Word) (steps : List Step) → ((k : ℕ) → Cites steps (vars k)) → Causal [] steps
        → Grown steps ((flat facts vars steps e).1) × Cites ((flat facts vars steps e).1) ((flat facts vars steps e).0)
    flat_causal (built_var ty k) vars steps v h = (unmoved steps h, v k)
    flat_causal (built_bool ty b) vars steps v h = (unmoved steps h, tt)
    flat_causal (built_int ty n) vars steps v h = (unmoved steps h, tt)
    flat_causal (built_prim ty n) vars steps v h = (unmoved steps h, tt)
    flat_causal (built_term ty t es) vars steps v h =
        let r = flat_all_causal es vars steps v h in
        apply_causal (facts.shape t) (facts.pure t) ty t steps (flat_all facts vars steps es) (r.0) (r.1)
    flat_causal (built_let ty bs body) vars steps v h =
        let r = flat_lets_causal bs vars steps v h in
        let q = flat_causal body ((flat_lets facts vars steps bs).0) ((flat_lets facts vars steps bs).1) (r.1) (r.0.causal) in
        (along (r.0) (q.0), q.1)

    -- so are expressions
    flat_all_causal : (es : TypedExprs) (vars : ℕ → Word) (steps : List Step) → ((k : ℕ) → Cites steps (vars k)) → Causal [] steps
        → Grown steps ((flat_all facts vars steps es).1) × CitesAll ((flat_all facts vars steps es).1) ((flat_all facts vars steps es).0)
    flat_all_causal no_built vars steps v h = (unmoved steps h, tt)
    flat_all_causal (more_built e es) vars steps v h =
        let r = flat_causal e vars steps v h in
        let q = flat_all_causal es vars ((flat facts vars steps e).1) (still vars steps _ v (r.0)) (r.0.causal) in (
          along (r.0) (q.0),
          (
            subst (λ (xs : List Step). Cites xs ((flat facts vars steps e).0)) (sym (q.0.is))
                (cites_more ((flat facts vars steps e).0) ((flat facts vars steps e).1) (q.0.more) (r.1)),
            q.1,
          ),
        )

    -- so are bindings
    flat_lets_causal : (bs : TypedBindings) (vars : ℕ → Word) (steps : List Step) → ((k : ℕ) → Cites steps (vars k)) → Causal [] steps
        → Grown steps ((flat_lets facts vars steps bs).1)
        × ((k : ℕ) → Cites ((flat_lets facts vars steps bs).1) ((flat_lets facts vars steps bs).0 k))
    flat_lets_causal no_typed_bindings vars steps v h = (unmoved steps h, v)
    flat_lets_causal (more_typed_bindings k ty e bs) vars steps v h =
        let r = flat_causal e vars steps v h in
        let q = flat_lets_causal bs (set vars k ((flat facts vars steps e).0)) ((flat facts vars steps e).1)
        (set_cites vars k _ _ (still vars steps _ v (r.0)) (r.1)) (r.0.causal) in
        (along (r.0) (q.0), q.1)

-- The impure calls of an expression are causal, and its word mentions them alone.
pub steps_are_causal : (facts : TermFacts) (e : TypedExpr) → Causal [] (steps_of facts e) × Cites (steps_of facts e) (word_of facts e)
steps_are_causal facts e = let r = flat_causal facts e var_word [] (λ k. tt) tt in (r.0.causal, r.1)
