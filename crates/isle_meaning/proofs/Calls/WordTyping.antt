-- Expressions written out are typed.
use Rattle.std.proofs.Common.{◌≡◌, ◌⊎◌, inl, inr, ℕ, zero, suc, List, [], ◌∷◌, ◌++◌, length, Bool, true, false, ◌==◌, Some}
use Rattle.std.proofs.Common.{◌+◌, slice_get, refl, sym, ◌∙◌, ap, subst, arith}
use Rattle.std.proofs.lemmas.Bool.{eqb-true}
use Rattle.isle_rules.specs.TypedRules.{TypedExpr, built_var, built_bool, built_int, built_prim, built_term, built_let, TypedExprs}
use Rattle.isle_rules.specs.TypedRules.{no_built, more_built, TypedBindings, no_typed_bindings, more_typed_bindings}
use Rattle.isle_meaning.specs.Facts.{TermShape, variant_shape, struct_shape, declared_shape}
use Rattle.isle_meaning.specs.GroundValues.{IsValueOf}
use Rattle.isle_meaning.specs.Words.{Word, var_word, Words, Step, set, flat, flat_all, flat_lets, call, apply, word_of, steps_of}
use Rattle.isle_meaning.specs.Typing.{part_types, ExprTyped, ExprsTyped, BindingsTyped}
use Rattle.isle_meaning.specs.Scopes.{IsSingle, let_scope, ReadsExpr, ReadExprs, ReadsLets}
use Rattle.isle_meaning.specs.Worlds.{CheckedProgram}
use Rattle.isle_meaning.proofs.Matching.Basics.{set_at}
use Rattle.isle_meaning.specs.SoundPrograms.{IsSoundExpr, AreSoundExprs, AreSoundBindings}
use Rattle.isle_meaning.specs.Inside.TypedWords.{IsTypedWord, AreTypedWords, IsTypedStep, AreTypedSteps}

-- what stands last
at_last : {A : Type 0} (xs : List A) (x : A) → slice_get (xs ++ x ∷ []) (length xs) ≡ Some x
at_last [] x = refl
at_last (y ∷ ys) x = at_last ys x

-- what stands in the front part stays there
at_front : {A : Type 0} (xs : List A) (y : A) (i : ℕ) (x : A) → slice_get xs i ≡ Some x → slice_get (xs ++ y ∷ []) i ≡ Some x
at_front [] y i x e = absurd cc
at_front (z ∷ zs) y zero x e = e
at_front (z ∷ zs) y (suc i) x e = at_front zs y i x e

-- the type of the impure call at a place
abbrev pub step_type : (ℕ → ℕ) → List Step → ℕ → ℕ
step_type type_of [] i = 0
step_type type_of (s ∷ steps) zero = type_of s.term
step_type type_of (s ∷ steps) (suc i) = step_type type_of steps i

-- these are the types of impure calls
abbrev Told : (ℕ → ℕ) → (ℕ → ℕ) → List Step → Type 0
Told type_of D steps = (i : ℕ) (s : Step) → slice_get steps i ≡ Some s → D i ≡ type_of s.term

all_told : (type_of : ℕ → ℕ) (steps : List Step) → Told type_of (step_type type_of steps) steps
all_told type_of [] i s e = absurd cc
all_told type_of (x ∷ steps) zero s e = let q : x ≡ s = cc in ap (λ (z : Step). type_of z.term) q
all_told type_of (x ∷ steps) (suc i) s e = all_told type_of steps i s e

module _ (p : CheckedProgram) (D : ℕ → ℕ) where
  call_told : (b : Bool) (t : ℕ) (r : Words × List Step) → Told p.terms.type_of D ((call b t r).1) → Told p.terms.type_of D (r.1)
  call_told true t r h = h
  call_told false t r h = λ i s e. h i s (at_front (r.1) _ i s e)

  apply_told : (shape : TermShape) (b : Bool) (ty t : ℕ) (r : Words × List Step) → Told p.terms.type_of D ((apply shape b ty t r).1)
      → Told p.terms.type_of D (r.1)
  apply_told (variant_shape k) b ty t r h = h
  apply_told struct_shape b ty t r h = h
  apply_told declared_shape b ty t r h = call_told b t r h

  -- the calls before an expression stay where they are
  mutual
    flat_told : (e : TypedExpr) (vars : ℕ → Word) (steps : List Step) → Told p.terms.type_of D ((flat p.terms vars steps e).1)
        → Told p.terms.type_of D steps
    flat_told (built_var ty k) vars steps h = h
    flat_told (built_bool ty b) vars steps h = h
    flat_told (built_int ty n) vars steps h = h
    flat_told (built_prim ty n) vars steps h = h
    flat_told (built_term ty t es) vars steps h =
        flat_all_told es vars steps (apply_told (p.terms.shape t) (p.terms.pure t) ty t (flat_all p.terms vars steps es) h)
    flat_told (built_let ty bs body) vars steps h =
        flat_lets_told bs vars steps (flat_told body ((flat_lets p.terms vars steps bs).0) ((flat_lets p.terms vars steps bs).1) h)

    flat_all_told : (es : TypedExprs) (vars : ℕ → Word) (steps : List Step) → Told p.terms.type_of D ((flat_all p.terms vars steps es).1)
        → Told p.terms.type_of D steps
    flat_all_told no_built vars steps h = h
    flat_all_told (more_built e es) vars steps h = flat_told e vars steps (flat_all_told es vars ((flat p.terms vars steps e).1) h)

    flat_lets_told : (bs : TypedBindings) (vars : ℕ → Word) (steps : List Step)
        → Told p.terms.type_of D ((flat_lets p.terms vars steps bs).1) → Told p.terms.type_of D steps
    flat_lets_told no_typed_bindings vars steps h = h
    flat_lets_told (more_typed_bindings k ty e bs) vars steps h =
        flat_told e vars steps (flat_lets_told bs (set vars k ((flat p.terms vars steps e).0)) ((flat p.terms vars steps e).1) h)

  module _ (R S : ℕ → Type 0) (G : ℕ → ℕ) where
    -- one more typed call
    steps_append : (n : ℕ) (steps : List Step) (s : Step) → AreTypedSteps p R S G D n steps → IsTypedStep p R S G D s
        → s.place ≡ n + length steps → AreTypedSteps p R S G D n (steps ++ s ∷ [])
    steps_append n [] s h t e = (t, omega (arith, e), tt)
    steps_append n (x ∷ steps) s h t e = (h.0, h.1, steps_append (suc n) steps s (h.2) t (omega (arith, e)))

    -- a typed word, after typed calls
    abbrev Result : Word × List Step → ℕ → Type 0
    Result r u = IsTypedWord p R S G D (r.0) u × AreTypedSteps p R S G D 0 (r.1)

    abbrev Results : Words × List Step → List ℕ → Type 0
    Results r us = AreTypedWords p R S G D (r.0) us × AreTypedSteps p R S G D 0 (r.1)

    set_typed : (S' : ℕ → Type 0) (vars : ℕ → Word) (k : ℕ) (w : Word) → ((j : ℕ) → S' j → IsTypedWord p R S G D (vars j) (G j))
        → IsTypedWord p R S G D w (G k) → (j : ℕ) → (j ≡ k) ⊎ S' j → IsTypedWord p R S G D (set vars k w j) (G j)
    set_typed S' vars k w h t j i = go (j == k) refl
      where
        old : (j == k) ≡ false → (j ≡ k) ⊎ S' j → IsTypedWord p R S G D (set vars k w j) (G j)
        old e (inl q) = let r : set vars k w j ≡ w = ap (set vars k w) q ∙ set_at vars k w in
            rw r (subst (λ (z : ℕ). IsTypedWord p R S G D w (G z)) (sym q) t)
        old e (inr g) = rw e (h j g)

        go : (c : Bool) → (j == k) ≡ c → IsTypedWord p R S G D (set vars k w j) (G j)
        go true e = let q : j ≡ k = eqb-true j k e in rw e (subst (λ (z : ℕ). IsTypedWord p R S G D w (G z)) (sym q) t)
        go false e = old e i

    call_typed : (b : Bool) (t u : ℕ) (r : Words × List Step) → p.terms.pure t ≡ b → p.terms.type_of t ≡ u → (p.has_rules t ≡ true → R t)
        → p.terms.multi t ≡ false → Results r (p.terms.inputs t) → Told p.terms.type_of D ((call b t r).1) → Result (call b t r) u
    call_typed true t u r pure e ruled single h told = ((e, ruled, single, h.0, pure), h.1)
    call_typed false t u r pure e ruled single h told =
        let its : D (length (r.1)) ≡ p.terms.type_of t = told (length (r.1)) _ (at_last (r.1) _) in
        ((e, its ∙ e, ruled, single, h.0), steps_append 0 (r.1) _ (h.1) (its, ruled, single, h.0) (omega arith))

    apply_typed : (shape : TermShape) (b : Bool) (ty t u : ℕ) (r : Words × List Step) → p.terms.shape t ≡ shape → p.terms.pure t ≡ b → ty ≡ u
        → p.terms.type_of t ≡ u → (p.has_rules t ≡ true → R t) → IsSingle p.terms shape t → Results r (part_types p.terms shape ty t)
        → Told p.terms.type_of D ((apply shape b ty t r).1) → Result (apply shape b ty t r) u
    apply_typed (variant_shape k) b ty t u r s pure e o ruled single h told = ((e, (t, s, o), h.0), h.1)
    apply_typed struct_shape b ty t u r s pure e o ruled single h told = ((e, (t, s, o), h.0), h.1)
    apply_typed declared_shape b ty t u r s pure e o ruled single h told = call_typed b t u r pure o ruled single h told

    mutual
      flat_typed : (e : TypedExpr) (S' : ℕ → Type 0) (vars : ℕ → Word) (steps : List Step) (u : ℕ)
          → ((j : ℕ) → S' j → IsTypedWord p R S G D (vars j) (G j)) → AreTypedSteps p R S G D 0 steps → ReadsExpr p.terms e S'
          → ExprTyped p.terms G e u → IsSoundExpr p R e → Told p.terms.type_of D ((flat p.terms vars steps e).1)
          → Result (flat p.terms vars steps e) u
      flat_typed (built_var ty k) S' vars steps u v h r t s told = (subst (IsTypedWord p R S G D (vars k)) (t.1) (v k r), h)
      flat_typed (built_bool ty b) S' vars steps u v h r t s told = (subst (IsValueOf p.values _) t s, h)
      flat_typed (built_int ty n) S' vars steps u v h r t s told = (subst (IsValueOf p.values _) t s, h)
      flat_typed (built_prim ty n) S' vars steps u v h r t s told = (subst (IsValueOf p.values _) (t.0) s, h)
      flat_typed (built_term ty t es) S' vars steps u v h r typed s told =
          apply_typed (p.terms.shape t) (p.terms.pure t) ty t u (flat_all p.terms vars steps es) refl refl (typed.0) (typed.1) (s.0) (r.0)
          (flat_all_typed es S' vars steps (part_types p.terms (p.terms.shape t) ty t) v h (r.1) (typed.2) (s.1)
          (apply_told (p.terms.shape t) (p.terms.pure t) ty t (flat_all p.terms vars steps es) told)) told
      flat_typed (built_let ty bs body) S' vars steps u v h r t s told =
          let between = flat_told body ((flat_lets p.terms vars steps bs).0) ((flat_lets p.terms vars steps bs).1) told in
          let lets = flat_lets_typed bs S' vars steps v h (r.0) (t.0) (s.0) between in
          flat_typed body (let_scope bs S') ((flat_lets p.terms vars steps bs).0) ((flat_lets p.terms vars steps bs).1) u
          (lets.0) (lets.1) (r.1) (t.1) (s.1) told

      flat_all_typed : (es : TypedExprs) (S' : ℕ → Type 0) (vars : ℕ → Word) (steps : List Step) (us : List ℕ)
          → ((j : ℕ) → S' j → IsTypedWord p R S G D (vars j) (G j)) → AreTypedSteps p R S G D 0 steps → ReadExprs p.terms es S'
          → ExprsTyped p.terms G es us → AreSoundExprs p R es → Told p.terms.type_of D ((flat_all p.terms vars steps es).1)
          → Results (flat_all p.terms vars steps es) us
      flat_all_typed no_built S' vars steps [] v h r t s told = (tt, h)
      flat_all_typed no_built S' vars steps (u ∷ us) v h r t s told = absurd t
      flat_all_typed (more_built e es) S' vars steps [] v h r t s told = absurd t
      flat_all_typed (more_built e es) S' vars steps (u ∷ us) v h r t s told =
          let between = flat_all_told es vars ((flat p.terms vars steps e).1) told in
          let first = flat_typed e S' vars steps u v h (r.0) (t.0) (s.0) between in
          let others = flat_all_typed es S' vars ((flat p.terms vars steps e).1) us v (first.1) (r.1) (t.1) (s.1) told in
          ((first.0, others.0), others.1)

      flat_lets_typed : (bs : TypedBindings) (S' : ℕ → Type 0) (vars : ℕ → Word) (steps : List Step)
          → ((j : ℕ) → S' j → IsTypedWord p R S G D (vars j) (G j)) → AreTypedSteps p R S G D 0 steps → ReadsLets p.terms bs S'
          → BindingsTyped p.terms G bs → AreSoundBindings p R bs → Told p.terms.type_of D ((flat_lets p.terms vars steps bs).1)
          → ((j : ℕ) → let_scope bs S' j → IsTypedWord p R S G D ((flat_lets p.terms vars steps bs).0 j) (G j))
          × AreTypedSteps p R S G D 0 ((flat_lets p.terms vars steps bs).1)
      flat_lets_typed no_typed_bindings S' vars steps v h r t s told = (v, h)
      flat_lets_typed (more_typed_bindings k ty e bs) S' vars steps v h r t s told =
          let between = flat_lets_told bs (set vars k ((flat p.terms vars steps e).0)) ((flat p.terms vars steps e).1) told in
          let first = flat_typed e S' vars steps ty v h (r.0) (t.1) (s.0) between in
          flat_lets_typed bs (λ j. (j ≡ k) ⊎ S' j) (set vars k ((flat p.terms vars steps e).0)) ((flat p.terms vars steps e).1)
          (set_typed S' vars k _ v (subst (IsTypedWord p R S G D _) (sym (t.0)) (first.0))) (first.1) (r.1) (t.2) (s.1) told

-- the types of an expression's impure calls, by place
abbrev pub calls_types : CheckedProgram → TypedExpr → ℕ → ℕ
calls_types p e = step_type p.terms.type_of (steps_of p.terms e)

-- A typed expression, written out, is a typed word after typed calls.
pub expr_typed : (p : CheckedProgram) (R S : ℕ → Type 0) (G : ℕ → ℕ) (e : TypedExpr) (u : ℕ) → ReadsExpr p.terms e S
    → ExprTyped p.terms G e u → IsSoundExpr p R e
    → IsTypedWord p R S G (calls_types p e) (word_of p.terms e) u × AreTypedSteps p R S G (calls_types p e) 0 (steps_of p.terms e)
expr_typed p R S G e u r t s =
    flat_typed p (calls_types p e) R S G e S var_word [] u (λ j h. (h, refl)) tt r t s (all_told p.terms.type_of (steps_of p.terms e))
