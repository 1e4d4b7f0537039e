-- What is typed where only what is pure is called makes no impure calls.
use Rattle.std.proofs.Common.{◌≡◌, ◌&&◌, ℕ, Bool, true, false, List, [], ◌∷◌, Option, unwrap_or, refl, sym, ap, ◌∙◌}
use Rattle.std.specs.Prelude.{if◌then◌else◌}
use Rattle.isle_rules.specs.TypedRules.{TypedExpr, built_var, built_bool, built_int, built_prim, built_term, built_let, TypedExprs, no_built}
use Rattle.isle_rules.specs.TypedRules.{more_built, TypedBindings, no_typed_bindings, more_typed_bindings, Variable}
use Rattle.isle_rules.specs.Signatures.{Flags, Signature, Declared, flags_of}
use Rattle.isle_rules.specs.Elaboration.{may_call}
use Rattle.isle_rules.specs.SoundRules.WellTyped.{IsTypedExpr, AreTypedExprs, AreTypedBindings}
use Rattle.isle_meaning.specs.Facts.{TermShape, variant_shape, struct_shape, declared_shape, no_term, signature_numbered, facts_of}
use Rattle.isle_meaning.specs.Words.{Word, var_word, Words, Step, set, flat, flat_all, flat_lets, apply, steps_of}

-- what a pure caller may call is pure
called_pure : (caller called : Flags) → caller.pure ≡ true → may_call caller called ≡ true → called.pure ≡ true
called_pure caller called pure may =
    ap (λ (b : Bool). if b then called.pure else true) (sym pure) ∙ first_true (if caller.pure then called.pure else true) _ may
  where
    first_true : (a b : Bool) → (a && b) ≡ true → a ≡ true
    first_true true b e = refl
    first_true false b e = absurd cc

-- a pure call joins no impure ones
applied_pure : (shape : TermShape) (pure : Bool) (ty t : ℕ) (r : Words × List Step) (steps : List Step) → pure ≡ true → r.1 ≡ steps
    → (apply shape pure ty t r).1 ≡ steps
applied_pure (variant_shape k) pure ty t r steps p e = e
applied_pure struct_shape pure ty t r steps p e = e
applied_pure declared_shape true ty t r steps p e = e
applied_pure declared_shape false ty t r steps p e = absurd cc

module _ (declared : Declared) (variables : List Variable) (caller : Flags) (pure : caller.pure ≡ true) where
  mutual
    -- no impure call joins those before
    calls_pure : (ty : ℕ) (e : TypedExpr) (vars : ℕ → Word) (steps : List Step) → IsTypedExpr declared variables caller ty e
        → (flat (facts_of declared) vars steps e).1 ≡ steps
    calls_pure ty (built_term own t below) vars steps h =
        let m = h.1 in
        let is : signature_numbered declared t ≡ m.term = ap (λ (x : Option Signature). unwrap_or x no_term) m.known in
        applied_pure ((facts_of declared).shape t) ((facts_of declared).pure t) own t (flat_all (facts_of declared) vars steps below) steps
        (ap (λ (z : Signature). (flags_of z.form).pure) is ∙ called_pure caller (flags_of m.term.form) pure m.allowed)
        (all_pure m.term.args below vars steps m.args)
    calls_pure ty (built_var own var) vars steps h = refl
    calls_pure ty (built_bool own val) vars steps h = refl
    calls_pure ty (built_int own val) vars steps h = refl
    calls_pure ty (built_prim own name) vars steps h = refl
    calls_pure ty (built_let own bs body) vars steps h =
        let r = flat_lets (facts_of declared) vars steps bs in calls_pure ty body r.0 r.1 h.2 ∙ lets_pure bs vars steps h.1

    all_pure : (tys : List ℕ) (es : TypedExprs) (vars : ℕ → Word) (steps : List Step) → AreTypedExprs declared variables caller tys es
        → (flat_all (facts_of declared) vars steps es).1 ≡ steps
    all_pure [] no_built vars steps h = refl
    all_pure [] (more_built e es) vars steps h = absurd h
    all_pure (ty ∷ tys) no_built vars steps h = absurd h
    all_pure (ty ∷ tys) (more_built e es) vars steps h =
        all_pure tys es vars (flat (facts_of declared) vars steps e).1 h.1 ∙ calls_pure ty e vars steps h.0

    lets_pure : (bs : TypedBindings) (vars : ℕ → Word) (steps : List Step) → AreTypedBindings declared variables caller bs
        → (flat_lets (facts_of declared) vars steps bs).1 ≡ steps
    lets_pure no_typed_bindings vars steps h = refl
    lets_pure (more_typed_bindings k ty e bs) vars steps h =
        let r = flat (facts_of declared) vars steps e in lets_pure bs (set vars k r.0) r.1 h.2 ∙ calls_pure ty e vars steps h.1

  -- an expression makes none
  pub steps_pure : (ty : ℕ) (e : TypedExpr) → IsTypedExpr declared variables caller ty e → steps_of (facts_of declared) e ≡ []
  steps_pure ty e h = calls_pure ty e var_word [] h
