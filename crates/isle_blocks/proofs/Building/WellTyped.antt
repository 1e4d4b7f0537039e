-- Of a well typed rule, each term of a pattern has all its parts, and conditions call nothing impure.
use Rattle.std.proofs.Common.{◌≡◌, ◌&&◌, ℕ, suc, Bool, true, false, List, [], ◌∷◌, map, length, Option, Some, slice_get, unwrap_or, refl, sym, ap, ◌∙◌}
use Rattle.std.proofs.lemmas.List.{length-map}
use Rattle.std.proofs.lemmas.Option.{slice_get-map}
use Rattle.std.specs.Option.{option_map}
use Rattle.isle_types.specs.declared.ids.TypeId.{TypeId}
use Rattle.isle_rules.specs.declared.terms.Term.{Term}
use Rattle.isle_rules.specs.Shown.ShownTerms.{term_shown}
use Rattle.isle_rules.specs.TypedRules.{TypedPattern, typed_bind, typed_var, typed_bool, typed_int, typed_prim, typed_term, typed_wildcard}
use Rattle.isle_rules.specs.TypedRules.{typed_and, TypedPatterns, no_typed, more_typed, TypedExpr, built_var, built_bool, built_int}
use Rattle.isle_rules.specs.TypedRules.{built_prim, built_term, built_let, TypedExprs, no_built, more_built, TypedBindings, no_typed_bindings}
use Rattle.isle_rules.specs.TypedRules.{more_typed_bindings, built_at, Variable, TypedIfLet}
use Rattle.isle_rules.specs.Signatures.{Flags, Signature, Declared, flags_of}
use Rattle.isle_rules.specs.Elaboration.{on_lhs}
use Rattle.isle_rules.specs.SoundRules.WellTyped.{same_for_each, IsTypedPattern, AreTypedPatterns, IsTypedExpr, AreTypedExprs, AreTypedBindings}
use Rattle.isle_rules.specs.SoundRules.WellTyped.{AreTypedIfLets}
use Rattle.isle_meaning.specs.Facts.{TermShape, variant_shape, struct_shape, declared_shape, patterns, no_term, signature_numbered, facts_of}
use Rattle.isle_meaning.specs.Facts.{shape_of_form, never_fails}
use Rattle.isle_meaning.specs.Words.{Word, var_word, Words, Step, set, flat, flat_all, flat_lets, apply}
use Rattle.isle_blocks.specs.Inside.Building.Named.{AreKnownTerms, IsFilled, AreFilled, IfLetsAreFilled, CallNothingImpure}

first_true : (a b : Bool) → (a && b) ≡ true → a ≡ true
first_true true b e = refl
first_true false b e = absurd cc

-- a pure call joins no impure ones
applied_pure : (shape : TermShape) (pure : Bool) (ty t : ℕ) (r : Words × List Step) (steps : List Step) → pure ≡ true → r.1 ≡ steps
    → (apply shape pure ty t r).1 ≡ steps
applied_pure (variant_shape k) pure ty t r steps p e = e
applied_pure struct_shape pure ty t r steps p e = e
applied_pure declared_shape true ty t r steps p e = e
applied_pure declared_shape false ty t r steps p e = absurd cc

at_number : (declared : Declared) (t : ℕ) (term : Signature) → slice_get declared.terms t ≡ Some term → signature_numbered declared t ≡ term
at_number declared t term known = ap (λ (x : Option Signature). unwrap_or x no_term) known

module _ (declared : Declared) (variables : List Variable) where
  many_patterns : (tys : List ℕ) (ps : TypedPatterns) → AreTypedPatterns declared variables tys ps → patterns ps ≡ length tys
  many_patterns [] no_typed h = refl
  many_patterns [] (more_typed p ps) h = absurd h
  many_patterns (ty ∷ tys) no_typed h = absurd h
  many_patterns (ty ∷ tys) (more_typed p ps) h = ap suc (many_patterns tys ps h.1)

  mutual
    typed_filled : (ty : ℕ) (p : TypedPattern) → IsTypedPattern declared variables ty p → IsFilled (facts_of declared) p
    typed_filled ty (typed_bind own var below) h = typed_filled ty below h.2
    typed_filled ty (typed_var own var) h = tt
    typed_filled ty (typed_bool own val) h = tt
    typed_filled ty (typed_int own val) h = tt
    typed_filled ty (typed_prim own name) h = tt
    typed_filled ty (typed_term own number below) h = let m = h.1 in (
      many_patterns m.term.args below m.args ∙ ap (λ (z : Signature). length z.args) (sym (at_number declared number m.term m.known)),
      all_filled m.term.args below m.args,
    )
    typed_filled ty (typed_wildcard own) h = tt
    typed_filled ty (typed_and own below) h = all_filled (same_for_each ty below) below h.1

    pub all_filled : (tys : List ℕ) (ps : TypedPatterns) → AreTypedPatterns declared variables tys ps → AreFilled (facts_of declared) ps
    all_filled [] no_typed h = tt
    all_filled [] (more_typed p ps) h = absurd h
    all_filled (ty ∷ tys) no_typed h = absurd h
    all_filled (ty ∷ tys) (more_typed p ps) h = (typed_filled ty p h.0, all_filled tys ps h.1)

  module _ (flags : Flags) where
    mutual
      -- no impure call joins those before
      calls_pure : (ty : ℕ) (e : TypedExpr) (vars : ℕ → Word) (steps : List Step) → IsTypedExpr declared variables (on_lhs flags) ty e
          → (flat (facts_of declared) vars steps e).1 ≡ steps
      calls_pure ty (built_term own number below) vars steps h =
          let m = h.1 in
          let pure : (flags_of m.term.form).pure ≡ true = first_true (flags_of m.term.form).pure _ m.allowed in
          applied_pure ((facts_of declared).shape number) ((facts_of declared).pure number) own number
          (flat_all (facts_of declared) vars steps below) steps
          (ap (λ (z : Signature). (flags_of z.form).pure) (at_number declared number m.term m.known) ∙ pure)
          (all_pure m.term.args below vars steps m.args)
      calls_pure ty (built_var own var) vars steps h = refl
      calls_pure ty (built_bool own val) vars steps h = refl
      calls_pure ty (built_int own val) vars steps h = refl
      calls_pure ty (built_prim own name) vars steps h = refl
      calls_pure ty (built_let own bs body) vars steps h =
          let r = flat_lets (facts_of declared) vars steps bs in calls_pure ty body r.0 r.1 h.2 ∙ lets_pure bs vars steps h.1

      all_pure : (tys : List ℕ) (es : TypedExprs) (vars : ℕ → Word) (steps : List Step) → AreTypedExprs declared variables (on_lhs flags) tys es
          → (flat_all (facts_of declared) vars steps es).1 ≡ steps
      all_pure [] no_built vars steps h = refl
      all_pure [] (more_built e es) vars steps h = absurd h
      all_pure (ty ∷ tys) no_built vars steps h = absurd h
      all_pure (ty ∷ tys) (more_built e es) vars steps h =
          all_pure tys es vars (flat (facts_of declared) vars steps e).1 h.1 ∙ calls_pure ty e vars steps h.0

      lets_pure : (bs : TypedBindings) (vars : ℕ → Word) (steps : List Step) → AreTypedBindings declared variables (on_lhs flags) bs
          → (flat_lets (facts_of declared) vars steps bs).1 ≡ steps
      lets_pure no_typed_bindings vars steps h = refl
      lets_pure (more_typed_bindings k ty e bs) vars steps h =
          let r = flat (facts_of declared) vars steps e in lets_pure bs (set vars k r.0) r.1 h.2 ∙ calls_pure ty e vars steps h.1

    pub typed_calls : (is : List TypedIfLet) → AreTypedIfLets declared variables (on_lhs flags) is → CallNothingImpure (facts_of declared) is
    typed_calls [] h = tt
    typed_calls (x ∷ is) h = (calls_pure (built_at x.value) x.value var_word [] h.0, typed_calls is h.2)

    pub iflets_filled : (is : List TypedIfLet) → AreTypedIfLets declared variables (on_lhs flags) is → IfLetsAreFilled (facts_of declared) is
    iflets_filled [] h = tt
    iflets_filled (x ∷ is) h = (typed_filled (built_at x.value) x.pattern h.1, iflets_filled is h.2)

-- shown terms are what is said of them
pub shown_known : (names : List (List ℕ)) (declared : Declared) (terms : List Term) → map (term_shown names) terms ≡ declared.terms
    → AreKnownTerms names (facts_of declared) terms
shown_known names declared terms shown number term get =
    let there : slice_get declared.terms number ≡ Some (term_shown names term) =
    ap (λ (z : List Signature). slice_get z number) (sym shown) ∙ slice_get-map (term_shown names) terms number ∙ ap
    (option_map (term_shown names)) get in
    let is = at_number declared number (term_shown names term) there in
    record {
      shape = ap (λ (z : Signature). shape_of_form z.form) is;
      pure = ap (λ (z : Signature). (flags_of z.form).pure) is;
      partial = ap (λ (z : Signature). (flags_of z.form).partial) is;
      multi = ap (λ (z : Signature). (flags_of z.form).multi) is;
      infallible = ap (λ (z : Signature). never_fails z.form) is;
      takes = ap (λ (z : Signature). length z.args) is ∙ length-map term.arg_tys (λ (ty : TypeId). ty.0);
    }
