-- What typing and the check for overlaps give of the calls and ties of rules.
use Rattle.std.proofs.Common.{◌≡◌, ◌&&◌, ℕ, List, [], ◌∷◌, Bool, true, false, Option, Some, slice_get, refl, sym, ◌∙◌, ap, subst}
use Rattle.std.proofs.Math.Decide.{ℕ_discrete}
use Rattle.std.specs.Prelude.{if◌then◌else◌, unwrap_or}
use Rattle.isle_rules.specs.TypedRules.{TypedExpr, TypedExprs, TypedBindings, built_term, built_var, built_bool, built_int, built_prim}
use Rattle.isle_rules.specs.TypedRules.{built_let, no_built, more_built, no_typed_bindings, more_typed_bindings, Variable, TypedRule}
use Rattle.isle_rules.specs.Signatures.{Flags, TermForm, Signature, Declared, flags_of}
use Rattle.isle_rules.specs.Elaboration.{may_call}
use Rattle.isle_rules.specs.SoundRules.WellTyped.{IsTypedExpr, AreTypedExprs, AreTypedBindings, IsTypedRule}
use Rattle.isle_meaning.specs.Facts.{TermShape, variant_shape, struct_shape, declared_shape, no_term, signature_numbered, facts_of}
use Rattle.isle_meaning.specs.Laws.Matching.{IsRuleOfTypes}
use Rattle.isle_meaning.specs.Worlds.{CheckedProgram}
use Rattle.isle_meaning.proofs.Matching.Leaving.{both_match_overlap}
use Rattle.isle_meaning.specs.SoundPrograms.{IsSound, IsSoundRule}
use Rattle.isle_meaning.specs.Laws.Calls.{CallOf, ExprCalls, ExprsCall, BindingsCall, HasNoOverlaps, HasNoTies, NoOverlapsNoTies}
use Rattle.isle_meaning.specs.Laws.Calls.{TypedRulesCallWell}

-- what holds of a term holds of it as what is called
of_call : (Q : ℕ → Type 0) (shape : TermShape) (t : ℕ) → Q t → CallOf Q shape t
of_call Q (variant_shape k) t q = tt
of_call Q struct_shape t q = tt
of_call Q declared_shape t q = q

module _ (declared : Declared) (variables : List Variable) (caller : Flags) (Q : ℕ → Type 0)
    (may : (t : ℕ) (term : Signature) → slice_get declared.terms t ≡ Some term → may_call caller (flags_of term.form) ≡ true → Q t) where
  mutual
    -- A typed expression calls what it may call.
    expr_calls : (e : TypedExpr) (ty : ℕ) → IsTypedExpr declared variables caller ty e → ExprCalls (facts_of declared) Q e
    expr_calls (built_var own k) ty h = tt
    expr_calls (built_bool own b) ty h = tt
    expr_calls (built_int own n) ty h = tt
    expr_calls (built_prim own name) ty h = tt
    expr_calls (built_term own t es) ty h =
        (of_call Q ((facts_of declared).shape t) t (may t (h.1.term) (h.1.known) (h.1.allowed)), exprs_call es _ (h.1.args))
    expr_calls (built_let own bs body) ty h = (bindings_call bs (h.1), expr_calls body ty (h.2))

    -- So do typed expressions.
    exprs_call : (es : TypedExprs) (tys : List ℕ) → AreTypedExprs declared variables caller tys es → ExprsCall (facts_of declared) Q es
    exprs_call no_built tys h = tt
    exprs_call (more_built e es) [] h = absurd h
    exprs_call (more_built e es) (ty ∷ tys) h = (expr_calls e ty (h.0), exprs_call es tys (h.1))

    -- So do typed bindings.
    bindings_call : (bs : TypedBindings) → AreTypedBindings declared variables caller bs → BindingsCall (facts_of declared) Q bs
    bindings_call no_typed_bindings h = tt
    bindings_call (more_typed_bindings k ty e bs) h = (expr_calls e ty (h.1), bindings_call bs (h.2))

-- what may be called where nothing may fail may not fail
sure_call : (pure multi partial may : Bool) → (pure && (multi && (if partial then may else true))) ≡ true → may ≡ false → partial ≡ false
sure_call pure multi false may h e = refl
sure_call true true true true h e = absurd cc
sure_call true true true false h e = absurd cc
sure_call true false true may h e = absurd cc
sure_call false multi true may h e = absurd cc

-- the term of a number
at_number : (declared : Declared) (t : ℕ) (term : Signature) → slice_get declared.terms t ≡ Some term → signature_numbered declared t ≡ term
at_number declared t term known = ap (λ (x : Option Signature). unwrap_or x no_term) known

-- its flags
flags_at : (declared : Declared) (t : ℕ) (term : Signature) → slice_get declared.terms t ≡ Some term
    → flags_of (signature_numbered declared t).form ≡ flags_of term.form
flags_at declared t term known = ap (λ (x : Signature). flags_of x.form) (at_number declared t term known)

-- The right side of a typed rule of a term that may not fail calls what may not fail.
right_calls : (declared : Declared) (rule : TypedRule) (typed : IsTypedRule declared rule) → typed.flags.partial ≡ false
    → ExprCalls (facts_of declared) (λ t. (facts_of declared).partial t ≡ false) rule.right
right_calls declared rule typed sure =
    expr_calls declared rule.variables (typed.flags) (λ t. (facts_of declared).partial t ≡ false)
    (λ t term known allowed. ap (λ (f : Flags). f.partial) (flags_at declared t term known) ∙ sure_flags (flags_of term.form) allowed)
    rule.right (typed.root.ret) (typed.right)
  where
    sure_flags : (called : Flags) → may_call (typed.flags) called ≡ true → called.partial ≡ false
    sure_flags called h = sure_call _ _ (called.partial) (typed.flags.partial) h sure

-- A well typed rule calls well.
pub typed_rules_call_well : TypedRulesCallWell
typed_rules_call_well declared rule typed sure =
    let same : (facts_of declared).partial rule.root ≡ typed.flags.partial =
    ap (λ (f : Flags). f.partial) (flags_at declared rule.root (typed.root) (typed.known))
    ∙ ap (λ (f : TermForm). (flags_of f).partial) (typed.ruled.1) in
    right_calls declared rule typed (sym same ∙ sure)

-- a sound rule is one of its term's types
rule_of_types : (p : CheckedProgram) (R : ℕ → Type 0) (rule : TypedRule) → IsSoundRule p R rule
    → IsRuleOfTypes p.terms (p.terms.inputs rule.root) rule
rule_of_types p R rule is = record {
  well = is.well;
  result_type = p.terms.type_of rule.root;
  var_types = is.var_types;
  typed = is.typed;
}

-- where none overlap, none tie
pub no_ties : (p : CheckedProgram) (R : ℕ → Type 0) → IsSound p R → HasNoOverlaps p R → HasNoTies p R
no_ties p R sound apart c t args i j one other r h k m n e = elim (ℕ_discrete i j) [
  | yes q ↦ (let z : Some one ≡ Some other = sym (h.listed) ∙ (ap (slice_get p.rules) q ∙ k.listed) in cc)
  | no d ↦ (let roots : one.root ≡ other.root = h.of_term ∙ sym (k.of_term) in
      let runs : R one.root = subst R (sym (h.of_term)) r in
      let mine = rule_of_types p R one (sound.rules i one (h.listed) runs) in
      let theirs = rule_of_types p R other (sound.rules j other (k.listed) (subst R roots runs)) in
      absurd (apart i j one other (h.listed) (k.listed) d roots runs (
        e,
        both_match_overlap p.terms (p.terms.inputs one.root) c args one other
            mine (subst (λ (u : ℕ). IsRuleOfTypes p.terms (p.terms.inputs u) other) (sym roots) theirs) m n,
      )))
]

-- Where none overlap, none tie.
pub no_overlaps_no_ties : NoOverlapsNoTies
no_overlaps_no_ties p run sound apart = no_ties p (λ t. run t ≡ true) sound apart
