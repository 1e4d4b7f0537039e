-- Well typed rules that keep scopes are rules that the laws on matching speak of.
use Rattle.std.proofs.Common.{◌≡◌, ◌⊎◌, ◌≤◌, ◌<◌, ◌+◌, ◌&&◌, inl, inr, ℕ, suc, List, [], ◌∷◌, length, Bool, true, false, Option, Some, slice_get}
use Rattle.std.proofs.Common.{refl, sym, ◌∙◌, ap, subst, arith}
use Rattle.std.specs.Prelude.{if◌then◌else◌, unwrap_or}
use Rattle.isle_rules.specs.TypedRules.{TypedPattern, TypedPatterns, typed_bind, typed_var, typed_bool, typed_int, typed_prim, typed_term}
use Rattle.isle_rules.specs.TypedRules.{typed_wildcard, typed_and, no_typed, more_typed, TypedExpr, TypedExprs, TypedBindings, built_term}
use Rattle.isle_rules.specs.TypedRules.{built_var, built_bool, built_int, built_prim, built_let, no_built, more_built, no_typed_bindings, more_typed_bindings}
use Rattle.isle_rules.specs.TypedRules.{built_at, Variable, TypedIfLet, TypedRule}
use Rattle.isle_rules.specs.Signatures.{Flags, TermForm, variant_form, struct_form, declared_form, Signature, Declared, flags_of}
use Rattle.isle_rules.specs.Elaboration.{may_call, on_lhs}
use Rattle.isle_rules.specs.SoundRules.WellTyped.{HasType, same_for_each, IsTypedPattern, AreTypedPatterns}
use Rattle.isle_rules.specs.SoundRules.WellTyped.{IsTypedExpr, AreTypedExprs, AreTypedBindings, AreTypedIfLets, IsTypedRule}
use Rattle.isle_rules.specs.SoundRules.KeptScopes.{Scope, nothing_bound, with_next, counting, IsUsable, PatternBinds, PatternsBind, ExprUses}
use Rattle.isle_rules.specs.SoundRules.KeptScopes.{ExprsUse, BindingsAdd, IfLetsBind, KeepsScopes}
use Rattle.isle_meaning.specs.Facts.{TermFacts, TermShape, variant_shape, struct_shape, declared_shape, patterns, shape_of_form, no_term, signature_numbered}
use Rattle.isle_meaning.specs.Facts.{variant_types, struct_types, type_shape, facts_of, TakesFields}
use Rattle.isle_meaning.specs.Scopes.{scope, scope_all, iflets_scope, let_scope, IsWellOpened, IsWellScoped, AreWellScoped, IsSingle}
use Rattle.isle_meaning.specs.Scopes.{ReadsExpr, ReadExprs, ReadsLets, IfLetsAreWellScoped, none, scope_of, TakesOne, TakeOneEach, IfLetsTakeOne}
use Rattle.isle_meaning.specs.Scopes.{RuleTakesOne, IsWellScopedRule}
use Rattle.isle_meaning.specs.Typing.{part_types, IsTyped, AllTyped, EachTyped, ExprTyped, ExprsTyped, BindingsTyped, IfLetsTyped, RuleIsTyped}
use Rattle.isle_meaning.specs.Inside.Variables.{type_in, var_type}
use Rattle.isle_meaning.specs.Elaborated.{without_multi}
use Rattle.isle_meaning.specs.Laws.Elaborated.{TypedRulesAreElaborated}
use Rattle.isle_meaning.specs.Laws.Matching.{ElaboratedRulesFit}

-- what may be called where nothing `multi` may isn't `multi`
single : (pure multi partial may : Bool) → (pure && ((if multi then may else true) && partial)) ≡ true → may ≡ false → multi ≡ false
single pure false partial may h e = refl
single true true partial false h e = absurd cc
single true true partial true h e = absurd cc
single false true partial may h e = absurd cc

-- the variables that can be used are read, and those that are read are bound
abbrev IsScope : (ℕ → Type 0) → Scope → Type 0
IsScope S scope = ((k : ℕ) → IsUsable scope.usable k → S k) × ((k : ℕ) → S k → k < scope.count)

still : (S : ℕ → Type 0) (before after : Scope) → after ≡ before → IsScope S before → IsScope S after
still S before after e h = subst (IsScope S) (sym e) h

module _ (declared : Declared) (variables : List Variable) (fields : TakesFields declared) where
  at_number : (t : ℕ) (term : Signature) → slice_get declared.terms t ≡ Some term → signature_numbered declared t ≡ term
  at_number t term known = ap (λ (x : Option Signature). unwrap_or x no_term) known

  -- the types of a term's parts are those of its arguments
  parts_are : (t ty : ℕ) (term : Signature) → slice_get declared.terms t ≡ Some term → term.ret ≡ ty
      → part_types (facts_of declared) (shape_of_form (signature_numbered declared t).form) ty t ≡ term.args
  parts_are t ty term known type = go (term.form) refl
    where
      shape_is : (form : TermForm) → term.form ≡ form
          → part_types (facts_of declared) (shape_of_form (signature_numbered declared t).form) ty t ≡ part_types
          (facts_of declared) (shape_of_form form) ty t
      shape_is form e =
          let p : (signature_numbered declared t).form ≡ form = ap (λ (x : Signature). x.form) (at_number t term known) ∙ e in
          ap (λ (x : TermForm). part_types (facts_of declared) (shape_of_form x) ty t) p

      go : (form : TermForm) → term.form ≡ form → part_types (facts_of declared) (shape_of_form (signature_numbered declared t).form) ty t ≡ term.args
      go (variant_form k) e =
          shape_is (variant_form k) e ∙ ap (λ (z : ℕ). variant_types (type_shape declared.types z) k) (sym type) ∙ fields.variant t k term known e
      go struct_form e =
          shape_is struct_form e ∙ ap (λ (z : ℕ). struct_types (type_shape declared.types z)) (sym type) ∙ fields.struct t term known e
      go (declared_form flags makes takes) e =
          shape_is (declared_form flags makes takes) e ∙ ap (λ (x : Signature). x.args) (at_number t term known)

  has_type : (var ty : ℕ) → HasType variables var ty → var_type variables var ≡ ty
  has_type var ty (variable, e, t) = ap type_in e ∙ t

  mutual
    pattern_typed : (ty : ℕ) (p : TypedPattern) → IsTypedPattern declared variables ty p
        → IsTyped (facts_of declared) (var_type variables) p ty
    pattern_typed ty (typed_bind own var below) h = (h.0, has_type var ty (h.1), pattern_typed ty below (h.2))
    pattern_typed ty (typed_var own var) h = (h.0, has_type var ty (h.1))
    pattern_typed ty (typed_bool own b) h = h.0
    pattern_typed ty (typed_int own n) h = h.0
    pattern_typed ty (typed_prim own name) h = (h.0, ap (λ (x : Option ℕ). unwrap_or x 0) (h.1))
    pattern_typed ty (typed_term own t below) (e, m) = (
      e,
      ap (λ (x : Signature). x.ret) (at_number t m.term m.known) ∙ m.type,
      subst (AllTyped (facts_of declared) (var_type variables) below) (sym (parts_are t own m.term m.known (m.type ∙ sym e)))
          (patterns_typed m.term.args below m.args),
    )
    pattern_typed ty (typed_wildcard own) h = h
    pattern_typed ty (typed_and own below) h = (h.0, each_typed ty below (h.1))

    patterns_typed : (tys : List ℕ) (ps : TypedPatterns) → AreTypedPatterns declared variables tys ps
        → AllTyped (facts_of declared) (var_type variables) ps tys
    patterns_typed [] no_typed h = tt
    patterns_typed [] (more_typed p ps) h = absurd h
    patterns_typed (ty ∷ tys) no_typed h = absurd h
    patterns_typed (ty ∷ tys) (more_typed p ps) h = (pattern_typed ty p (h.0), patterns_typed tys ps (h.1))

    each_typed : (ty : ℕ) (ps : TypedPatterns) → AreTypedPatterns declared variables (same_for_each ty ps) ps
        → EachTyped (facts_of declared) (var_type variables) ps ty
    each_typed ty no_typed h = tt
    each_typed ty (more_typed p ps) h = (pattern_typed ty p (h.0), each_typed ty ps (h.1))

  count_typed : (tys : List ℕ) (ps : TypedPatterns) → AreTypedPatterns declared variables tys ps → patterns ps ≡ length tys
  count_typed [] no_typed h = refl
  count_typed [] (more_typed p ps) h = absurd h
  count_typed (ty ∷ tys) no_typed h = absurd h
  count_typed (ty ∷ tys) (more_typed p ps) h = ap suc (count_typed tys ps (h.1))

  next_bound : (S : ℕ → Type 0) (inside : Scope) (var : ℕ) → var ≡ inside.count → IsScope S inside → IsScope (λ k. (k ≡ var) ⊎ S k) (with_next inside)
  next_bound S inside var e h = (
    λ k u. elim u [ inl p ↦ inl (sym p ∙ sym e) | inr v ↦ inr (h.0 k v) ],
    λ k i. elim i [ inl p ↦ omega arith | inr j ↦ (let l = h.1 k j in omega arith) ],
  )

  -- where these terms are taken to be `multi`
  module _ (flags : ℕ → Bool) where
    abbrev flagged : TermFacts
    flagged = record (facts_of declared) { multi = flags }

    opened : (shape : TermShape) (t n : ℕ) → n ≡ length (signature_numbered declared t).args → flags t ≡ false → IsWellOpened flagged shape t n
    opened (variant_shape k) t n e m = tt
    opened struct_shape t n e m = tt
    opened declared_shape t n e m = (e, m)

    mutual
      pattern_scoped : (ty : ℕ) (p : TypedPattern) (before after : Scope) (S : ℕ → Type 0) → IsTypedPattern declared variables ty p
          → TakesOne flagged p → PatternBinds p before after → IsScope S before
          → IsWellScoped flagged p S × IsScope (scope p S) after
      pattern_scoped ty (typed_bind own var below) before after S t o (inside, b, e, f) h =
          let r = pattern_scoped ty below before inside S (t.2) o b h in
          let q = subst (IsScope (scope (typed_bind own var below) S)) (sym f) (next_bound (scope below S) inside var e (r.1)) in
          ((r.0, λ i. (let l = r.1.1 var i in omega arith)), q)
      pattern_scoped ty (typed_var own var) before after S t o b h = (h.0 var (b.0), still S before after (b.1) h)
      pattern_scoped ty (typed_bool own val) before after S t o b h = (tt, still S before after b h)
      pattern_scoped ty (typed_int own val) before after S t o b h = (tt, still S before after b h)
      pattern_scoped ty (typed_prim own name) before after S t o b h = (tt, still S before after b h)
      pattern_scoped ty (typed_term own t below) before after S (e, m) o b h =
          let r = patterns_scoped m.term.args below before after S m.args (o.1) b h in
          let n : patterns below ≡ length (signature_numbered declared t).args =
          count_typed m.term.args below m.args ∙ ap (λ (x : Signature). length x.args) (sym (at_number t m.term m.known)) in
          ((opened (shape_of_form (signature_numbered declared t).form) t (patterns below) n (o.0), r.0), r.1)
      pattern_scoped ty (typed_wildcard own) before after S t o b h = (tt, still S before after b h)
      pattern_scoped ty (typed_and own below) before after S t o b h = patterns_scoped (same_for_each ty below) below before after S (t.1) o b h

      patterns_scoped : (tys : List ℕ) (ps : TypedPatterns) (before after : Scope) (S : ℕ → Type 0) → AreTypedPatterns declared variables tys ps
          → TakeOneEach flagged ps → PatternsBind ps before after → IsScope S before
          → AreWellScoped flagged ps S × IsScope (scope_all ps S) after
      patterns_scoped [] no_typed before after S t o b h = (tt, still S before after b h)
      patterns_scoped [] (more_typed p ps) before after S t o b h = absurd t
      patterns_scoped (ty ∷ tys) no_typed before after S t o b h = absurd t
      patterns_scoped (ty ∷ tys) (more_typed p ps) before after S t o (between, b, d) h =
          let r = pattern_scoped ty p before between S (t.0) (o.0) b h in
          let q = patterns_scoped tys ps between after (scope p S) (t.1) (o.1) d (r.1) in ((r.0, q.0), q.1)

  module _ (caller : Flags) where
    mutual
      expr_typed : (ty : ℕ) (e : TypedExpr) → IsTypedExpr declared variables caller ty e
          → ExprTyped (facts_of declared) (var_type variables) e ty
      expr_typed ty (built_term own t below) (e, m) = (
        e,
        ap (λ (x : Signature). x.ret) (at_number t m.term m.known) ∙ m.type,
        subst (ExprsTyped (facts_of declared) (var_type variables) below) (sym (parts_are t own m.term m.known (m.type ∙ sym e)))
            (exprs_typed m.term.args below m.args),
      )
      expr_typed ty (built_var own var) h = (h.0, has_type var ty (h.1))
      expr_typed ty (built_bool own val) h = h.0
      expr_typed ty (built_int own val) h = h.0
      expr_typed ty (built_prim own name) h = (h.0, ap (λ (x : Option ℕ). unwrap_or x 0) (h.1))
      expr_typed ty (built_let own bindings body) h = (bindings_typed bindings (h.1), expr_typed ty body (h.2))

      exprs_typed : (tys : List ℕ) (es : TypedExprs) → AreTypedExprs declared variables caller tys es
          → ExprsTyped (facts_of declared) (var_type variables) es tys
      exprs_typed [] no_built h = tt
      exprs_typed [] (more_built e es) h = absurd h
      exprs_typed (ty ∷ tys) no_built h = absurd h
      exprs_typed (ty ∷ tys) (more_built e es) h = (expr_typed ty e (h.0), exprs_typed tys es (h.1))

      bindings_typed : (bs : TypedBindings) → AreTypedBindings declared variables caller bs
          → BindingsTyped (facts_of declared) (var_type variables) bs
      bindings_typed no_typed_bindings h = tt
      bindings_typed (more_typed_bindings var ty val others) h = (has_type var ty (h.0), expr_typed ty val (h.1), bindings_typed others (h.2))

    iflets_typed : (xs : List TypedIfLet) → AreTypedIfLets declared variables caller xs
        → IfLetsTyped (facts_of declared) (var_type variables) xs
    iflets_typed [] h = tt
    iflets_typed (x ∷ xs) h =
        let e = expr_typed (built_at x.value) x.value (h.0) in
        ((built_at x.value, e, pattern_typed (built_at x.value) x.pattern (h.1)), iflets_typed xs (h.2))

    -- where what may be called isn't among these
    module _ (flags : ℕ → Bool)
        (once : (t : ℕ) (term : Signature) → slice_get declared.terms t ≡ Some term → may_call caller (flags_of term.form) ≡ true → flags t ≡ false)
      where
        is_single : (shape : TermShape) (t : ℕ) → flags t ≡ false → IsSingle (flagged flags) shape t
        is_single (variant_shape k) t m = tt
        is_single struct_shape t m = tt
        is_single declared_shape t m = m

        mutual
          expr_reads : (ty : ℕ) (e : TypedExpr) (scope : Scope) (count : ℕ) (S : ℕ → Type 0) → IsTypedExpr declared variables caller ty e
              → ExprUses e scope count → ((k : ℕ) → IsUsable scope.usable k → S k) → ReadsExpr (flagged flags) e S × (scope.count ≤ count)
          expr_reads ty (built_term own t below) scope count S (e, m) u h =
              let r = exprs_read m.term.args below scope count S m.args u h in
              ((is_single (shape_of_form (signature_numbered declared t).form) t (once t m.term m.known m.allowed), r.0), r.1)
          expr_reads ty (built_var own var) scope count S t u h = let e : count ≡ scope.count = u.1 in (h var (u.0), omega arith)
          expr_reads ty (built_bool own val) scope count S t u h = let e : count ≡ scope.count = u in (tt, omega arith)
          expr_reads ty (built_int own val) scope count S t u h = let e : count ≡ scope.count = u in (tt, omega arith)
          expr_reads ty (built_prim own name) scope count S t u h = let e : count ≡ scope.count = u in (tt, omega arith)
          expr_reads ty (built_let own bindings body) scope count S t (inside, b, u) h =
              let r = bindings_read bindings scope inside S (t.1) b h in
              let q = expr_reads ty body inside count (let_scope bindings S) (t.2) u (r.1) in
              let l : scope.count ≤ inside.count = r.2 in let m : inside.count ≤ count = q.1 in ((r.0, q.0), omega arith)

          exprs_read : (tys : List ℕ) (es : TypedExprs) (scope : Scope) (count : ℕ) (S : ℕ → Type 0)
              → AreTypedExprs declared variables caller tys es → ExprsUse es scope count → ((k : ℕ) → IsUsable scope.usable k → S k)
              → ReadExprs (flagged flags) es S × (scope.count ≤ count)
          exprs_read [] no_built scope count S t u h = let e : count ≡ scope.count = u in (tt, omega arith)
          exprs_read [] (more_built e es) scope count S t u h = absurd t
          exprs_read (ty ∷ tys) no_built scope count S t u h = absurd t
          exprs_read (ty ∷ tys) (more_built e es) scope count S t (next, u, v) h =
              let r = expr_reads ty e scope next S (t.0) u h in
              let q = exprs_read tys es (counting scope next) count S (t.1) v h in
              let l : scope.count ≤ next = r.1 in let m : next ≤ count = q.1 in ((r.0, q.0), omega arith)

          bindings_read : (bs : TypedBindings) (before after : Scope) (S : ℕ → Type 0) → AreTypedBindings declared variables caller bs
              → BindingsAdd bs before after → ((k : ℕ) → IsUsable before.usable k → S k)
              → ReadsLets (flagged flags) bs S × ((k : ℕ) → IsUsable after.usable k → let_scope bs S k) × (before.count ≤ after.count)
          bindings_read no_typed_bindings before after S t b h =
              let e : after.count ≡ before.count = ap (λ (x : Scope). x.count) b in
              (tt, subst (λ (x : Scope). (k : ℕ) → IsUsable x.usable k → S k) (sym b) h, omega arith)
          bindings_read (more_typed_bindings var ty val others) before after S t b h =
              let r = expr_reads ty val before var S (t.1) (b.0) h in
              let q = bindings_read others (with_next (counting before var)) after (λ j. (j ≡ var) ⊎ S j) (t.2) (b.1)
              (λ k u. elim u [ inl e ↦ inl (sym e) | inr v ↦ inr (h k v) ]) in
              let l : before.count ≤ var = r.1 in let m : var + 1 ≤ after.count = q.2 in ((r.0, q.0), q.1, omega arith)

        iflets_scoped : (xs : List TypedIfLet) (before after : Scope) (S : ℕ → Type 0) → AreTypedIfLets declared variables caller xs
            → IfLetsTakeOne (flagged flags) xs → IfLetsBind xs before after → IsScope S before
            → IfLetsAreWellScoped (flagged flags) xs S × IsScope (iflets_scope xs S) after
        iflets_scoped [] before after S t o b h = (tt, still S before after b h)
        iflets_scoped (x ∷ xs) before after S t o (next, between, u, b, d) h =
            let r = expr_reads (built_at x.value) x.value before next S (t.0) u (h.0) in
            let l : before.count ≤ next = r.1 in
            let here : IsScope S (counting before next) = (h.0, λ k i. (let m = h.1 k i in omega arith)) in
            let p = pattern_scoped flags (built_at x.value) x.pattern (counting before next) between S (t.1) (o.0) b here in
            let q = iflets_scoped xs between after (scope x.pattern S) (t.2) (o.1) d (p.1) in ((r.0, p.0, q.0), q.1)

-- what may be called where nothing `multi` may isn't
called_once : (declared : Declared) (caller : Flags) → caller.multi ≡ false → (t : ℕ) (term : Signature) → slice_get declared.terms t ≡ Some term
    → may_call caller (flags_of term.form) ≡ true → (facts_of declared).multi t ≡ false
called_once declared caller one t term known may =
    ap (λ (o : Option Signature). (flags_of (unwrap_or o no_term).form).multi) known
    ∙ single _ ((flags_of term.form).multi) _ (caller.multi) may one

-- A well typed rule is typed where each variable has its type.
pub rule_is_typed : (declared : Declared) (rule : TypedRule) (typed : IsTypedRule declared rule) → TakesFields declared
    → RuleIsTyped (facts_of declared) typed.root.args typed.root.ret (var_type rule.variables) rule
rule_is_typed declared rule typed fields = record {
  args = patterns_typed declared rule.variables fields typed.root.args rule.args typed.args;
  iflets = iflets_typed declared rule.variables fields (on_lhs typed.flags) rule.iflets typed.iflets;
  right = expr_typed declared rule.variables fields typed.flags typed.root.ret rule.right typed.right;
}

-- So is one of a term that isn't `multi`.
pub typed_by_variables : (declared : Declared) (rule : TypedRule) (typed : IsTypedRule declared rule) → TakesFields declared
    → typed.flags.multi ≡ false → RuleIsTyped (facts_of declared) typed.root.args typed.root.ret (var_type rule.variables) rule
typed_by_variables declared rule typed fields one = rule_is_typed declared rule typed fields

-- A rule is well scoped, where what its patterns take apart and what it calls aren't among these.
well_scoped : (declared : Declared) (rule : TypedRule) (typed : IsTypedRule declared rule) → KeepsScopes rule → TakesFields declared
    → (flags : ℕ → Bool)
    → ((t : ℕ) (term : Signature) → slice_get declared.terms t ≡ Some term → may_call typed.flags (flags_of term.form) ≡ true → flags t ≡ false)
    → ((t : ℕ) (term : Signature) → slice_get declared.terms t ≡ Some term → may_call (on_lhs typed.flags) (flags_of term.form) ≡ true
    → flags t ≡ false)
    → RuleTakesOne (record (facts_of declared) { multi = flags }) rule → IsWellScopedRule (record (facts_of declared) { multi = flags }) rule
well_scoped declared rule typed keeps fields flags once early takes =
    let nothing : IsScope none nothing_bound = (λ k u. u, λ k i. absurd i) in
    let args = patterns_scoped declared rule.variables fields flags typed.root.args rule.args nothing_bound keeps.matched none typed.args (takes.0)
    keeps.args nothing in
    let iflets = iflets_scoped declared rule.variables fields (on_lhs typed.flags) flags early rule.iflets keeps.matched keeps.met
    (scope_all rule.args none) typed.iflets (takes.1) keeps.iflets (args.1) in
    let right = expr_reads declared rule.variables fields typed.flags flags once typed.root.ret rule.right keeps.met (length rule.variables)
    (scope_of rule) typed.right keeps.right (iflets.1.0) in
    record { args = args.0; iflets = iflets.0; right = right.0 }

pub elaborated_rules_fit : ElaboratedRulesFit
elaborated_rules_fit declared rule typed keeps fields one takes = record {
  well = well_scoped declared rule typed keeps fields (facts_of declared).multi (called_once declared typed.flags one)
      (called_once declared (on_lhs typed.flags) one) takes;
  result_type = typed.root.ret;
  var_types = var_type rule.variables;
  typed = rule_is_typed declared rule typed fields;
}

mutual
  -- where no term is taken to be `multi`, each pattern takes one
  any_takes : (facts : TermFacts) (p : TypedPattern) → TakesOne (without_multi facts) p
  any_takes facts (typed_bind ty k p) = any_takes facts p
  any_takes facts (typed_var ty k) = tt
  any_takes facts (typed_bool ty b) = tt
  any_takes facts (typed_int ty n) = tt
  any_takes facts (typed_prim ty n) = tt
  any_takes facts (typed_term ty t ps) = (refl, any_take facts ps)
  any_takes facts (typed_wildcard ty) = tt
  any_takes facts (typed_and ty ps) = any_take facts ps

  any_take : (facts : TermFacts) (ps : TypedPatterns) → TakeOneEach (without_multi facts) ps
  any_take facts no_typed = tt
  any_take facts (more_typed p ps) = (any_takes facts p, any_take facts ps)

-- so does one of a condition
any_iflets_take : (facts : TermFacts) (xs : List TypedIfLet) → IfLetsTakeOne (without_multi facts) xs
any_iflets_take facts [] = tt
any_iflets_take facts (x ∷ xs) = (any_takes facts x.pattern, any_iflets_take facts xs)

pub typed_rules_are_elaborated : TypedRulesAreElaborated
typed_rules_are_elaborated declared rule typed keeps fields = record {
  well = well_scoped declared rule typed keeps fields (λ t. false) (λ t term known may. refl) (λ t term known may. refl)
      (any_take (facts_of declared) rule.args, any_iflets_take (facts_of declared) rule.iflets);
  result_type = typed.root.ret;
  var_types = var_type rule.variables;
  typed = rule_is_typed declared rule typed fields;
}
