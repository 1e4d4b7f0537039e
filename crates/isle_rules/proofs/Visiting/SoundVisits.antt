-- Visits of closed patterns and expressions never come to what isn't defined, and bind every variable.
use Rattle.std.proofs.Common.{◌≡◌, ℕ, ◌≤◌, ◌==◌, ◌++◌, inl, inr, Bool, true, false, List, [], ◌∷◌, length, map, Option, Some, None}
use Rattle.std.proofs.Common.{Ok, slice_get, refl, sym, ap, ◌∙◌, arith}
use Rattle.std.specs.Option.{option_map}
use Rattle.std.proofs.lemmas.Bool.{eqb-false, false≢true}
use Rattle.std.proofs.lemmas.List.{length-map}
use Rattle.std.proofs.lemmas.Option.{slice_get-map, none-some, same_Some}
use Rattle.isle_types.specs.declared.ids.TermId.{TermId}
use Rattle.isle_types.specs.declared.ids.TypeId.{TypeId}
use Rattle.isle_types.specs.declared.ids.VarId.{VarId}
use Rattle.isle_rules.specs.declared.terms.Term.{Term}
use Rattle.isle_rules.specs.declared.terms.TermKind.{TermKind}
use Rattle.isle_rules.specs.declared.terms.TermKind.TheVariants.{EnumVariant, Struct, Decl}
use Rattle.isle_rules.specs.Signatures.{Signature, has_extractor_form, has_constructor_form}
use Rattle.isle_rules.specs.Shown.ShownTerms.{form_shown, term_shown}
use Rattle.isle_rules.specs.Visits.Runs.{Run, done, asks, in_turn, on_some, stuck}
use Rattle.isle_rules.specs.Visits.VisitScopes.{VisitScope, bound_by}
use Rattle.isle_rules.specs.Visits.InternedTrees.{InternedPattern, InternedPatterns, bind_pattern, var_pattern, bool_pattern, int_pattern}
use Rattle.isle_rules.specs.Visits.InternedTrees.{prim_pattern, term_pattern, wildcard_pattern, and_pattern, no_patterns, more_patterns}
use Rattle.isle_rules.specs.Visits.InternedTrees.{InternedExpr, InternedExprs, InternedBindings, term_expr, var_expr, bool_expr, int_expr}
use Rattle.isle_rules.specs.Visits.InternedTrees.{prim_expr, let_expr, no_exprs, more_exprs, no_bindings, more_bindings}
use Rattle.isle_rules.specs.Visits.VisitorCalls.{PatternCall, match_equal, match_bool, match_int, match_prim, match_variant, extract_struct}
use Rattle.isle_rules.specs.Visits.VisitorCalls.{opening_of, opening, ExprCall, const_bool, const_int, const_prim}
use Rattle.isle_rules.specs.Visits.VisitorCalls.{making_of}
use Rattle.isle_rules.specs.Visits.Events.{visits, visits_all, visits_each, visits_expr, visits_exprs, visits_bindings}
use Rattle.isle_rules.specs.Visits.OwnFaults.{asked_of, NeverUndefined}
use Rattle.isle_rules.proofs.Visiting.ClosedTrees.{IsOneOf, after, after_all, after_bindings, typed_count, built_count, Closed, AllClosed}
use Rattle.isle_rules.proofs.Visiting.ClosedTrees.{ClosedExpr, ClosedExprs, ClosedBindings}
use Rattle.isle_rules.proofs.Visiting.ShownTrees.{shown_pattern, shown_patterns, shown_expr, shown_exprs, shown_bindings}
use Rattle.isle_rules.proofs.Visiting.SoundRuns.{Sound, sound_done, sound_asks, sound_turn, sound_some}

-- every one of these variables has a value
abbrev pub Covers : {T : Type 0} → VisitScope T → List ℕ → Type 0
Covers {T} scope vars = (var : VarId) → IsOneOf vars var.0 → (value : T) × (scope var ≡ Some value)

-- with a value for one more, every one of these and that one
pub covers_more : {T : Type 0} (scope : VisitScope T) (vars : List ℕ) (var : VarId) (value : T) → Covers scope vars
    → Covers (bound_by scope var value) (var.0 ∷ vars)
covers_more {T} scope vars var value covers other h = by_test (var.0 == other.0) refl h
  where
    by_test : (b : Bool) → (var.0 == other.0) ≡ b → IsOneOf (var.0 ∷ vars) other.0 → (found : T) × (bound_by scope var value other ≡ Some found)
    by_test true t h = (value, rw t refl)
    by_test false t (inl e) = absurd (eqb-false var.0 other.0 t e)
    by_test false t (inr k) = let known = covers other k in (known.0, rw t known.1)

-- the term of a number is one that shows its signature
pub term_shows : (names : List (List ℕ)) (terms : List Term) (number : ℕ) (signature : Signature)
    → slice_get (map (term_shown names) terms) number ≡ Some signature
    → (term : Term) × (slice_get terms number ≡ Some term) × (term_shown names term ≡ signature)
term_shows names terms number signature e =
    by_term (slice_get terms number) refl (sym (slice_get-map (term_shown names) terms number) ∙ e)
  where
    by_term : (o : Option Term) → slice_get terms number ≡ o → option_map (term_shown names) (slice_get terms number) ≡ Some signature
        → (term : Term) × (slice_get terms number ≡ Some term) × (term_shown names term ≡ signature)
    by_term None is shows = absurd (none-some signature (rw is at shows))
    by_term (Some term) is shows = (term, is, same_Some _ _ (rw is at shows))

-- a term that can be used in a pattern has a call, which asks for a value for each of its arguments
opening_known : {Id : Type 0} (names : List (List ℕ)) (kind : TermKind) (term : Term) (ty : TypeId) (id : TermId) (input : Id)
    → has_extractor_form (form_shown names kind) ≡ true
    → (call : PatternCall Id) × (opening_of kind term ty id input ≡ Some call) × (asked_of call ≡ length term.arg_tys)
opening_known names (EnumVariant variant) term ty id input h = (match_variant input ty term.arg_tys variant, refl, refl)
opening_known names Struct term ty id input h = (extract_struct input ty term.arg_tys, refl, refl)
opening_known names (Decl flags made None) term ty id input h = absurd (false≢true h)
opening_known names (Decl flags made (Some kind)) term ty id input h = (_, refl, refl)

-- a term that can be used in an expression has a call
making_known : {Id : Type 0} (names : List (List ℕ)) (kind : TermKind) (ty : TypeId) (id : TermId) (inputs : List (Id × TypeId))
    → has_constructor_form (form_shown names kind) ≡ true → (call : ExprCall Id) × (making_of kind ty id inputs ≡ Some call)
making_known names (EnumVariant variant) ty id inputs h = (_, refl)
making_known names Struct ty id inputs h = (_, refl)
making_known names (Decl flags None taken) ty id inputs h = absurd (false≢true h)
making_known names (Decl flags (Some kind) taken) ty id inputs h = (_, refl)

-- a term has as many arguments as its signature
pub arguments_shown : (names : List (List ℕ)) (term : Term) (signature : Signature) → term_shown names term ≡ signature
    → length term.arg_tys ≡ length signature.args
arguments_shown names term signature e =
    sym (length-map term.arg_tys (λ (ty : TypeId). ty.0)) ∙ ap (λ (z : Signature). length z.args) e

module _ {S Id : Type 0} (step : PatternCall Id → Run S (List Id)) (names : List (List ℕ)) (terms : List Term) (count : ℕ)
    (never : (call : PatternCall Id) → NeverUndefined (step call))
    (named : (call : PatternCall Id) (s s' : S) (ids : List Id) → step call s (Ok ids) s' → asked_of call ≤ length ids) where
  -- a call that names nothing, after which the variables are as they were
  told_only : (call : PatternCall Id) (scope : VisitScope Id) (vars : List ℕ) → Covers scope vars
      → Sound (in_turn (asks step call) (λ _. done scope)) (λ left. Covers left vars)
  told_only call scope vars k =
      sound_turn (asks step call) (λ _. done scope) (λ _. Unit {0}) (λ left. Covers left vars)
      (sound_asks step call (λ _. Unit {0}) (never call) (λ s s' a h. tt)) (λ a p. sound_done scope (λ left. Covers left vars) k)

  mutual
    pub sound_visits : (p : InternedPattern) (input : Id) (scope : VisitScope Id) (vars : List ℕ)
        → Closed (map (term_shown names) terms) count (shown_pattern names p) vars → Covers scope vars
        → Sound (visits step terms p input scope) (λ left. Covers left (after (shown_pattern names p) vars))
    sound_visits (bind_pattern ty var p) input scope vars c k =
        sound_visits p input (bound_by scope var input) (var.0 ∷ vars) c.1 (covers_more scope vars var input k)
    sound_visits (var_pattern ty var) input scope vars c k =
        let found = k var c in
        sound_some (scope var) found.0 (λ other. in_turn (asks step (match_equal input other ty)) (λ _. done scope)) stuck
        (λ left. Covers left vars) found.1 (told_only (match_equal input found.0 ty) scope vars k)
    sound_visits (bool_pattern ty val) input scope vars c k = told_only (match_bool input ty val) scope vars k
    sound_visits (int_pattern ty val) input scope vars c k = told_only (match_int input ty val) scope vars k
    sound_visits (prim_pattern ty val) input scope vars c k = told_only (match_prim input ty val) scope vars k
    sound_visits (term_pattern ty id ps) input scope vars c k =
        let term = term_shows names terms id.0 c.0.term c.0.known in
        let parts = arguments_shown names term.0 c.0.term term.2 in
        let call = opening_known names term.0.kind term.0 ty id input (ap (λ (z : Signature). has_extractor_form z.form) term.2 ∙ c.0.form) in
        let opens : opening terms ty id input ≡ Some call.0 = rw term.1 call.1 in
        let enough = c.0.enough in
        let Q = λ (left : VisitScope Id). Covers left (after_all (shown_patterns names ps) vars) in
        let told = λ (other : PatternCall Id). in_turn (asks step other) (λ ids. visits_all step terms ps ids scope) in
        sound_some (opening terms ty id input) call.0 told stuck Q opens
        (sound_turn (asks step call.0) (λ ids. visits_all step terms ps ids scope) (λ ids. typed_count (shown_patterns names ps) ≤ length ids) Q
        (sound_asks step call.0 (λ ids. typed_count (shown_patterns names ps) ≤ length ids) (never call.0)
        (λ s s' ids h. let many = named call.0 s s' ids h in let asked = call.2 in omega arith))
        (λ ids many. sound_all ps ids scope vars many c.1 k))
    sound_visits (wildcard_pattern ty) input scope vars c k = sound_done scope (λ left. Covers left vars) k
    sound_visits (and_pattern ty ps) input scope vars c k = sound_each ps input scope vars c k

    sound_all : (ps : InternedPatterns) (ids : List Id) (scope : VisitScope Id) (vars : List ℕ)
        → typed_count (shown_patterns names ps) ≤ length ids
        → AllClosed (map (term_shown names) terms) count (shown_patterns names ps) vars → Covers scope vars
        → Sound (visits_all step terms ps ids scope) (λ left. Covers left (after_all (shown_patterns names ps) vars))
    sound_all no_patterns ids scope vars n c k = sound_done scope (λ left. Covers left vars) k
    sound_all (more_patterns p ps) [] scope vars n c k = absurd (omega arith)
    sound_all (more_patterns p ps) (id ∷ ids) scope vars n c k =
        sound_turn (visits step terms p id scope) (λ left. visits_all step terms ps ids left)
        (λ left. Covers left (after (shown_pattern names p) vars))
        (λ left. Covers left (after_all (shown_patterns names ps) (after (shown_pattern names p) vars)))
        (sound_visits p id scope vars c.0 k)
        (λ left more. sound_all ps ids left (after (shown_pattern names p) vars) (omega arith) c.1 more)

    sound_each : (ps : InternedPatterns) (input : Id) (scope : VisitScope Id) (vars : List ℕ)
        → AllClosed (map (term_shown names) terms) count (shown_patterns names ps) vars → Covers scope vars
        → Sound (visits_each step terms ps input scope) (λ left. Covers left (after_all (shown_patterns names ps) vars))
    sound_each no_patterns input scope vars c k = sound_done scope (λ left. Covers left vars) k
    sound_each (more_patterns p ps) input scope vars c k =
        sound_turn (visits step terms p input scope) (λ left. visits_each step terms ps input left)
        (λ left. Covers left (after (shown_pattern names p) vars))
        (λ left. Covers left (after_all (shown_patterns names ps) (after (shown_pattern names p) vars)))
        (sound_visits p input scope vars c.0 k)
        (λ left more. sound_each ps input left (after (shown_pattern names p) vars) c.1 more)

module _ {S Id : Type 0} (step : ExprCall Id → Run S Id) (names : List (List ℕ)) (terms : List Term)
    (never : (call : ExprCall Id) → NeverUndefined (step call)) where
  -- a call alone
  told_value : (call : ExprCall Id) → Sound (asks step call) (λ _. Unit {0})
  told_value call = sound_asks step call (λ _. Unit {0}) (never call) (λ s s' a h. tt)

  mutual
    pub sound_expr : (e : InternedExpr) (scope : VisitScope Id) (vars : List ℕ) → ClosedExpr (map (term_shown names) terms) (shown_expr names e) vars
        → Covers scope vars → Sound (visits_expr step terms e scope) (λ _. Unit {0})
    sound_expr (term_expr ty id es) scope vars c k =
        let term = term_shows names terms id.0 c.0.term c.0.known in
        let parts = arguments_shown names term.0 c.0.term term.2 in
        let enough = c.0.enough in
        let usable = ap (λ (z : Signature). has_constructor_form z.form) term.2 ∙ c.0.form in
        let make = λ (known : Term) (inputs : List (Id × TypeId)). on_some (making_of known.kind ty id inputs) (λ call. asks step call) stuck in
        sound_some (slice_get terms id.0) term.0 (λ known. in_turn (visits_exprs step terms es known.arg_tys [] scope) (make known)) stuck
        (λ _. Unit {0}) term.1
        (sound_turn (visits_exprs step terms es term.0.arg_tys [] scope) (make term.0) (λ _. Unit {0}) (λ _. Unit {0})
        (sound_exprs es term.0.arg_tys [] scope vars (omega arith) c.1 k)
        (λ inputs p. let call = making_known names term.0.kind ty id inputs usable in
        sound_some (making_of term.0.kind ty id inputs) call.0 (λ other. asks step other) stuck (λ _. Unit {0}) call.1 (told_value call.0)))
    sound_expr (var_expr ty var) scope vars c k =
        let found = k var c in
        sound_some (scope var) found.0 (λ value. done value) stuck (λ _. Unit {0}) found.1 (sound_done found.0 (λ _. Unit {0}) tt)
    sound_expr (bool_expr ty val) scope vars c k = told_value (const_bool ty val)
    sound_expr (int_expr ty val) scope vars c k = told_value (const_int ty val)
    sound_expr (prim_expr ty val) scope vars c k = told_value (const_prim ty val)
    sound_expr (let_expr ty bs body) scope vars c k =
        sound_turn (visits_bindings step terms bs scope) (λ inner. visits_expr step terms body inner)
        (λ inner. Covers inner (after_bindings (shown_bindings names bs) vars)) (λ _. Unit {0})
        (sound_bindings bs scope vars c.0 k)
        (λ inner more. sound_expr body inner (after_bindings (shown_bindings names bs) vars) c.1 more)

    sound_exprs : (es : InternedExprs) (tys : List TypeId) (before : List (Id × TypeId)) (scope : VisitScope Id) (vars : List ℕ)
        → built_count (shown_exprs names es) ≤ length tys → ClosedExprs (map (term_shown names) terms) (shown_exprs names es) vars
        → Covers scope vars → Sound (visits_exprs step terms es tys before scope) (λ _. Unit {0})
    sound_exprs no_exprs tys before scope vars n c k = sound_done before (λ _. Unit {0}) tt
    sound_exprs (more_exprs e es) [] before scope vars n c k = absurd (omega arith)
    sound_exprs (more_exprs e es) (ty ∷ tys) before scope vars n c k =
        sound_turn (visits_expr step terms e scope) (λ value. visits_exprs step terms es tys (before ++ (value, ty) ∷ []) scope) (λ _. Unit {0})
        (λ _. Unit {0}) (sound_expr e scope vars c.0 k)
        (λ value p. sound_exprs es tys (before ++ (value, ty) ∷ []) scope vars (omega arith) c.1 k)

    sound_bindings : (bs : InternedBindings) (scope : VisitScope Id) (vars : List ℕ)
        → ClosedBindings (map (term_shown names) terms) (shown_bindings names bs) vars → Covers scope vars
        → Sound (visits_bindings step terms bs scope) (λ inner. Covers inner (after_bindings (shown_bindings names bs) vars))
    sound_bindings no_bindings scope vars c k = sound_done scope (λ inner. Covers inner vars) k
    sound_bindings (more_bindings var ty e bs) scope vars c k =
        sound_turn (visits_expr step terms e scope) (λ value. visits_bindings step terms bs (bound_by scope var value)) (λ _. Unit {0})
        (λ inner. Covers inner (after_bindings (shown_bindings names bs) (var.0 ∷ vars))) (sound_expr e scope vars c.0 k)
        (λ value p. sound_bindings bs (bound_by scope var value) (var.0 ∷ vars) c.1 (covers_more scope vars var value k))
