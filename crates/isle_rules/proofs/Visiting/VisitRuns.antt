-- Runs of visits of patterns and expressions, one after another.
use Rattle.std.proofs.Common.{◌≡◌, ◌<◌, ℕ, suc, ◌+◌, List, [], ◌∷◌, length, drop, drop-cons, get_or, add-one, slice_get, Option, Some, None}
use Rattle.std.proofs.Common.{Result, Ok, Err, inl, inr, refl, sym, ap, ◌∙◌}
use Rattle.isle_types.specs.declared.ids.TermId.{TermId}
use Rattle.isle_types.specs.declared.ids.TypeId.{TypeId}
use Rattle.isle_rules.specs.declared.terms.Term.{Term}
use Rattle.isle_rules.specs.declared.visit.fault.VisitFault.{VisitFault}
use Rattle.isle_rules.specs.declared.visit.fault.VisitFault.TheVariants.{Memory}
use Rattle.isle_rules.specs.Visits.Runs.{Run, done, asks, in_turn, on_some, stuck}
use Rattle.isle_rules.specs.Visits.VisitScopes.{VisitScope, bound_by}
use Rattle.isle_rules.specs.Visits.InternedTrees.{InternedPattern, bind_pattern, var_pattern, bool_pattern, int_pattern, prim_pattern}
use Rattle.isle_rules.specs.Visits.InternedTrees.{term_pattern, wildcard_pattern, and_pattern, no_patterns, more_patterns}
use Rattle.isle_rules.specs.Visits.InternedTrees.{InternedExpr, InternedExprs, InternedBindings, term_expr, var_expr, bool_expr, int_expr}
use Rattle.isle_rules.specs.Visits.InternedTrees.{prim_expr, let_expr, no_exprs, more_exprs, no_bindings, more_bindings}
use Rattle.isle_rules.specs.Visits.VisitorCalls.{PatternCall, match_equal, opening, ExprCall, making_of}
use Rattle.isle_rules.specs.Visits.Events.{visits, visits_all, visits_expr, visits_exprs, visits_bindings}

-- the first run ended well, and the rest ran
pub went : {S A B : Type 0} (first : Run S A) (rest : A → Run S B) (a : A) (s mid : S) (o : Result B VisitFault) (s' : S)
    → first s (Ok a) mid → rest a mid o s' → in_turn first rest s o s'
went first rest a s mid (Ok b) s' h k = (a, mid, h, k)
went first rest a s mid (Err f) s' h k = inr (a, mid, h, k)

-- the list at a place: its item, and the rest
pub cut : {A : Type 0} (xs : List A) (i : ℕ) (x : A) → i < length xs → x ≡ get_or xs i x → drop i xs ≡ x ∷ drop (i + 1) xs
cut xs i x m is = rw add-one (drop-cons xs i x m ∙ ap (λ y. y ∷ drop (suc i) xs) (sym is))

-- a type past the end of a list
abbrev pub no_type : TypeId
no_type = record { 0 = 0 }

-- the types at a place: its type, and the rest
pub cut_type : (xs : List TypeId) (i : ℕ) → i < length xs → drop i xs ≡ get_or xs i no_type ∷ drop (i + 1) xs
cut_type xs i n = rw add-one (drop-cons xs i no_type n)

module _ {S Id : Type 0} (step : PatternCall Id → Run S (List Id)) (terms : List Term) where
  -- a visit may lack memory before it tells anything
  pub waits : (p : InternedPattern) (input : Id) (scope : VisitScope Id) (s : S) (f : VisitFault) → f ≡ Memory
      → visits step terms p input scope s (Err f) s
  waits (bind_pattern ty var p) input scope s f m = waits p input (bound_by scope var input) s f m
  waits (var_pattern ty var) input scope s f m =
      elim (scope var) as (λ o. on_some o (λ other. in_turn (asks step (match_equal input other ty)) (λ _. done scope)) stuck s (Err f) s) [
        | Some other ↦ inl (inr (m, refl))
        | None ↦ (inr m, refl)
      ]
  waits (bool_pattern ty val) input scope s f m = inl (inr (m, refl))
  waits (int_pattern ty val) input scope s f m = inl (inr (m, refl))
  waits (prim_pattern ty val) input scope s f m = inl (inr (m, refl))
  waits (term_pattern ty id ps) input scope s f m =
      elim (opening terms ty id input) as (λ o. on_some o (λ call. in_turn (asks step call) (λ ids. visits_all step terms ps ids scope)) stuck s
      (Err f) s) [
        | Some call ↦ inl (inr (m, refl))
        | None ↦ (inr m, refl)
      ]
  waits (wildcard_pattern ty) input scope s f m = (m, refl)
  waits (and_pattern ty no_patterns) input scope s f m = (m, refl)
  waits (and_pattern ty (more_patterns p ps)) input scope s f m = inl (waits p input scope s f m)

module _ {S Id : Type 0} (step : ExprCall Id → Run S Id) (terms : List Term) where
  term_waits : (o : Option Term) (ty : TypeId) (id : TermId) (es : InternedExprs) (scope : VisitScope Id) (s : S) (f : VisitFault) → f ≡ Memory
      → ((tys : List TypeId) → visits_exprs step terms es tys [] scope s (Err f) s)
      → on_some o (λ term. in_turn (visits_exprs step terms es term.arg_tys [] scope)
      (λ inputs. on_some (making_of term.kind ty id inputs) (λ call. asks step call) stuck)) stuck s (Err f) s
  term_waits None ty id es scope s f m k = (inr m, refl)
  term_waits (Some term) ty id es scope s f m k = inl (k term.arg_tys)

  mutual
    -- a visit may lack memory before it tells anything
    pub expr_waits : (e : InternedExpr) (scope : VisitScope Id) (s : S) (f : VisitFault) → f ≡ Memory → visits_expr step terms e scope s (Err f) s
    expr_waits (term_expr ty id es) scope s f m = term_waits (slice_get terms id.0) ty id es scope s f m (λ tys. exprs_wait es tys [] scope s f m)
    expr_waits (var_expr ty var) scope s f m =
        elim (scope var) as (λ o. on_some o (λ value. done {A = Id} value) stuck s (Err f) s) [ Some value ↦ (m, refl) | None ↦ (inr m, refl) ]
    expr_waits (bool_expr ty val) scope s f m = inr (m, refl)
    expr_waits (int_expr ty val) scope s f m = inr (m, refl)
    expr_waits (prim_expr ty val) scope s f m = inr (m, refl)
    expr_waits (let_expr ty bs body) scope s f m = inl (bindings_wait bs scope s f m)

    pub exprs_wait : (es : InternedExprs) (tys : List TypeId) (before : List (Id × TypeId)) (scope : VisitScope Id) (s : S) (f : VisitFault)
        → f ≡ Memory → visits_exprs step terms es tys before scope s (Err f) s
    exprs_wait no_exprs tys before scope s f m = (m, refl)
    exprs_wait (more_exprs e es) [] before scope s f m = (inr m, refl)
    exprs_wait (more_exprs e es) (ty ∷ tys) before scope s f m = inl (expr_waits e scope s f m)

    pub bindings_wait : (bs : InternedBindings) (scope : VisitScope Id) (s : S) (f : VisitFault) → f ≡ Memory
        → visits_bindings step terms bs scope s (Err f) s
    bindings_wait no_bindings scope s f m = (m, refl)
    bindings_wait (more_bindings var ty e bs) scope s f m = inl (expr_waits e scope s f m)
