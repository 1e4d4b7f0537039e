-- The events of typed patterns and expressions: which calls a visit makes, in order, up to the first fault.
use Rattle.std.specs.Prelude.{List, [], ◌∷◌, ◌++◌, slice_get}
use Rattle.isle_types.specs.declared.ids.TypeId.{TypeId}
use Rattle.isle_rules.specs.declared.terms.Term.{Term}
use Rattle.isle_rules.specs.Visits.Runs.{Run, done, asks, in_turn, on_some, stuck}
use Rattle.isle_rules.specs.Visits.VisitScopes.{VisitScope, bound_by}
use Rattle.isle_rules.specs.Visits.InternedTrees.{InternedPattern, InternedPatterns, bind_pattern, var_pattern, bool_pattern, int_pattern}
use Rattle.isle_rules.specs.Visits.InternedTrees.{prim_pattern, term_pattern, wildcard_pattern, and_pattern, no_patterns, more_patterns}
use Rattle.isle_rules.specs.Visits.InternedTrees.{InternedExpr, InternedExprs, InternedBindings, term_expr, var_expr, bool_expr, int_expr}
use Rattle.isle_rules.specs.Visits.InternedTrees.{prim_expr, let_expr, no_exprs, more_exprs, no_bindings, more_bindings}
use Rattle.isle_rules.specs.Visits.VisitorCalls.{PatternCall, match_equal, match_bool, match_int, match_prim, opening}
use Rattle.isle_rules.specs.Visits.VisitorCalls.{ExprCall, const_bool, const_int, const_prim, making_of}

abbrev mutual
  -- what a visitor whose step is `step` is told of a pattern, at the value `input`; the scope that is left is answered
  pub visits : {S Id : Type 0} → (PatternCall Id → Run S (List Id)) → List Term → InternedPattern → Id → VisitScope Id → Run S (VisitScope Id)
  visits step terms (bind_pattern ty var p) input scope = visits step terms p input (bound_by scope var input)
  visits step terms (var_pattern ty var) input scope =
      on_some (scope var) (λ other. in_turn (asks step (match_equal input other ty)) (λ _. done scope)) stuck
  visits step terms (bool_pattern ty val) input scope = in_turn (asks step (match_bool input ty val)) (λ _. done scope)
  visits step terms (int_pattern ty val) input scope = in_turn (asks step (match_int input ty val)) (λ _. done scope)
  visits step terms (prim_pattern ty val) input scope = in_turn (asks step (match_prim input ty val)) (λ _. done scope)
  visits step terms (term_pattern ty id ps) input scope =
      on_some (opening terms ty id input) (λ call. in_turn (asks step call) (λ ids. visits_all step terms ps ids scope)) stuck
  visits step terms (wildcard_pattern ty) input scope = done scope
  visits step terms (and_pattern ty ps) input scope = visits_each step terms ps input scope

  -- patterns, each at its value; values past the patterns are left
  pub visits_all : {S Id : Type 0} → (PatternCall Id → Run S (List Id)) → List Term → InternedPatterns → List Id
      → VisitScope Id → Run S (VisitScope Id)
  visits_all step terms no_patterns ids scope = done scope
  visits_all step terms (more_patterns p ps) [] scope = stuck
  visits_all step terms (more_patterns p ps) (id ∷ ids) scope =
      in_turn (visits step terms p id scope) (λ after. visits_all step terms ps ids after)

  -- patterns, all at one value
  pub visits_each : {S Id : Type 0} → (PatternCall Id → Run S (List Id)) → List Term → InternedPatterns → Id → VisitScope Id → Run S (VisitScope Id)
  visits_each step terms no_patterns input scope = done scope
  visits_each step terms (more_patterns p ps) input scope =
      in_turn (visits step terms p input scope) (λ after. visits_each step terms ps input after)

abbrev mutual
  -- what a visitor whose step is `step` is told of an expression; its value is answered
  pub visits_expr : {S Id : Type 0} → (ExprCall Id → Run S Id) → List Term → InternedExpr → VisitScope Id → Run S Id
  visits_expr step terms (term_expr ty id es) scope = on_some (slice_get terms id.0) (λ term.
      in_turn (visits_exprs step terms es term.arg_tys [] scope)
      (λ inputs. on_some (making_of term.kind ty id inputs) (λ call. asks step call) stuck)) stuck
  visits_expr step terms (var_expr ty var) scope = on_some (scope var) (λ value. done value) stuck
  visits_expr step terms (bool_expr ty val) scope = asks step (const_bool ty val)
  visits_expr step terms (int_expr ty val) scope = asks step (const_int ty val)
  visits_expr step terms (prim_expr ty val) scope = asks step (const_prim ty val)
  visits_expr step terms (let_expr ty bs body) scope =
      in_turn (visits_bindings step terms bs scope) (λ inner. visits_expr step terms body inner)

  -- arguments in order, each with its type, after those that were told before
  pub visits_exprs : {S Id : Type 0} → (ExprCall Id → Run S Id) → List Term → InternedExprs → List TypeId → List (Id × TypeId) → VisitScope Id
      → Run S (List (Id × TypeId))
  visits_exprs step terms no_exprs tys before scope = done before
  visits_exprs step terms (more_exprs e es) [] before scope = stuck
  visits_exprs step terms (more_exprs e es) (ty ∷ tys) before scope =
      in_turn (visits_expr step terms e scope) (λ value. visits_exprs step terms es tys (before ++ (value, ty) ∷ []) scope)

  -- the values of a `let` in order, each bound to its variable
  pub visits_bindings : {S Id : Type 0} → (ExprCall Id → Run S Id) → List Term → InternedBindings → VisitScope Id → Run S (VisitScope Id)
  visits_bindings step terms no_bindings scope = done scope
  visits_bindings step terms (more_bindings var ty e bs) scope =
      in_turn (visits_expr step terms e scope) (λ value. visits_bindings step terms bs (bound_by scope var value))
