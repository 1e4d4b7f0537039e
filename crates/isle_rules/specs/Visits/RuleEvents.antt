-- The events of typed rules: each argument and its pattern, each condition's expression and its pattern, last the right side.
use Rattle.std.specs.Prelude.{◌≡◌, ℕ, zero, suc, ◌+◌, List, [], ◌∷◌, length, Ok, Err, slice_get}
use Rattle.isle_types.specs.declared.ids.TypeId.{TypeId}
use Rattle.isle_types.specs.declared.ids.VarId.{VarId}
use Rattle.isle_rules.specs.declared.rules.Expr.{Expr}
use Rattle.isle_rules.specs.declared.rules.IfLet.{IfLet}
use Rattle.isle_rules.specs.declared.rules.Pattern.{Pattern}
use Rattle.isle_rules.specs.declared.rules.Rule.{Rule}
use Rattle.isle_rules.specs.declared.terms.Term.{Term}
use Rattle.isle_rules.specs.TypedTrees.{type_of_expr}
use Rattle.isle_rules.specs.Visits.Runs.{Run, done, asks, in_turn, on_some, stuck}
use Rattle.isle_rules.specs.Visits.VisitScopes.{VisitScope, no_values, bound_by}
use Rattle.isle_rules.specs.Visits.InternedTrees.{pattern_of, expr_of}
use Rattle.isle_rules.specs.Visits.VisitorCalls.{PatternCall, ExprCall}
use Rattle.isle_rules.specs.Visits.Events.{visits, visits_expr}
use Rattle.isle_rules.specs.Visits.RuleSteps.{RuleSteps, in_pattern, in_expr}

-- what is told of an expression, whose type and value are answered
abbrev pub visits_typed : {S Id : Type 0} → (ExprCall Id → Run S Id) → List Term → Expr → VisitScope Id → Run S (TypeId × Id)
visits_typed step terms expr scope s (Ok v) s' = (v.0 ≡ type_of_expr expr) × visits_expr step terms (expr_of expr) scope s (Ok v.1) s'
visits_typed step terms expr scope s (Err f) s' = visits_expr step terms (expr_of expr) scope s (Err f) s'

module _ {S P E X I J : Type 0} (steps : RuleSteps S P E X I J) where
  -- a variable, where it is bound, is used in expressions
  abbrev pub visits_var : VisitScope I → VarId → VisitScope J → Run S (VisitScope J)
  visits_var scope var values =
      on_some (scope var) (λ value. in_turn (asks steps.pattern_as_expr value) (λ made. done (bound_by values var made))) (done values)

  -- the variables bound so far, ascending, among `n` from the number `var`
  abbrev pub visits_vars : VisitScope I → ℕ → ℕ → VisitScope J → Run S (VisitScope J)
  visits_vars scope var zero values = done values
  visits_vars scope var (suc n) values =
      in_turn (visits_var scope (record { 0 = var }) values) (λ after. visits_vars scope (var + 1) n after)

  module _ (step : PatternCall I → Run P (List I)) (terms : List Term) where
    -- a pattern, at a value
    abbrev pub visits_part : Pattern → I → VisitScope I → Run S (VisitScope I)
    visits_part pattern input scope = in_pattern steps (visits step terms (pattern_of pattern) input scope)

    -- arguments from the place `index`, each with its pattern
    abbrev pub visits_args : List Pattern → List TypeId → ℕ → VisitScope I → Run S (VisitScope I)
    visits_args [] tys index scope = done scope
    visits_args (p ∷ ps) [] index scope = stuck
    visits_args (p ∷ ps) (ty ∷ tys) index scope =
        in_turn (asks steps.arg (index, ty)) (λ id. in_turn (visits_part p id scope) (λ after. visits_args ps tys (index + 1) after))

  -- an expression under the variables bound so far, of which there are `count` in the whole rule
  abbrev pub visits_value : (ExprCall J → Run E J) → List Term → ℕ → Expr → VisitScope I → Run S X
  visits_value step terms count expr scope =
      in_turn (visits_vars scope 0 count no_values) (λ values. in_expr steps (visits_typed step terms expr values))

  module _ (pattern_step : PatternCall I → Run P (List I)) (expr_step : ExprCall J → Run E J) (terms : List Term) where
    -- conditions: the expression, then the pattern at its value
    abbrev pub visits_iflets : ℕ → List IfLet → VisitScope I → Run S (VisitScope I)
    visits_iflets count [] scope = done scope
    visits_iflets count (i ∷ is) scope = in_turn (visits_value expr_step terms count i.rhs scope)
        (λ x. in_turn (asks steps.expr_as_pattern x) (λ id. in_turn (visits_part pattern_step terms i.lhs id scope)
        (λ after. visits_iflets count is after)))

    -- the conditions and the right side of a rule, under the variables of its arguments
    abbrev pub visits_rest : Rule → VisitScope I → Run S X
    visits_rest rule scope = in_turn (visits_iflets (length rule.vars) rule.iflets scope)
        (λ after. visits_value expr_step terms (length rule.vars) rule.rhs after)

    -- a whole rule
    abbrev pub visits_rule : Rule → Run S X
    visits_rule rule = on_some (slice_get terms rule.root_term.0)
        (λ root. in_turn (visits_args pattern_step terms rule.args root.arg_tys 0 no_values) (λ scope. visits_rest rule scope)) stuck
