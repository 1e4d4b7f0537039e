-- Visitors that never answer by themselves that something isn't defined, and name each value that they are asked for.
use Rattle.std.specs.Prelude.{◌≤◌, ℕ, List, length, Ok, Err}
use Rattle.isle_types.specs.declared.ids.TypeId.{TypeId}
use Rattle.isle_rules.specs.declared.visit.fault.VisitFault.TheVariants.{Undefined}
use Rattle.isle_rules.specs.Visits.Runs.{Run}
use Rattle.isle_rules.specs.Visits.VisitorCalls.{PatternCall, match_equal, match_bool, match_int, match_prim, match_variant, extract_struct}
use Rattle.isle_rules.specs.Visits.VisitorCalls.{extract_outputs, ExprCall}
use Rattle.isle_rules.specs.Visits.RuleSteps.{RuleSteps}

-- how many values a call asks for
abbrev pub asked_of : {Id : Type 0} → PatternCall Id → ℕ
asked_of (match_equal a b ty) = 0
asked_of (match_bool input ty val) = 0
asked_of (match_int input ty val) = 0
asked_of (match_prim input ty val) = 0
asked_of (match_variant input ty tys variant) = length tys
asked_of (extract_struct input ty tys) = length tys
asked_of (extract_outputs input ty tys term infallible multi) = length tys

-- a run never answers that something isn't defined
abbrev pub NeverUndefined : {S A : Type 0} → Run S A → Type 0
NeverUndefined {S} run = (s s' : S) → run s (Err Undefined) s' → ⊥

-- a visitor of rules and those that it hands out never answer by themselves that something isn't defined, and name as many
-- values as they are asked for
pub record FindsAllDefined {S P E X I J : Type 0} (steps : RuleSteps S P E X I J) (pattern_step : PatternCall I → Run P (List I))
    (expr_step : ExprCall J → Run E J) : Type 0 where
  pub arg : (place : ℕ × TypeId) → NeverUndefined (steps.arg place)
  pub expr_as_pattern : (x : X) → NeverUndefined (steps.expr_as_pattern x)
  pub pattern_as_expr : (input : I) → NeverUndefined (steps.pattern_as_expr input)
  pub refuses : (s s' : S) → steps.refuses s Undefined s' → ⊥
  pub pattern : (call : PatternCall I) → NeverUndefined (pattern_step call)
  pub expr : (call : ExprCall J) → NeverUndefined (expr_step call)
  pub named : (call : PatternCall I) (p q : P) (ids : List I) → pattern_step call p (Ok ids) q → asked_of call ≤ length ids
