-- What visitors of rules are told, and visitors that they hand out for patterns and expressions.
use Rattle.std.specs.Prelude.{◌⊎◌, ℕ, Ok, Err}
use Rattle.isle_types.specs.declared.ids.TypeId.{TypeId}
use Rattle.isle_rules.specs.declared.visit.fault.VisitFault.{VisitFault}
use Rattle.isle_rules.specs.Visits.Runs.{Run}

-- The steps of a visitor of rules `S`, which hands out visitors of patterns `P` and of expressions `E`. `X` is its name for an
-- expression, `I` a pattern visitor's name for a value, `J` an expression visitor's.
pub record RuleSteps (S P E X I J : Type 0) : Type 1 where
  -- an argument of the rule's term: its place and its type
  pub arg : ℕ × TypeId → Run S I
  -- an expression's value is to be matched
  pub expr_as_pattern : X → Run S I
  -- a matched value is used in expressions
  pub pattern_as_expr : I → Run S J
  -- the visitor that is handed out for a pattern
  pub opens_pattern : S → P → Type 0
  -- the visitor after that of a pattern is taken back
  pub closes_pattern : S → P → S → Type 0
  -- the visitor that is handed out for an expression
  pub opens_expr : S → E → Type 0
  -- the visitor after that of an expression is taken back, which told the expression's type and value, and its name for it
  pub gives_expr : S → E → TypeId × J → X → S → Type 0
  -- the visitor after that of an expression is taken back, which told a fault
  pub closes_expr : S → E → S → Type 0
  -- a fault before a visitor is handed out, or after it is taken back
  pub refuses : S → VisitFault → S → Type 0

module _ {S P E X I J : Type 0} (steps : RuleSteps S P E X I J) where
  -- a run of a pattern's visitor, which is handed out and taken back
  abbrev pub in_pattern : {A : Type 0} → Run P A → Run S A
  in_pattern run s (Ok a) s' = (p : P) × (q : P) × steps.opens_pattern s p × run p (Ok a) q × steps.closes_pattern s q s'
  in_pattern run s (Err f) s' =
      ((p : P) × (q : P) × steps.opens_pattern s p × run p (Err f) q × steps.closes_pattern s q s') ⊎ steps.refuses s f s'

  -- a run of an expression's visitor, which is handed out and taken back; the visitor of rules gives its name for the value
  abbrev pub in_expr : Run E (TypeId × J) → Run S X
  in_expr run s (Ok x) s' = (p : E) × (q : E) × (v : TypeId × J) × steps.opens_expr s p × run p (Ok v) q × steps.gives_expr s q v x s'
  in_expr run s (Err f) s' =
      ((p : E) × (q : E) × steps.opens_expr s p × run p (Err f) q × steps.closes_expr s q s') ⊎ steps.refuses s f s'
