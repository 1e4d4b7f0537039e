-- Which terms with rules a call of a term comes to.
use Rattle.std.specs.Prelude.{◌≡◌, ◌⊎◌, ℕ, true, List, [], ◌∷◌}
use Rattle.isle_rules.specs.TypedRules.{TypedExpr, built_var, built_bool, built_int, built_prim, built_term, built_let, TypedExprs}
use Rattle.isle_rules.specs.TypedRules.{no_built, more_built, TypedBindings, no_typed_bindings, more_typed_bindings, TypedIfLet, TypedRule}
use Rattle.isle_meaning.specs.Facts.{TermFacts, declared_shape}
use Rattle.isle_meaning.specs.Worlds.{CheckedProgram}
use Rattle.isle_meaning.specs.Calls.{IsRuleAt}

-- an expression calls a declared term
abbrev mutual
  pub IsCalledIn : TermFacts → TypedExpr → ℕ → Type 0
  IsCalledIn facts (built_var ty k) u = ⊥
  IsCalledIn facts (built_bool ty b) u = ⊥
  IsCalledIn facts (built_int ty n) u = ⊥
  IsCalledIn facts (built_prim ty n) u = ⊥
  IsCalledIn facts (built_term ty t es) u = ((facts.shape t ≡ declared_shape) × (u ≡ t)) ⊎ IsCalledInOne facts es u
  IsCalledIn facts (built_let ty bs body) u = IsCalledInBindings facts bs u ⊎ IsCalledIn facts body u

  -- one of these does
  pub IsCalledInOne : TermFacts → TypedExprs → ℕ → Type 0
  IsCalledInOne facts no_built u = ⊥
  IsCalledInOne facts (more_built e es) u = IsCalledIn facts e u ⊎ IsCalledInOne facts es u

  pub IsCalledInBindings : TermFacts → TypedBindings → ℕ → Type 0
  IsCalledInBindings facts no_typed_bindings u = ⊥
  IsCalledInBindings facts (more_typed_bindings k ty e bs) u = IsCalledIn facts e u ⊎ IsCalledInBindings facts bs u

-- so does the expression of an if-let
abbrev pub IsCalledInIfLets : TermFacts → List TypedIfLet → ℕ → Type 0
IsCalledInIfLets facts [] u = ⊥
IsCalledInIfLets facts (x ∷ xs) u = IsCalledIn facts x.value u ⊎ IsCalledInIfLets facts xs u

-- so does a rule
abbrev pub IsCalledInRule : TermFacts → TypedRule → ℕ → Type 0
IsCalledInRule facts rule u = IsCalledInIfLets facts rule.iflets u ⊎ IsCalledIn facts rule.right u

-- a rule of a term calls a term with rules
pub record Calls (p : CheckedProgram) (from to : ℕ) : Type 0 where
  pub place : ℕ
  pub rule : TypedRule
  pub at : IsRuleAt p from place rule
  pub called : IsCalledInRule p.terms rule to
  pub has_rules : p.has_rules to ≡ true

-- a term reaches the terms with rules that its rules call, and those that these reach
pub data Reaches (p : CheckedProgram) : ℕ → ℕ → Type 0 where
  at_once : {from to : ℕ} → Calls p from to → Reaches p from to
  onwards : {from middle to : ℕ} → Calls p from middle → Reaches p middle to → Reaches p from to
