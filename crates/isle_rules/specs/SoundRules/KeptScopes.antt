-- Scopes: variables are numbered in the order in which they are bound, and used where they can be.
use Rattle.std.specs.Prelude.{◌≡◌, ◌⊎◌, ℕ, ◌+◌, List, [], ◌∷◌, length}
use Rattle.isle_rules.specs.TypedRules.{TypedPattern, TypedPatterns, typed_bind, typed_var, typed_bool, typed_int, typed_prim, typed_term}
use Rattle.isle_rules.specs.TypedRules.{typed_wildcard, typed_and, no_typed, more_typed, TypedExpr, TypedExprs, TypedBindings, built_term}
use Rattle.isle_rules.specs.TypedRules.{built_var, built_bool, built_int, built_prim, built_let, no_built, more_built, no_typed_bindings, more_typed_bindings}
use Rattle.isle_rules.specs.TypedRules.{TypedIfLet, TypedRule}

-- the variables that can be used, the innermost first, and how many are bound so far
pub record Scope : Type 0 where
  pub usable : List ℕ
  pub count : ℕ

-- before anything is bound
abbrev pub nothing_bound : Scope
nothing_bound = record { usable = []; count = 0 }

-- with the next variable, which can be used
abbrev pub with_next : Scope → Scope
with_next scope = record { usable = scope.count ∷ scope.usable; count = scope.count + 1 }

-- where the same can be used, and so many are bound
abbrev pub counting : Scope → ℕ → Scope
counting scope count = record { usable = scope.usable; count = count }

-- a variable can be used
abbrev pub IsUsable : List ℕ → ℕ → Type 0
IsUsable [] var = ⊥
IsUsable (first ∷ others) var = (first ≡ var) ⊎ IsUsable others var

abbrev mutual
  -- a pattern uses and binds variables, from one scope to another; what binds comes after what it binds
  pub PatternBinds : TypedPattern → (before after : Scope) → Type 0
  PatternBinds (typed_bind ty var below) before after =
      (inside : Scope) × PatternBinds below before inside × (var ≡ inside.count) × (after ≡ with_next inside)
  PatternBinds (typed_var ty var) before after = IsUsable before.usable var × (after ≡ before)
  PatternBinds (typed_bool ty val) before after = after ≡ before
  PatternBinds (typed_int ty val) before after = after ≡ before
  PatternBinds (typed_prim ty name) before after = after ≡ before
  PatternBinds (typed_term ty term below) before after = PatternsBind below before after
  PatternBinds (typed_wildcard ty) before after = after ≡ before
  PatternBinds (typed_and ty below) before after = PatternsBind below before after

  -- so do patterns, from left to right
  pub PatternsBind : TypedPatterns → (before after : Scope) → Type 0
  PatternsBind no_typed before after = after ≡ before
  PatternsBind (more_typed first others) before after = (between : Scope) × PatternBinds first before between × PatternsBind others between after

abbrev mutual
  -- an expression uses variables of a scope, and binds others, which can be used inside it alone; so many are bound after it
  pub ExprUses : TypedExpr → Scope → (count : ℕ) → Type 0
  ExprUses (built_term ty term below) scope count = ExprsUse below scope count
  ExprUses (built_var ty var) scope count = IsUsable scope.usable var × (count ≡ scope.count)
  ExprUses (built_bool ty val) scope count = count ≡ scope.count
  ExprUses (built_int ty val) scope count = count ≡ scope.count
  ExprUses (built_prim ty name) scope count = count ≡ scope.count
  ExprUses (built_let ty bindings body) scope count = (inside : Scope) × BindingsAdd bindings scope inside × ExprUses body inside count

  -- so do expressions, from left to right
  pub ExprsUse : TypedExprs → Scope → (count : ℕ) → Type 0
  ExprsUse no_built scope count = count ≡ scope.count
  ExprsUse (more_built first others) scope count = (next : ℕ) × ExprUses first scope next × ExprsUse others (counting scope next) count

  -- each variable of a `let` is bound after its value, for what follows
  pub BindingsAdd : TypedBindings → (before after : Scope) → Type 0
  BindingsAdd no_typed_bindings before after = after ≡ before
  BindingsAdd (more_typed_bindings var ty val others) before after =
      ExprUses val before var × BindingsAdd others (with_next (counting before var)) after

-- each condition's expression, and then its pattern
abbrev pub IfLetsBind : List TypedIfLet → (before after : Scope) → Type 0
IfLetsBind [] before after = after ≡ before
IfLetsBind (first ∷ others) before after =
    (next : ℕ) × (between : Scope) × ExprUses first.value before next × PatternBinds first.pattern (counting before next) between
    × IfLetsBind others between after

-- a rule binds its variables in the order of their numbers, each once and before it is used: its arguments, its conditions
-- and then its right side
pub record KeepsScopes (rule : TypedRule) : Type 0 where
  pub matched : Scope
  pub met : Scope
  pub args : PatternsBind rule.args nothing_bound matched
  pub iflets : IfLetsBind rule.iflets matched met
  pub right : ExprUses rule.right met (length rule.variables)
