-- Typed rules as definitions speak of them: types, terms and variables are their numbers, constants and names are texts.
use Rattle.std.specs.Prelude.{ℕ, ℤ, Bool, List, Option}
use Rattle.isle_ast.specs.declared.pos.Pos.{Pos}

mutual
  -- a typed pattern; the first number is always its type's
  pub data TypedPattern : Type 0 where
    typed_bind : (ty var : ℕ) → TypedPattern → TypedPattern
    typed_var : (ty var : ℕ) → TypedPattern
    typed_bool : (ty : ℕ) → Bool → TypedPattern
    typed_int : (ty : ℕ) → ℤ → TypedPattern
    typed_prim : (ty : ℕ) → List ℕ → TypedPattern
    typed_term : (ty term : ℕ) → TypedPatterns → TypedPattern
    typed_wildcard : (ty : ℕ) → TypedPattern
    typed_and : (ty : ℕ) → TypedPatterns → TypedPattern

  pub data TypedPatterns : Type 0 where
    no_typed : TypedPatterns
    more_typed : TypedPattern → TypedPatterns → TypedPatterns

mutual
  -- a typed expression; the first number is always its type's
  pub data TypedExpr : Type 0 where
    built_term : (ty term : ℕ) → TypedExprs → TypedExpr
    built_var : (ty var : ℕ) → TypedExpr
    built_bool : (ty : ℕ) → Bool → TypedExpr
    built_int : (ty : ℕ) → ℤ → TypedExpr
    built_prim : (ty : ℕ) → List ℕ → TypedExpr
    built_let : (ty : ℕ) → TypedBindings → TypedExpr → TypedExpr

  pub data TypedExprs : Type 0 where
    no_built : TypedExprs
    more_built : TypedExpr → TypedExprs → TypedExprs

  -- the variables of a `let`, each with its type and value
  pub data TypedBindings : Type 0 where
    no_typed_bindings : TypedBindings
    more_typed_bindings : (var ty : ℕ) → TypedExpr → TypedBindings → TypedBindings

-- the type of a pattern
abbrev pub typed_at : TypedPattern → ℕ
typed_at (typed_bind ty _ _) = ty
typed_at (typed_var ty _) = ty
typed_at (typed_bool ty _) = ty
typed_at (typed_int ty _) = ty
typed_at (typed_prim ty _) = ty
typed_at (typed_term ty _ _) = ty
typed_at (typed_wildcard ty) = ty
typed_at (typed_and ty _) = ty

-- the type of an expression
abbrev pub built_at : TypedExpr → ℕ
built_at (built_term ty _ _) = ty
built_at (built_var ty _) = ty
built_at (built_bool ty _) = ty
built_at (built_int ty _) = ty
built_at (built_prim ty _) = ty
built_at (built_let ty _ _) = ty

-- a variable of a rule; its number is its place
pub record Variable : Type 0 where
  pub name : List ℕ
  pub type : ℕ

-- a condition: its pattern matches its expression's value
pub record TypedIfLet : Type 0 where
  pub pattern : TypedPattern
  pub value : TypedExpr

pub record TypedRule : Type 0 where
  pub root : ℕ
  pub args : TypedPatterns
  pub iflets : List TypedIfLet
  pub right : TypedExpr
  pub variables : List Variable
  pub priority : ℤ
  pub pos : Pos
  pub name : Option (List ℕ)
