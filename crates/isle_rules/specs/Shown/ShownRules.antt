-- What typed trees show: types, terms and variables by number, constants by name.
use Rattle.std.specs.Prelude.{ℕ, suc, max, List, [], ◌∷◌}
use Rattle.isle_types.specs.declared.ids.TypeId.{TypeId}
use Rattle.isle_types.specs.declared.ids.VarId.{VarId}
use Rattle.isle_types.specs.TypeTables.{name_at}
use Rattle.isle_rules.specs.declared.rules.Pattern.{Pattern, Pattern-F, fold-Pattern}
use Rattle.isle_rules.specs.declared.rules.Pattern.TheOpen.{BindPattern, Var as PatternVar, ConstBool as PatternBool, ConstInt as PatternInt}
use Rattle.isle_rules.specs.declared.rules.Pattern.TheOpen.{ConstPrim as PatternPrim, Term as PatternTerm, Wildcard, And}
use Rattle.isle_rules.specs.declared.rules.Expr.{Expr, Expr-F, fold-Expr}
use Rattle.isle_rules.specs.declared.rules.Expr.TheOpen.{Term, Var, ConstBool, ConstInt, ConstPrim, Let}
use Rattle.isle_rules.specs.declared.rules.IfLet.{IfLet}
use Rattle.isle_rules.specs.TypedRules.{TypedPattern, TypedPatterns, typed_bind, typed_var, typed_bool, typed_int, typed_prim, typed_term}
use Rattle.isle_rules.specs.TypedRules.{typed_wildcard, typed_and, no_typed, more_typed, TypedExpr, TypedExprs, TypedBindings, built_term}
use Rattle.isle_rules.specs.TypedRules.{built_var, built_bool, built_int, built_prim, built_let, no_built, more_built, no_typed_bindings, more_typed_bindings}
use Rattle.isle_rules.specs.TypedRules.{TypedIfLet}

-- the patterns of a list
abbrev pub typed_list : List TypedPattern → TypedPatterns
typed_list [] = no_typed
typed_list (first ∷ others) = more_typed first (typed_list others)

-- one node of a pattern, where these are the interned names
abbrev pub typed_step : List (List ℕ) → Pattern-F TypedPattern → TypedPattern
typed_step names (BindPattern ty var below) = typed_bind ty.0 var.0 below
typed_step names (PatternVar ty var) = typed_var ty.0 var.0
typed_step names (PatternBool ty val) = typed_bool ty.0 val
typed_step names (PatternInt ty val) = typed_int ty.0 val
typed_step names (PatternPrim ty name) = typed_prim ty.0 (name_at names name)
typed_step names (PatternTerm ty term args) = typed_term ty.0 term.0 (typed_list args)
typed_step names (Wildcard ty) = typed_wildcard ty.0
typed_step names (And ty below) = typed_and ty.0 (typed_list below)

-- a typed pattern
abbrev pub typed_shown : List (List ℕ) → Pattern → TypedPattern
typed_shown names = fold-Pattern TypedPattern (typed_step names)

-- the expressions of a list
abbrev pub built_list : List TypedExpr → TypedExprs
built_list [] = no_built
built_list (first ∷ others) = more_built first (built_list others)

-- the bindings of a list
abbrev pub binding_list : List (VarId × TypeId × TypedExpr) → TypedBindings
binding_list [] = no_typed_bindings
binding_list (first ∷ others) = more_typed_bindings first.0.0 first.1.0 first.2 (binding_list others)

-- one node of an expression
abbrev pub built_step : List (List ℕ) → Expr-F TypedExpr → TypedExpr
built_step names (Term ty term args) = built_term ty.0 term.0 (built_list args)
built_step names (Var ty var) = built_var ty.0 var.0
built_step names (ConstBool ty val) = built_bool ty.0 val
built_step names (ConstInt ty val) = built_int ty.0 val
built_step names (ConstPrim ty name) = built_prim ty.0 (name_at names name)
built_step names (Let ty bindings body) = built_let ty.0 (binding_list bindings) body

-- a typed expression
abbrev pub built_shown : List (List ℕ) → Expr → TypedExpr
built_shown names = fold-Expr TypedExpr (built_step names)

-- a condition
abbrev pub iflet_shown : List (List ℕ) → IfLet → TypedIfLet
iflet_shown names iflet = record { pattern = typed_shown names iflet.lhs; value = built_shown names iflet.rhs }

-- the greatest of some numbers, or 0
abbrev pub greatest : List ℕ → ℕ
greatest [] = 0
greatest (first ∷ others) = max first (greatest others)

-- all symbols of one node of a pattern are below this
abbrev pub pattern_limit_step : Pattern-F ℕ → ℕ
pattern_limit_step (BindPattern ty var below) = below
pattern_limit_step (PatternVar ty var) = 0
pattern_limit_step (PatternBool ty val) = 0
pattern_limit_step (PatternInt ty val) = 0
pattern_limit_step (PatternPrim ty name) = suc name.0
pattern_limit_step (PatternTerm ty term args) = greatest args
pattern_limit_step (Wildcard ty) = 0
pattern_limit_step (And ty below) = greatest below

-- all symbols of a pattern are below this
abbrev pub pattern_limit : Pattern → ℕ
pattern_limit = fold-Pattern ℕ pattern_limit_step

-- the greatest limit of a `let`'s values, or 0
abbrev pub greatest_of_values : List (VarId × TypeId × ℕ) → ℕ
greatest_of_values [] = 0
greatest_of_values (first ∷ others) = max first.2 (greatest_of_values others)

-- all symbols of one node of an expression are below this
abbrev pub expr_limit_step : Expr-F ℕ → ℕ
expr_limit_step (Term ty term args) = greatest args
expr_limit_step (Var ty var) = 0
expr_limit_step (ConstBool ty val) = 0
expr_limit_step (ConstInt ty val) = 0
expr_limit_step (ConstPrim ty name) = suc name.0
expr_limit_step (Let ty bindings body) = max (greatest_of_values bindings) body

-- all symbols of an expression are below this
abbrev pub expr_limit : Expr → ℕ
expr_limit = fold-Expr ℕ expr_limit_step
