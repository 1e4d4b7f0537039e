-- Typed patterns and expressions whose constants are symbols, as they stand in an environment of terms.
use Rattle.std.specs.Prelude.{ℤ, Bool, List, [], ◌∷◌, map}
use Rattle.isle_types.specs.declared.ids.Sym.{Sym}
use Rattle.isle_types.specs.declared.ids.TermId.{TermId}
use Rattle.isle_types.specs.declared.ids.TypeId.{TypeId}
use Rattle.isle_types.specs.declared.ids.VarId.{VarId}
use Rattle.isle_rules.specs.declared.rules.Pattern.{Pattern, Pattern-F, fold-Pattern}
use Rattle.isle_rules.specs.declared.rules.Pattern.TheOpen as patterns
use Rattle.isle_rules.specs.declared.rules.Expr.{Expr, Expr-F, fold-Expr}
use Rattle.isle_rules.specs.declared.rules.Expr.TheOpen as exprs

mutual
  -- a typed pattern; the first id is always its type's
  pub data InternedPattern : Type 0 where
    bind_pattern : TypeId → VarId → InternedPattern → InternedPattern
    var_pattern : TypeId → VarId → InternedPattern
    bool_pattern : TypeId → Bool → InternedPattern
    int_pattern : TypeId → ℤ → InternedPattern
    prim_pattern : TypeId → Sym → InternedPattern
    term_pattern : TypeId → TermId → InternedPatterns → InternedPattern
    wildcard_pattern : TypeId → InternedPattern
    and_pattern : TypeId → InternedPatterns → InternedPattern

  -- patterns in order
  pub data InternedPatterns : Type 0 where
    no_patterns : InternedPatterns
    more_patterns : InternedPattern → InternedPatterns → InternedPatterns

mutual
  -- a typed expression; the first id is always its type's
  pub data InternedExpr : Type 0 where
    term_expr : TypeId → TermId → InternedExprs → InternedExpr
    var_expr : TypeId → VarId → InternedExpr
    bool_expr : TypeId → Bool → InternedExpr
    int_expr : TypeId → ℤ → InternedExpr
    prim_expr : TypeId → Sym → InternedExpr
    let_expr : TypeId → InternedBindings → InternedExpr → InternedExpr

  -- expressions in order
  pub data InternedExprs : Type 0 where
    no_exprs : InternedExprs
    more_exprs : InternedExpr → InternedExprs → InternedExprs

  -- the variables of a `let` in order, each with its type and value
  pub data InternedBindings : Type 0 where
    no_bindings : InternedBindings
    more_bindings : VarId → TypeId → InternedExpr → InternedBindings → InternedBindings

-- patterns, from a list
abbrev pub listed_patterns : List InternedPattern → InternedPatterns
listed_patterns [] = no_patterns
listed_patterns (t ∷ ts) = more_patterns t (listed_patterns ts)

-- one node of a pattern, over those below it
abbrev pub pattern_node : Pattern-F InternedPattern → InternedPattern
pattern_node (patterns.BindPattern ty var subpat) = bind_pattern ty var subpat
pattern_node (patterns.Var ty var) = var_pattern ty var
pattern_node (patterns.ConstBool ty val) = bool_pattern ty val
pattern_node (patterns.ConstInt ty val) = int_pattern ty val
pattern_node (patterns.ConstPrim ty val) = prim_pattern ty val
pattern_node (patterns.Term ty id args) = term_pattern ty id (listed_patterns args)
pattern_node (patterns.Wildcard ty) = wildcard_pattern ty
pattern_node (patterns.And ty children) = and_pattern ty (listed_patterns children)

-- a pattern as a tree
abbrev pub pattern_of : Pattern → InternedPattern
pattern_of = fold-Pattern InternedPattern pattern_node

-- patterns as trees
abbrev pub patterns_of : List Pattern → InternedPatterns
patterns_of patterns = listed_patterns (map pattern_of patterns)

-- expressions, from a list
abbrev pub listed_exprs : List InternedExpr → InternedExprs
listed_exprs [] = no_exprs
listed_exprs (t ∷ ts) = more_exprs t (listed_exprs ts)

-- the variables of a `let`, from a list
abbrev pub listed_bindings : List (VarId × TypeId × InternedExpr) → InternedBindings
listed_bindings [] = no_bindings
listed_bindings (b ∷ bs) = more_bindings b.0 b.1 b.2 (listed_bindings bs)

-- one node of an expression, over those below it
abbrev pub expr_node : Expr-F InternedExpr → InternedExpr
expr_node (exprs.Term ty id args) = term_expr ty id (listed_exprs args)
expr_node (exprs.Var ty var) = var_expr ty var
expr_node (exprs.ConstBool ty val) = bool_expr ty val
expr_node (exprs.ConstInt ty val) = int_expr ty val
expr_node (exprs.ConstPrim ty val) = prim_expr ty val
expr_node (exprs.Let ty bindings body) = let_expr ty (listed_bindings bindings) body

-- an expression as a tree
abbrev pub expr_of : Expr → InternedExpr
expr_of = fold-Expr InternedExpr expr_node

-- expressions as trees
abbrev pub exprs_of : List Expr → InternedExprs
exprs_of exprs = listed_exprs (map expr_of exprs)

-- the variables of a `let` as trees
abbrev pub bindings_of : List (VarId × TypeId × Expr) → InternedBindings
bindings_of [] = no_bindings
bindings_of (b ∷ bs) = more_bindings b.0 b.1 (expr_of b.2) (bindings_of bs)
