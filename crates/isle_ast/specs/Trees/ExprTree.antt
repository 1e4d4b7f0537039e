-- Expressions as contracts see them.
use Rattle.std.specs.Prelude.{ℕ, ℤ, ◌+◌, max, Bool, List, [], ◌∷◌}
use Rattle.isle_ast.specs.declared.pos.Pos.{Pos}
use Rattle.isle_ast.specs.declared.ast.Ident.{Ident}

mutual
  pub data ExprTree : Type 0 where
    expr_term : Ident → ExprTrees → Pos → ExprTree
    expr_var : Ident → Pos → ExprTree
    expr_bool : Bool → Pos → ExprTree
    expr_int : ℤ → Bool → Pos → ExprTree
    expr_prim : Ident → Pos → ExprTree
    expr_let : LetTrees → ExprTree → Pos → ExprTree

  pub data ExprTrees : Type 0 where
    no_exprs : ExprTrees
    more_exprs : ExprTree → ExprTrees → ExprTrees

  pub data LetTrees : Type 0 where
    no_lets : LetTrees
    more_lets : (var ty : Ident) (val : ExprTree) (pos : Pos) → LetTrees → LetTrees

-- the trees of a list
abbrev pub expr_list : List ExprTree → ExprTrees
expr_list [] = no_exprs
expr_list (t ∷ ts) = more_exprs t (expr_list ts)

-- where the first token of an expression stands
abbrev pub expr_pos : ExprTree → Pos
expr_pos (expr_term _ _ pos) = pos
expr_pos (expr_var _ pos) = pos
expr_pos (expr_bool _ pos) = pos
expr_pos (expr_int _ _ pos) = pos
expr_pos (expr_prim _ pos) = pos
expr_pos (expr_let _ _ pos) = pos

-- how deep expressions nest
abbrev mutual
  pub expr_height : ExprTree → ℕ
  expr_height (expr_term _ ts _) = expr_heights ts + 1
  expr_height (expr_var _ _) = 0
  expr_height (expr_bool _ _) = 0
  expr_height (expr_int _ _ _) = 0
  expr_height (expr_prim _ _) = 0
  expr_height (expr_let ds t _) = max (let_heights ds) (expr_height t) + 1

  pub expr_heights : ExprTrees → ℕ
  expr_heights no_exprs = 0
  expr_heights (more_exprs t ts) = max (expr_height t) (expr_heights ts)

  pub let_heights : LetTrees → ℕ
  let_heights no_lets = 0
  let_heights (more_lets _ _ t _ ds) = max (expr_height t + 1) (let_heights ds)
