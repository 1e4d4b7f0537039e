-- S-expressions as contracts see them.
use Rattle.std.specs.Prelude.{ℕ, ◌+◌, max, List, [], ◌∷◌}

mutual
  pub data SExprTree : Type 0 where
    sexpr_atom : List ℕ → SExprTree
    sexpr_binding : List ℕ → SExprTree → SExprTree
    sexpr_list : SExprTrees → SExprTree

  pub data SExprTrees : Type 0 where
    no_sexprs : SExprTrees
    more_sexprs : SExprTree → SExprTrees → SExprTrees

-- the trees of a list
abbrev pub sexpr_trees_of : List SExprTree → SExprTrees
sexpr_trees_of [] = no_sexprs
sexpr_trees_of (t ∷ ts) = more_sexprs t (sexpr_trees_of ts)

-- how deep S-expressions nest
abbrev mutual
  pub sexpr_height : SExprTree → ℕ
  sexpr_height (sexpr_atom _) = 0
  sexpr_height (sexpr_binding _ t) = sexpr_height t + 1
  sexpr_height (sexpr_list ts) = sexpr_heights ts + 1

  pub sexpr_heights : SExprTrees → ℕ
  sexpr_heights no_sexprs = 0
  sexpr_heights (more_sexprs t ts) = max (sexpr_height t) (sexpr_heights ts)
