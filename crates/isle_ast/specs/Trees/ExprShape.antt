-- An expression as a tree: its children are trees already.
use Rattle.std.specs.Prelude.{List, [], ◌∷◌, map}
use Rattle.isle_ast.specs.declared.ast.Expr.{Expr}
use Rattle.isle_ast.specs.declared.ast.Expr.TheVariants.{Term, Var, ConstBool, ConstInt, ConstPrim, Let}
use Rattle.isle_ast.specs.declared.ast.LetDef.{LetDef}
use Rattle.isle_ast.specs.Trees.ExprTree.{ExprTree, ExprTrees, LetTrees, expr_term, expr_var, expr_bool, expr_int, expr_prim, expr_let, expr_list}
use Rattle.isle_ast.specs.Trees.ExprTree.{no_lets, more_lets}

abbrev pub expr_of : Expr → ExprTree
expr_of (Term f ts p) = expr_term f ts p
expr_of (Var x p) = expr_var x p
expr_of (ConstBool b p) = expr_bool b p
expr_of (ConstInt n big p) = expr_int n big p
expr_of (ConstPrim x p) = expr_prim x p
expr_of (Let ds t p) = expr_let ds t p

abbrev pub exprs_of : List Expr → ExprTrees
exprs_of ps = expr_list (map expr_of ps)

abbrev pub lets_of : List LetDef → LetTrees
lets_of [] = no_lets
lets_of (d ∷ ds) = more_lets d.var d.ty (expr_of d.val) d.pos (lets_of ds)
