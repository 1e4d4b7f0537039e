-- An S-expression as a tree: its children are trees already.
use Rattle.std.specs.Prelude.{List, map}
use Rattle.isle_layout.specs.declared.sexpr.SExpr.{SExpr}
use Rattle.isle_layout.specs.declared.sexpr.SExpr.TheVariants.{Atom, Binding, List as Nested}
use Rattle.isle_layout.specs.SExprTree.{SExprTree, SExprTrees, sexpr_atom, sexpr_binding, sexpr_list, sexpr_trees_of}

abbrev pub sexpr_of : SExpr → SExprTree
sexpr_of (Atom a) = sexpr_atom a
sexpr_of (Binding x t) = sexpr_binding x t
sexpr_of (Nested ts) = sexpr_list ts

abbrev pub sexprs_of : List SExpr → SExprTrees
sexprs_of ps = sexpr_trees_of (map sexpr_of ps)
