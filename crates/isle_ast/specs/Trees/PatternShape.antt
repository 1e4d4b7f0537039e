-- A pattern as a tree: its children are trees already.
use Rattle.std.specs.Prelude.{List, map}
use Rattle.isle_ast.specs.declared.ast.Pattern.{Pattern}
use Rattle.isle_ast.specs.declared.ast.Pattern.TheVariants.{Var, BindPattern, ConstBool, ConstInt, ConstPrim, Term, Wildcard, And, MacroArg}
use Rattle.isle_ast.specs.Trees.PatternTree.{PatternTree, PatternTrees, pattern_var, pattern_bind, pattern_bool, pattern_int, pattern_prim}
use Rattle.isle_ast.specs.Trees.PatternTree.{pattern_term, pattern_wildcard, pattern_and, pattern_macro_arg, pattern_list}

abbrev pub pattern_of : Pattern → PatternTree
pattern_of (Var x p) = pattern_var x p
pattern_of (BindPattern x t p) = pattern_bind x t p
pattern_of (ConstBool b p) = pattern_bool b p
pattern_of (ConstInt n big p) = pattern_int n big p
pattern_of (ConstPrim x p) = pattern_prim x p
pattern_of (Term f ts p) = pattern_term f ts p
pattern_of (Wildcard p) = pattern_wildcard p
pattern_of (And ts p) = pattern_and ts p
pattern_of (MacroArg k p) = pattern_macro_arg k p

abbrev pub patterns_of : List Pattern → PatternTrees
patterns_of ps = pattern_list (map pattern_of ps)
