-- The S-expressions of patterns, expressions and kept items.
use Rattle.std.specs.Prelude.{ℕ, ℤ, Bool, true, false, List, [], ◌∷◌, codes}
use Rattle.std.specs.Fmt.{decimal, signed_decimal}
use Rattle.std.specs.Int.{w128, cast_unsigned}
use Rattle.isle_ast.specs.declared.ast.Ident.{Ident}
use Rattle.isle_ast.specs.declared.ast.LetDef.{LetDef}
use Rattle.isle_syntax.specs.Grammar.TreeGrammar.{truth_word}
use Rattle.isle_ast.specs.Trees.PatternTree.{PatternTree, PatternTrees, pattern_var, pattern_bind, pattern_bool, pattern_int, pattern_prim}
use Rattle.isle_ast.specs.Trees.PatternTree.{pattern_term, pattern_wildcard, pattern_and, pattern_macro_arg, no_patterns, more_patterns}
use Rattle.isle_ast.specs.Trees.ExprTree.{ExprTree, ExprTrees, LetTrees, expr_term, expr_var, expr_bool, expr_int, expr_prim, expr_let, no_exprs}
use Rattle.isle_ast.specs.Trees.ExprTree.{more_exprs, no_lets, more_lets}
use Rattle.isle_ast.specs.Trees.ExprShape.{expr_of}
use Rattle.isle_ast.specs.Trees.ItemTree.{ItemTree, ItemTrees, item_int, item_big, item_symbol, item_at, item_list, no_items, more_items}
use Rattle.isle_layout.specs.SExprTree.{SExprTree, sexpr_atom, sexpr_binding, sexpr_list, sexpr_trees_of}

-- S-expressions between parentheses
abbrev pub listed : List SExprTree → SExprTree
listed ts = sexpr_list (sexpr_trees_of ts)

-- a name as it is written
abbrev pub name_sexpr : Ident → SExprTree
name_sexpr x = sexpr_atom x.0

-- a constant: `$` and its name
abbrev pub constant_sexpr : Ident → SExprTree
constant_sexpr x = sexpr_atom (36 ∷ x.0)

-- an integer in decimal; one of 2^127 or more is the number of its 128 bits
abbrev pub integer_text : ℤ → Bool → List ℕ
integer_text val true = decimal (cast_unsigned w128 val)
integer_text val false = signed_decimal val

-- an S-expression bound to names, listed from the outside in
abbrev pub bound_sexpr : List (List ℕ) → SExprTree → SExprTree
bound_sexpr [] t = t
bound_sexpr (x ∷ xs) t = sexpr_binding x (bound_sexpr xs t)

-- a pattern; a numbered argument of a template has no spelling, and the empty atom stands in its place
abbrev mutual
  pub pattern_sexpr : PatternTree → SExprTree
  pattern_sexpr (pattern_var x _) = name_sexpr x
  pattern_sexpr (pattern_bind x below _) = sexpr_binding x.0 (pattern_sexpr below)
  pattern_sexpr (pattern_bool val _) = sexpr_atom (truth_word val)
  pattern_sexpr (pattern_int val big _) = sexpr_atom (integer_text val big)
  pattern_sexpr (pattern_prim x _) = constant_sexpr x
  pattern_sexpr (pattern_term term args _) = listed (name_sexpr term ∷ pattern_sexprs args)
  pattern_sexpr (pattern_wildcard _) = sexpr_atom (codes "_")
  pattern_sexpr (pattern_and below _) = listed (sexpr_atom (codes "and") ∷ pattern_sexprs below)
  pattern_sexpr (pattern_macro_arg _ _) = sexpr_atom []

  pub pattern_sexprs : PatternTrees → List SExprTree
  pattern_sexprs no_patterns = []
  pattern_sexprs (more_patterns first others) = pattern_sexpr first ∷ pattern_sexprs others

-- an expression; a `let` has its variables in a list of their own
abbrev mutual
  pub expr_sexpr : ExprTree → SExprTree
  expr_sexpr (expr_term term args _) = listed (name_sexpr term ∷ expr_sexprs args)
  expr_sexpr (expr_var x _) = name_sexpr x
  expr_sexpr (expr_bool val _) = sexpr_atom (truth_word val)
  expr_sexpr (expr_int val big _) = sexpr_atom (integer_text val big)
  expr_sexpr (expr_prim x _) = constant_sexpr x
  expr_sexpr (expr_let defs body _) = listed (sexpr_atom (codes "let") ∷ listed (let_sexprs defs) ∷ expr_sexpr body ∷ [])

  pub expr_sexprs : ExprTrees → List SExprTree
  expr_sexprs no_exprs = []
  expr_sexprs (more_exprs first others) = expr_sexpr first ∷ expr_sexprs others

  pub let_sexprs : LetTrees → List SExprTree
  let_sexprs no_lets = []
  let_sexprs (more_lets var ty val _ others) = listed (name_sexpr var ∷ name_sexpr ty ∷ expr_sexpr val ∷ []) ∷ let_sexprs others

-- a variable of a `let`, its type and its value
abbrev pub let_def_sexpr : LetDef → SExprTree
let_def_sexpr d = listed (name_sexpr d.var ∷ name_sexpr d.ty ∷ expr_sexpr (expr_of d.val) ∷ [])

-- an item of a kept definition
abbrev mutual
  pub item_sexpr : ItemTree → SExprTree
  item_sexpr (item_int val _) = sexpr_atom (signed_decimal val)
  item_sexpr (item_big val _) = sexpr_atom (decimal val)
  item_sexpr (item_symbol x) = name_sexpr x
  item_sexpr (item_at _) = sexpr_atom (codes "@")
  item_sexpr (item_list items _) = listed (item_sexprs items)

  pub item_sexprs : ItemTrees → List SExprTree
  item_sexprs no_items = []
  item_sexprs (more_items first others) = item_sexpr first ∷ item_sexprs others
