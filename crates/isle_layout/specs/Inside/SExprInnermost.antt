-- What a chain of bindings `x @ y @ ..` binds, and the text before it.
use Rattle.std.specs.Prelude.{ℕ, List, [], ◌++◌, codes}
use Rattle.isle_layout.specs.SExprTree.{SExprTree, sexpr_atom, sexpr_binding, sexpr_list}

-- the S-expression that a chain of bindings binds, which is no binding; one that is no binding is its own
abbrev pub innermost : SExprTree → SExprTree
innermost (sexpr_atom text) = sexpr_atom text
innermost (sexpr_binding _ below) = innermost below
innermost (sexpr_list items) = sexpr_list items

-- the names of a chain from the outside in, each with an `@` after it
abbrev pub names_text : SExprTree → List ℕ
names_text (sexpr_atom _) = []
names_text (sexpr_binding name below) = (name ++ codes " @ ") ++ names_text below
names_text (sexpr_list _) = []
