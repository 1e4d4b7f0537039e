-- What a chain of bindings `x @ y @ ..` binds, and the names that it binds to it.
use Rattle.std.specs.Prelude.{List, [], ◌∷◌}
use Rattle.isle_ast.specs.declared.pos.Pos.{Pos}
use Rattle.isle_ast.specs.declared.ast.Ident.{Ident}
use Rattle.isle_ast.specs.Trees.PatternTree.{PatternTree, pattern_var, pattern_bind, pattern_bool, pattern_int, pattern_prim, pattern_term}
use Rattle.isle_ast.specs.Trees.PatternTree.{pattern_wildcard, pattern_and, pattern_macro_arg}

-- the pattern that a chain of bindings binds, which is no binding; a pattern that is no binding is its own
abbrev pub innermost : PatternTree → PatternTree
innermost (pattern_var name pos) = pattern_var name pos
innermost (pattern_bind _ below _) = innermost below
innermost (pattern_bool val pos) = pattern_bool val pos
innermost (pattern_int val big pos) = pattern_int val big pos
innermost (pattern_prim name pos) = pattern_prim name pos
innermost (pattern_term term args pos) = pattern_term term args pos
innermost (pattern_wildcard pos) = pattern_wildcard pos
innermost (pattern_and below pos) = pattern_and below pos
innermost (pattern_macro_arg k pos) = pattern_macro_arg k pos

-- the names that a chain binds to its innermost pattern with the positions of the bindings, from the outside in
abbrev pub names_bound : PatternTree → List (Ident × Pos)
names_bound (pattern_var _ _) = []
names_bound (pattern_bind name below pos) = (name, pos) ∷ names_bound below
names_bound (pattern_bool _ _) = []
names_bound (pattern_int _ _ _) = []
names_bound (pattern_prim _ _) = []
names_bound (pattern_term _ _ _) = []
names_bound (pattern_wildcard _) = []
names_bound (pattern_and _ _) = []
names_bound (pattern_macro_arg _ _) = []
