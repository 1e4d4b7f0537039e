-- What is read off names and patterns.
use Rattle.std.specs.Prelude.{◌++◌, Bool, true, false, ◌||◌, Option, Some, None, codes}
use Rattle.isle_ast.specs.declared.ast.Ident.{Ident}
use Rattle.isle_ast.specs.Trees.PatternTree.{PatternTree, PatternTrees, pattern_var, pattern_bind, pattern_bool, pattern_int, pattern_prim}
use Rattle.isle_ast.specs.Trees.PatternTree.{pattern_term, pattern_wildcard, pattern_and, pattern_macro_arg, no_patterns, more_patterns}

-- the name of a variant with its enum's before it, where the variant's name stands
abbrev pub full_name : Ident → Ident → Ident
full_name enum variant = record { 0 = enum.0 ++ codes "." ++ variant.0; 1 = variant.1 }

-- the symbol of a term
abbrev pub root_term : PatternTree → Option Ident
root_term (pattern_var _ _) = None
root_term (pattern_bind _ _ _) = None
root_term (pattern_bool _ _) = None
root_term (pattern_int _ _ _) = None
root_term (pattern_prim _ _) = None
root_term (pattern_term term _ _) = Some term
root_term (pattern_wildcard _) = None
root_term (pattern_and _ _) = None
root_term (pattern_macro_arg _ _) = None

-- whether no pattern occurs below a pattern
abbrev pub is_leaf : PatternTree → Bool
is_leaf (pattern_var _ _) = true
is_leaf (pattern_bind _ _ _) = false
is_leaf (pattern_bool _ _) = true
is_leaf (pattern_int _ _ _) = true
is_leaf (pattern_prim _ _) = true
is_leaf (pattern_term _ _ _) = false
is_leaf (pattern_wildcard _) = true
is_leaf (pattern_and _ _) = false
is_leaf (pattern_macro_arg _ _) = true

-- whether a numbered argument of a template occurs in a pattern
abbrev mutual
  pub has_macro_arg : PatternTree → Bool
  has_macro_arg (pattern_var _ _) = false
  has_macro_arg (pattern_bind _ below _) = has_macro_arg below
  has_macro_arg (pattern_bool _ _) = false
  has_macro_arg (pattern_int _ _ _) = false
  has_macro_arg (pattern_prim _ _) = false
  has_macro_arg (pattern_term _ args _) = has_macro_args args
  has_macro_arg (pattern_wildcard _) = false
  has_macro_arg (pattern_and below _) = has_macro_args below
  has_macro_arg (pattern_macro_arg _ _) = true

  pub has_macro_args : PatternTrees → Bool
  has_macro_args no_patterns = false
  has_macro_args (more_patterns first others) = has_macro_arg first || has_macro_args others
