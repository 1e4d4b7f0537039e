-- Templates of patterns, and what a template stands for at given patterns.
use Rattle.std.specs.Prelude.{ℕ, ◌+◌, List, [], ◌∷◌, Bool, true, false, if◌then◌else◌, Option, None, Some, slice_get}
use Rattle.std.specs.Option.{option_map, option_and_then}
use Rattle.std.specs.Str.{bytes_eq}
use Rattle.isle_ast.specs.declared.pos.Pos.{Pos}
use Rattle.isle_ast.specs.declared.ast.Ident.{Ident}
use Rattle.isle_ast.specs.Trees.PatternTree.{PatternTree, PatternTrees, pattern_var, pattern_bind, pattern_bool, pattern_int, pattern_prim}
use Rattle.isle_ast.specs.Trees.PatternTree.{pattern_term, pattern_wildcard, pattern_and, pattern_macro_arg, no_patterns, more_patterns}

-- the first place at which a text occurs among names
abbrev pub position_of_name : List Ident → List ℕ → Option ℕ
position_of_name [] text = None
position_of_name (name ∷ names) text =
    if bytes_eq name.0 text then Some 0 else option_map (λ k. k + 1) (position_of_name names text)

-- whether a pattern is a wildcard
abbrev pub is_wildcard : PatternTree → Bool
is_wildcard (pattern_var _ _) = false
is_wildcard (pattern_bind _ _ _) = false
is_wildcard (pattern_bool _ _) = false
is_wildcard (pattern_int _ _ _) = false
is_wildcard (pattern_prim _ _) = false
is_wildcard (pattern_term _ _ _) = false
is_wildcard (pattern_wildcard _) = true
is_wildcard (pattern_and _ _) = false
is_wildcard (pattern_macro_arg _ _) = false

-- an argument of a template in the place of a pattern, where a place is known
abbrev pub argument_for : Option ℕ → Pos → PatternTree → PatternTree
argument_for None pos other = other
argument_for (Some k) pos other = pattern_macro_arg k pos

-- the template of a pattern: each listed variable, and each binding of a listed name to a wildcard, is an argument
abbrev mutual
  pub template_tree : List Ident → PatternTree → PatternTree
  template_tree names (pattern_var name pos) =
      argument_for (position_of_name names name.0) pos (pattern_var name pos)
  template_tree names (pattern_bind name below pos) =
      if is_wildcard below then argument_for (position_of_name names name.0) pos (pattern_bind name below pos)
      else pattern_bind name (template_tree names below) pos
  template_tree names (pattern_bool val pos) = pattern_bool val pos
  template_tree names (pattern_int val big pos) = pattern_int val big pos
  template_tree names (pattern_prim name pos) = pattern_prim name pos
  template_tree names (pattern_term term args pos) = pattern_term term (template_trees names args) pos
  template_tree names (pattern_wildcard pos) = pattern_wildcard pos
  template_tree names (pattern_and below pos) = pattern_and (template_trees names below) pos
  template_tree names (pattern_macro_arg k pos) = pattern_macro_arg k pos

  pub template_trees : List Ident → PatternTrees → PatternTrees
  template_trees names no_patterns = no_patterns
  template_trees names (more_patterns first others) =
      more_patterns (template_tree names first) (template_trees names others)

-- first and others together, where both are there
abbrev pub more_given : Option PatternTree → Option PatternTrees → Option PatternTrees
more_given first others = option_and_then (λ t. option_map (more_patterns t) others) first

-- a template with the patterns for its arguments, or nothing where an argument's pattern is missing
abbrev mutual
  pub filled : List PatternTree → PatternTree → Option PatternTree
  filled given (pattern_var name pos) = Some (pattern_var name pos)
  filled given (pattern_bind name below pos) =
      option_map (λ t. pattern_bind name t pos) (filled given below)
  filled given (pattern_bool val pos) = Some (pattern_bool val pos)
  filled given (pattern_int val big pos) = Some (pattern_int val big pos)
  filled given (pattern_prim name pos) = Some (pattern_prim name pos)
  filled given (pattern_term term args pos) =
      option_map (λ ts. pattern_term term ts pos) (all_filled given args)
  filled given (pattern_wildcard pos) = Some (pattern_wildcard pos)
  filled given (pattern_and below pos) =
      option_map (λ ts. pattern_and ts pos) (all_filled given below)
  filled given (pattern_macro_arg k pos) = slice_get given k

  pub all_filled : List PatternTree → PatternTrees → Option PatternTrees
  all_filled given no_patterns = Some no_patterns
  all_filled given (more_patterns first others) =
      more_given (filled given first) (all_filled given others)
