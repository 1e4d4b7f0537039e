-- Patterns put in for names, all at once, and what a template then is.
use Rattle.std.specs.Prelude.{◌≡◌, ◌≤◌, ◌↔◌, ℕ, List, [], ◌∷◌, ◌++◌, if◌then◌else◌, Option, None, Some, unwrap_or, length, map, All, Contains, IsSome}
use Rattle.std.specs.Prelude.{IfSome}
use Rattle.std.specs.List.{zip}
use Rattle.std.specs.Str.{bytes_eq}
use Rattle.isle_ast.specs.declared.ast.Ident.{Ident}
use Rattle.isle_ast.specs.Trees.PatternTree.{PatternTree, PatternTrees, pattern_var, pattern_bind, pattern_bool, pattern_int, pattern_prim}
use Rattle.isle_ast.specs.Trees.PatternTree.{pattern_term, pattern_wildcard, pattern_and, pattern_macro_arg, no_patterns, more_patterns}
use Rattle.isle_ast.specs.Trees.Templates.{is_wildcard, template_tree, filled}

-- names, each with the pattern to be put in for it
abbrev pub Assignment : Type 0
Assignment = List (Ident × PatternTree)

-- the pattern of the first of the names with a text
abbrev pub pattern_for : Assignment → List ℕ → Option PatternTree
pattern_for [] text = None
pattern_for (first ∷ others) text = if bytes_eq first.0.0 text then Some first.1 else pattern_for others text

-- a pattern with each variable of a name, and each binding of a name to a wildcard, replaced by the name's pattern, all
-- at once; a name without a pattern stays
abbrev mutual
  pub substituted : Assignment → PatternTree → PatternTree
  substituted given (pattern_var name pos) = unwrap_or (pattern_for given name.0) (pattern_var name pos)
  substituted given (pattern_bind name below pos) =
      if is_wildcard below then unwrap_or (pattern_for given name.0) (pattern_bind name below pos)
      else pattern_bind name (substituted given below) pos
  substituted given (pattern_bool val pos) = pattern_bool val pos
  substituted given (pattern_int val big pos) = pattern_int val big pos
  substituted given (pattern_prim name pos) = pattern_prim name pos
  substituted given (pattern_term term args pos) = pattern_term term (all_substituted given args) pos
  substituted given (pattern_wildcard pos) = pattern_wildcard pos
  substituted given (pattern_and below pos) = pattern_and (all_substituted given below) pos
  substituted given (pattern_macro_arg k pos) = pattern_macro_arg k pos

  pub all_substituted : Assignment → PatternTrees → PatternTrees
  all_substituted given no_patterns = no_patterns
  all_substituted given (more_patterns first others) =
      more_patterns (substituted given first) (all_substituted given others)

-- the texts of the names that can be replaced in a pattern: its variables, and what it binds to a wildcard
abbrev mutual
  pub replaceable : PatternTree → List (List ℕ)
  replaceable (pattern_var name _) = name.0 ∷ []
  replaceable (pattern_bind name below _) = if is_wildcard below then name.0 ∷ [] else replaceable below
  replaceable (pattern_bool _ _) = []
  replaceable (pattern_int _ _ _) = []
  replaceable (pattern_prim _ _) = []
  replaceable (pattern_term _ args _) = all_replaceable args
  replaceable (pattern_wildcard _) = []
  replaceable (pattern_and below _) = all_replaceable below
  replaceable (pattern_macro_arg _ _) = []

  pub all_replaceable : PatternTrees → List (List ℕ)
  all_replaceable no_patterns = []
  all_replaceable (more_patterns first others) = replaceable first ++ all_replaceable others

-- the texts of names
abbrev pub texts_of : List Ident → List (List ℕ)
texts_of names = map (λ name. name.0) names

-- What the template of a pattern for names is, filled with given patterns: where there are enough of them, the pattern
-- with them put in for the names; it is nothing else; and it is there exactly where each listed name that is to be
-- replaced has its pattern.
pub record Substitutes (names : List Ident) (given : List PatternTree) (pattern : PatternTree) : Type 0 where
  pub enough : length names ≤ length given
      → filled given (template_tree names pattern) ≡ Some (substituted (zip names given) pattern)
  pub right : IfSome (filled given (template_tree names pattern)) (λ made. made ≡ substituted (zip names given) pattern)
  pub there : IsSome (filled given (template_tree names pattern))
      ↔ All (λ text. Contains (texts_of names) text → IsSome (pattern_for (zip names given) text)) (replaceable pattern)
