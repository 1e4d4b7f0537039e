-- Templates that are walked with what is given for their arguments, and not copied.
use Rattle.std.specs.Prelude.{ℕ, suc, List, map, Bool, true, false, slice_get, unwrap_or}
use Rattle.isle_ast.specs.Trees.PatternTree.{PatternTree, PatternTrees, pattern_var, pattern_bind, pattern_bool, pattern_int, pattern_prim}
use Rattle.isle_ast.specs.Trees.PatternTree.{pattern_term, pattern_wildcard, pattern_and, pattern_macro_arg, no_patterns, more_patterns}
use Rattle.isle_ast.specs.Trees.PatternTree.{pattern_list}
use Rattle.isle_ast.specs.Trees.PatternShape.{pattern_of}
use Rattle.isle_rules.specs.Shown.ShownRules.{greatest}
use Rattle.isle_terms.specs.declared.translate.frames.Given.{Given, Given-F, fold-Given, out-Given}

-- a template with the patterns for its arguments; an argument for which there is none stays
abbrev mutual
  pub put : List PatternTree → PatternTree → PatternTree
  put given (pattern_var name pos) = pattern_var name pos
  put given (pattern_bind name below pos) = pattern_bind name (put given below) pos
  put given (pattern_bool val pos) = pattern_bool val pos
  put given (pattern_int val big pos) = pattern_int val big pos
  put given (pattern_prim name pos) = pattern_prim name pos
  put given (pattern_term term args pos) = pattern_term term (put_all given args) pos
  put given (pattern_wildcard pos) = pattern_wildcard pos
  put given (pattern_and below pos) = pattern_and (put_all given below) pos
  put given (pattern_macro_arg k pos) = unwrap_or (slice_get given k) (pattern_macro_arg k pos)

  pub put_all : List PatternTree → PatternTrees → PatternTrees
  put_all given no_patterns = no_patterns
  put_all given (more_patterns first others) = more_patterns (put given first) (put_all given others)

-- whether a pattern is an argument of a template
abbrev pub is_argument : PatternTree → Bool
is_argument (pattern_var _ _) = false
is_argument (pattern_bind _ _ _) = false
is_argument (pattern_bool _ _) = false
is_argument (pattern_int _ _ _) = false
is_argument (pattern_prim _ _) = false
is_argument (pattern_term _ _ _) = false
is_argument (pattern_wildcard _) = false
is_argument (pattern_and _ _) = false
is_argument (pattern_macro_arg _ _) = true

-- the tree of a part of a template where these are the trees that are given
abbrev pub given_step : Given-F PatternTree → PatternTree
given_step part = put part.given.now (pattern_of part.pattern.now)

-- the tree that a part of a template stands for
abbrev pub tree_given : Given → PatternTree
tree_given = fold-Given PatternTree given_step

-- how many templates a part stands in, one in another
abbrev pub frames_of : Given → ℕ
frames_of = fold-Given ℕ (λ part. suc (greatest part.given.now))

-- the part of a template itself
abbrev pub template_at : Given → PatternTree
template_at part = pattern_of (out-Given part).pattern.now

-- the trees that parts stand for
abbrev pub trees_given : List Given → PatternTrees
trees_given parts = pattern_list (map tree_given parts)
