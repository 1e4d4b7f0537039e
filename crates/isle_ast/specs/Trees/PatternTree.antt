-- Patterns as contracts see them.
use Rattle.std.specs.Prelude.{ℕ, ℤ, ◌+◌, max, Bool, List, [], ◌∷◌}
use Rattle.isle_ast.specs.declared.pos.Pos.{Pos}
use Rattle.isle_ast.specs.declared.ast.Ident.{Ident}

mutual
  pub data PatternTree : Type 0 where
    pattern_var : Ident → Pos → PatternTree
    pattern_bind : Ident → PatternTree → Pos → PatternTree
    pattern_bool : Bool → Pos → PatternTree
    pattern_int : ℤ → Bool → Pos → PatternTree
    pattern_prim : Ident → Pos → PatternTree
    pattern_term : Ident → PatternTrees → Pos → PatternTree
    pattern_wildcard : Pos → PatternTree
    pattern_and : PatternTrees → Pos → PatternTree
    pattern_macro_arg : ℕ → Pos → PatternTree

  pub data PatternTrees : Type 0 where
    no_patterns : PatternTrees
    more_patterns : PatternTree → PatternTrees → PatternTrees

-- the trees of a list
abbrev pub pattern_list : List PatternTree → PatternTrees
pattern_list [] = no_patterns
pattern_list (t ∷ ts) = more_patterns t (pattern_list ts)

-- where the first token of a pattern stands
abbrev pub pattern_pos : PatternTree → Pos
pattern_pos (pattern_var _ pos) = pos
pattern_pos (pattern_bind _ _ pos) = pos
pattern_pos (pattern_bool _ pos) = pos
pattern_pos (pattern_int _ _ pos) = pos
pattern_pos (pattern_prim _ pos) = pos
pattern_pos (pattern_term _ _ pos) = pos
pattern_pos (pattern_wildcard pos) = pos
pattern_pos (pattern_and _ pos) = pos
pattern_pos (pattern_macro_arg _ pos) = pos

-- how deep patterns nest
abbrev mutual
  pub pattern_height : PatternTree → ℕ
  pattern_height (pattern_var _ _) = 0
  pattern_height (pattern_bind _ t _) = pattern_height t + 1
  pattern_height (pattern_bool _ _) = 0
  pattern_height (pattern_int _ _ _) = 0
  pattern_height (pattern_prim _ _) = 0
  pattern_height (pattern_term _ ts _) = pattern_heights ts + 1
  pattern_height (pattern_wildcard _) = 0
  pattern_height (pattern_and ts _) = pattern_heights ts + 1
  pattern_height (pattern_macro_arg _ _) = 0

  pub pattern_heights : PatternTrees → ℕ
  pattern_heights no_patterns = 0
  pattern_heights (more_patterns t ts) = max (pattern_height t) (pattern_heights ts)
