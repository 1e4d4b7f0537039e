-- The chain of names that a pattern is bound to.
use Rattle.std.specs.Prelude.{List, [], ◌∷◌}
use Rattle.isle_ast.specs.declared.pos.Pos.{Pos}
use Rattle.isle_ast.specs.declared.ast.Ident.{Ident}
use Rattle.isle_ast.specs.Trees.PatternTree.{PatternTree, pattern_bind}

-- a pattern bound to names, listed from the outside in, each with the place of its binding
abbrev pub bound : List (Ident × Pos) → PatternTree → PatternTree
bound [] t = t
bound ((var, pos) ∷ rest) t = pattern_bind var (bound rest t) pos
