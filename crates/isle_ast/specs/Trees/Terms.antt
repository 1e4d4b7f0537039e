-- The terms of patterns and expressions, in the order in which they are written.
use Rattle.std.specs.Prelude.{◌≡◌, List, [], ◌∷◌, ◌++◌}
use Rattle.std.specs.Fn.{Mut, Called}
use denote.Ref.{Bor}
use Rattle.isle_ast.specs.declared.pos.Pos.{Pos}
use Rattle.isle_ast.specs.declared.ast.Ident.{Ident}
use Rattle.isle_ast.specs.Trees.PatternTree.{PatternTree, PatternTrees, pattern_var, pattern_bind, pattern_bool, pattern_int, pattern_prim}
use Rattle.isle_ast.specs.Trees.PatternTree.{pattern_term, pattern_wildcard, pattern_and, pattern_macro_arg, no_patterns, more_patterns}
use Rattle.isle_ast.specs.Trees.ExprTree.{ExprTree, ExprTrees, LetTrees, expr_term, expr_var, expr_bool, expr_int, expr_prim, expr_let, no_exprs}
use Rattle.isle_ast.specs.Trees.ExprTree.{more_exprs, no_lets, more_lets}

-- the terms of a pattern with their positions, each before those below it
abbrev mutual
  pub pattern_terms : PatternTree → List (Pos × Ident)
  pattern_terms (pattern_var _ _) = []
  pattern_terms (pattern_bind _ below _) = pattern_terms below
  pattern_terms (pattern_bool _ _) = []
  pattern_terms (pattern_int _ _ _) = []
  pattern_terms (pattern_prim _ _) = []
  pattern_terms (pattern_term term args pos) = (pos, term) ∷ patterns_terms args
  pattern_terms (pattern_wildcard _) = []
  pattern_terms (pattern_and below _) = patterns_terms below
  pattern_terms (pattern_macro_arg _ _) = []

  pub patterns_terms : PatternTrees → List (Pos × Ident)
  patterns_terms no_patterns = []
  patterns_terms (more_patterns first others) = pattern_terms first ++ patterns_terms others

-- the terms of an expression with their positions, each before those below it and the values of a `let` before its body
abbrev mutual
  pub expr_terms : ExprTree → List (Pos × Ident)
  expr_terms (expr_term term args pos) = (pos, term) ∷ exprs_terms args
  expr_terms (expr_var _ _) = []
  expr_terms (expr_bool _ _) = []
  expr_terms (expr_int _ _ _) = []
  expr_terms (expr_prim _ _) = []
  expr_terms (expr_let defs body _) = lets_terms defs ++ expr_terms body

  pub exprs_terms : ExprTrees → List (Pos × Ident)
  exprs_terms no_exprs = []
  exprs_terms (more_exprs first others) = expr_terms first ++ exprs_terms others

  pub lets_terms : LetTrees → List (Pos × Ident)
  lets_terms no_lets = []
  lets_terms (more_lets _ _ val _ others) = expr_terms val ++ lets_terms others

-- a call of `f` at a term's position and its symbol
pub record CalledAtTerm {F : Type 0} (g : Mut F (Pos × (Bor Ident × Unit {0})) (Unit {0})) (f : F) (term : Pos × Ident) (f' : F) : Type 0 where
  pub shown : Bor Ident
  pub shows : shown.now ≡ term.1
  pub called : Called g f (term.0, (shown, tt)) tt f'
