-- Where a tree is spelt, there was room for the parentheses that are open at once in it.
use Rattle.std.proofs.Common.{◌≡◌, ◌∷◌, Bool, true, arith}
use Rattle.std.specs.Prelude.{ℤ, codes}
use Rattle.isle_ast.specs.declared.pos.Pos.{Pos}
use Rattle.isle_ast.specs.declared.ast.Ident.{Ident}
use Rattle.isle_syntax.specs.Tokens.PlacedTokens.{small, large}
use Rattle.isle_syntax.specs.Tokens.Names.{is_ident, is_name, is_pname, is_const_name}
use Rattle.isle_syntax.specs.Grammar.TreeGrammar.{Constant, SpellsInteger, truth_word, is_pattern_term, is_expr_term, SpellsPattern, SpellsPatterns}
use Rattle.isle_syntax.specs.Grammar.TreeGrammar.{SpellsExpr, SpellsExprs, SpellsLets, SpellsItem, SpellsItems}
use Rattle.isle_ast.specs.Trees.PatternTree.{PatternTree, PatternTrees, pattern_var, pattern_bind, pattern_bool, pattern_int, pattern_prim}
use Rattle.isle_ast.specs.Trees.PatternTree.{pattern_term, pattern_wildcard, pattern_and, pattern_macro_arg, no_patterns, more_patterns}
use Rattle.isle_ast.specs.Trees.ExprTree.{ExprTree, ExprTrees, LetTrees, expr_term, expr_var, expr_bool, expr_int, expr_prim, expr_let, no_exprs}
use Rattle.isle_ast.specs.Trees.ExprTree.{more_exprs, no_lets, more_lets}
use Rattle.isle_ast.specs.Trees.ItemTree.{ItemTree, ItemTrees, item_int, item_big, item_symbol, item_at, item_list, no_items, more_items}
use Rattle.isle_layout.specs.Nesting.{pattern_nesting, pattern_nestings, expr_nesting, expr_nestings, let_nestings, item_nesting, item_nestings}
use Rattle.isle_layout.proofs.SpeltTexts.DepthLeft.{KeepsDepthLeft, keeps_seq, shuts_seq, keeps_fewer, keeps_word, keeps_says, keeps_symbol}
use Rattle.isle_layout.proofs.SpeltTexts.DepthLeft.{keeps_one_symbol, keeps_one_int, keeps_one_at, keeps_at, keeps_none, shuts_close, keeps_opens}
use Rattle.isle_layout.proofs.SpeltTexts.DepthLeft.{shuts_block, keeps_with}

keeps_integer : (val : ℤ) (big : Bool) (p : Pos) → KeepsDepthLeft 0 (SpellsInteger val big p)
keeps_integer val big p = record { within = λ r m ts l h. (keeps_one_int p l.0).within r m ts l.1 h }

pub keeps_constant : (x : Ident) → KeepsDepthLeft 0 (Constant x)
keeps_constant x = keeps_with (λ ts. is_const_name x.0 ≡ true) (keeps_one_symbol x.1 (36 ∷ x.0))

mutual
  pub pattern_depths_left : (t : PatternTree) → KeepsDepthLeft (pattern_nesting t) (SpellsPattern t)
  pattern_depths_left (pattern_var x p) = keeps_with (λ ts. p ≡ x.1) (keeps_symbol is_pname x)
  pattern_depths_left (pattern_bind x sub p) =
      keeps_with (λ ts. p ≡ x.1) (keeps_fewer (omega arith) (keeps_seq (keeps_symbol is_pname x) (keeps_seq keeps_at (pattern_depths_left sub))))
  pattern_depths_left (pattern_bool b p) = keeps_word (truth_word b) p
  pattern_depths_left (pattern_int val big p) = keeps_integer val big p
  pattern_depths_left (pattern_prim x p) = keeps_with (λ ts. p ≡ x.1) (keeps_constant x)
  pattern_depths_left (pattern_term x args p) =
      keeps_fewer (omega arith) (keeps_opens p (shuts_seq (keeps_symbol is_pattern_term x) (shuts_seq (patterns_depths_left args) shuts_close)))
  pattern_depths_left (pattern_wildcard p) = keeps_word (codes "_") p
  pattern_depths_left (pattern_and args p) =
      keeps_fewer (omega arith) (keeps_opens p (shuts_seq (keeps_says (codes "and")) (shuts_seq (patterns_depths_left args) shuts_close)))
  pattern_depths_left (pattern_macro_arg i p) = record { within = λ r m ts l h. absurd l }

  pub patterns_depths_left : (ts : PatternTrees) → KeepsDepthLeft (pattern_nestings ts) (SpellsPatterns ts)
  patterns_depths_left no_patterns = keeps_none
  patterns_depths_left (more_patterns t rest) = keeps_seq (pattern_depths_left t) (patterns_depths_left rest)

mutual
  pub expr_depths_left : (t : ExprTree) → KeepsDepthLeft (expr_nesting t) (SpellsExpr t)
  expr_depths_left (expr_term x args p) =
      keeps_fewer (omega arith) (keeps_opens p (shuts_seq (keeps_symbol is_expr_term x) (shuts_seq (exprs_depths_left args) shuts_close)))
  expr_depths_left (expr_var x p) = keeps_with (λ ts. p ≡ x.1) (keeps_symbol is_name x)
  expr_depths_left (expr_bool b p) = keeps_word (truth_word b) p
  expr_depths_left (expr_int val big p) = keeps_integer val big p
  expr_depths_left (expr_prim x p) = keeps_with (λ ts. p ≡ x.1) (keeps_constant x)
  expr_depths_left (expr_let defs body p) =
      keeps_fewer (omega arith) (keeps_opens p (shuts_seq (keeps_says (codes "let"))
      (shuts_block (lets_depths_left defs) (shuts_seq (expr_depths_left body) shuts_close))))

  pub exprs_depths_left : (ts : ExprTrees) → KeepsDepthLeft (expr_nestings ts) (SpellsExprs ts)
  exprs_depths_left no_exprs = keeps_none
  exprs_depths_left (more_exprs t rest) = keeps_seq (expr_depths_left t) (exprs_depths_left rest)

  pub lets_depths_left : (ds : LetTrees) → KeepsDepthLeft (let_nestings ds) (SpellsLets ds)
  lets_depths_left no_lets = keeps_none
  lets_depths_left (more_lets var ty val p rest) =
      keeps_fewer (omega arith)
      (keeps_seq
      (keeps_opens p (shuts_seq (keeps_symbol is_ident var) (shuts_seq (keeps_symbol is_ident ty) (shuts_seq (expr_depths_left val) shuts_close))))
      (lets_depths_left rest))

mutual
  pub item_depths_left : (t : ItemTree) → KeepsDepthLeft (item_nesting t) (SpellsItem t)
  item_depths_left (item_int z p) = keeps_one_int p (small z)
  item_depths_left (item_big n p) = keeps_one_int p (large n)
  item_depths_left (item_symbol x) = keeps_one_symbol x.1 x.0
  item_depths_left (item_at p) = keeps_one_at p
  item_depths_left (item_list items p) = keeps_fewer (omega arith) (keeps_opens p (shuts_seq (items_depths_left items) shuts_close))

  pub items_depths_left : (ts : ItemTrees) → KeepsDepthLeft (item_nestings ts) (SpellsItems ts)
  items_depths_left no_items = keeps_none
  items_depths_left (more_items t rest) = keeps_seq (item_depths_left t) (items_depths_left rest)
