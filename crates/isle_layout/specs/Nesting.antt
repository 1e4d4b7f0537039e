-- How many parentheses are open at once in what is printed.
use Rattle.std.specs.Prelude.{ℕ, ◌+◌, max, List, [], ◌∷◌}
use Rattle.isle_ast.specs.declared.ast.IfLet.{IfLet}
use Rattle.isle_ast.specs.declared.ast.Rule.{Rule as RuleTree}
use Rattle.isle_ast.specs.declared.ast.Def.{Def}
use Rattle.isle_ast.specs.declared.ast.Def.TheVariants.{TypeDef, Decl, Rule, Extractor, Extern, Converter, Pragma, Kept}
use Rattle.isle_ast.specs.Trees.PatternTree.{PatternTree, PatternTrees, pattern_var, pattern_bind, pattern_bool, pattern_int, pattern_prim}
use Rattle.isle_ast.specs.Trees.PatternTree.{pattern_term, pattern_wildcard, pattern_and, pattern_macro_arg, no_patterns, more_patterns}
use Rattle.isle_ast.specs.Trees.PatternShape.{pattern_of}
use Rattle.isle_ast.specs.Trees.ExprTree.{ExprTree, ExprTrees, LetTrees, expr_term, expr_var, expr_bool, expr_int, expr_prim, expr_let, no_exprs}
use Rattle.isle_ast.specs.Trees.ExprTree.{more_exprs, no_lets, more_lets}
use Rattle.isle_ast.specs.Trees.ExprShape.{expr_of}
use Rattle.isle_ast.specs.Trees.ItemTree.{ItemTree, ItemTrees, item_int, item_big, item_symbol, item_at, item_list, no_items, more_items}

-- in a pattern; a binding adds none
abbrev mutual
  pub pattern_nesting : PatternTree → ℕ
  pattern_nesting (pattern_var _ _) = 0
  pattern_nesting (pattern_bind _ below _) = pattern_nesting below
  pattern_nesting (pattern_bool _ _) = 0
  pattern_nesting (pattern_int _ _ _) = 0
  pattern_nesting (pattern_prim _ _) = 0
  pattern_nesting (pattern_term _ args _) = pattern_nestings args + 1
  pattern_nesting (pattern_wildcard _) = 0
  pattern_nesting (pattern_and below _) = pattern_nestings below + 1
  pattern_nesting (pattern_macro_arg _ _) = 0

  pub pattern_nestings : PatternTrees → ℕ
  pattern_nestings no_patterns = 0
  pattern_nestings (more_patterns first others) = max (pattern_nesting first) (pattern_nestings others)

-- in an expression: a `let` opens one for itself, one for its variables and one for each of them
abbrev mutual
  pub expr_nesting : ExprTree → ℕ
  expr_nesting (expr_term _ args _) = expr_nestings args + 1
  expr_nesting (expr_var _ _) = 0
  expr_nesting (expr_bool _ _) = 0
  expr_nesting (expr_int _ _ _) = 0
  expr_nesting (expr_prim _ _) = 0
  expr_nesting (expr_let defs body _) = max (let_nestings defs + 1) (expr_nesting body) + 1

  pub expr_nestings : ExprTrees → ℕ
  expr_nestings no_exprs = 0
  expr_nestings (more_exprs first others) = max (expr_nesting first) (expr_nestings others)

  pub let_nestings : LetTrees → ℕ
  let_nestings no_lets = 0
  let_nestings (more_lets _ _ val _ others) = max (expr_nesting val + 1) (let_nestings others)

-- in an item of a kept definition
abbrev mutual
  pub item_nesting : ItemTree → ℕ
  item_nesting (item_int _ _) = 0
  item_nesting (item_big _ _) = 0
  item_nesting (item_symbol _) = 0
  item_nesting (item_at _) = 0
  item_nesting (item_list items _) = item_nestings items + 1

  pub item_nestings : ItemTrees → ℕ
  item_nestings no_items = 0
  item_nestings (more_items first others) = max (item_nesting first) (item_nestings others)

-- in clauses `(if-let pattern expr)`
abbrev pub iflet_nestings : List IfLet → ℕ
iflet_nestings [] = 0
iflet_nestings (clause ∷ others) =
    max (max (pattern_nesting (pattern_of clause.pattern)) (expr_nesting (expr_of clause.expr)) + 1) (iflet_nestings others)

-- in what stands between a rule's parentheses
abbrev pub rule_nesting : RuleTree → ℕ
rule_nesting rule =
    max (pattern_nesting (pattern_of rule.pattern)) (max (iflet_nestings rule.iflets) (expr_nesting (expr_of rule.expr)))

-- in a definition; that of a type opens four at most, as in `(type T (enum (V (f U))))`, a declaration two, the next two kinds one
abbrev pub nesting : Def → ℕ
nesting (TypeDef _) = 4
nesting (Decl _) = 2
nesting (Rule rule) = rule_nesting rule + 1
nesting (Extractor extractor) = max 1 (pattern_nesting (pattern_of extractor.template)) + 1
nesting (Extern _) = 1
nesting (Converter _) = 1
nesting (Pragma _) = 0
nesting (Kept kept) = item_nestings kept.items + 1
