-- What is done to each tree of a list is done to all, and a pattern without positions has the tree without them.
use Rattle.std.proofs.Common.{◌≡◌, ◌≤◌, ◌+◌, ◌*◌, List, [], ◌∷◌, map, refl, sym, ◌∙◌}
use denote.Param.Weighed.{most, w_this}
use Rattle.isle_ast.specs.declared.ast.Pattern.{Pattern}
use Rattle.isle_ast.specs.declared.ast.Pattern.TheVariants as pattern
use Rattle.isle_ast.specs.declared.ast.BoxedPattern.TheDeep.{size-Pattern}
use Rattle.isle_ast.specs.declared.ast.Expr.{Expr}
use Rattle.isle_ast.specs.declared.ast.Expr.TheVariants as expr
use Rattle.isle_ast.specs.declared.ast.LetDef.{LetDef}
use Rattle.isle_ast.specs.declared.ast.BoxedExpr.TheDeep.{size-Expr, size-LetDef}
use Rattle.isle_ast.specs.declared.ast.KeptItem.{KeptItem}
use Rattle.isle_ast.specs.declared.ast.KeptItems.TheDeep.{size-KeptItem}
use Rattle.isle_ast.specs.Trees.PatternTree.{PatternTree, pattern_list, pattern_heights}
use Rattle.isle_ast.specs.Trees.PatternShape.{pattern_of, patterns_of}
use Rattle.isle_ast.specs.Trees.ExprTree.{ExprTree, expr_list, expr_heights, let_heights}
use Rattle.isle_ast.specs.Trees.ExprShape.{expr_of, exprs_of, lets_of}
use Rattle.isle_ast.specs.Trees.ItemTree.{ItemTree, item_list_of, item_heights}
use Rattle.isle_ast.specs.Trees.ItemShape.{item_of, items_of}
use Rattle.isle_ast.specs.Trees.Equality.{let_of}
use Rattle.isle_ast.specs.Trees.WithoutPos.{pattern_tree_without_pos, pattern_trees_without_pos, pattern_without_pos, expr_tree_without_pos}
use Rattle.isle_ast.specs.Trees.WithoutPos.{expr_trees_without_pos, let_trees_without_pos, expr_without_pos, item_tree_without_pos}
use Rattle.isle_ast.specs.Trees.WithoutPos.{item_trees_without_pos}
use Rattle.isle_ast.proofs.Trees.TreeShapes.{pattern_of-injective, expr_of-injective}
use Rattle.isle_ast.proofs.Trees.PatternSizes.{most_pattern_size}
use Rattle.isle_ast.proofs.Trees.ExprSizes.{most_expr_size, most_let_size}
use Rattle.isle_ast.proofs.Trees.ItemSizes.{most_item_size}

pub patterns_from_map : (ps : List Pattern) (ts : List PatternTree) → ts ≡ map (λ p. pattern_tree_without_pos (pattern_of p)) ps
    → pattern_list ts ≡ pattern_trees_without_pos (patterns_of ps)
patterns_from_map [] [] e = refl
patterns_from_map [] (t ∷ ts) e = cc
patterns_from_map (p ∷ ps) [] e = cc
patterns_from_map (p ∷ ps) (t ∷ ts) e = let rest = patterns_from_map ps ts (cc) in cc

pub exprs_from_map : (ps : List Expr) (ts : List ExprTree) → ts ≡ map (λ p. expr_tree_without_pos (expr_of p)) ps
    → expr_list ts ≡ expr_trees_without_pos (exprs_of ps)
exprs_from_map [] [] e = refl
exprs_from_map [] (t ∷ ts) e = cc
exprs_from_map (p ∷ ps) [] e = cc
exprs_from_map (p ∷ ps) (t ∷ ts) e = let rest = exprs_from_map ps ts (cc) in cc

pub items_from_map : (ps : List KeptItem) (ts : List ItemTree) → ts ≡ map (λ p. item_tree_without_pos (item_of p)) ps
    → item_list_of ts ≡ item_trees_without_pos (items_of ps)
items_from_map [] [] e = refl
items_from_map [] (t ∷ ts) e = cc
items_from_map (p ∷ ps) [] e = cc
items_from_map (p ∷ ps) (t ∷ ts) e = let rest = items_from_map ps ts (cc) in cc

pub lets_from_map : (ds fs : List LetDef) → map let_of fs ≡ map (λ d. let_trees_without_pos (let_of d)) ds
    → lets_of fs ≡ let_trees_without_pos (lets_of ds)
lets_from_map [] [] e = refl
lets_from_map [] (f ∷ fs) e = cc
lets_from_map (d ∷ ds) [] e = cc
lets_from_map (d ∷ ds) (f ∷ fs) e = let rest = lets_from_map ds fs (cc) in cc

-- the sizes where a function takes the `Vec`
pub most_pattern_weight : (ps : List Pattern) → most (w_this.weight Pattern size-Pattern) ps ≤ 2 * pattern_heights (patterns_of ps) + 1
most_pattern_weight = most_pattern_size

pub most_expr_weight : (es : List Expr) → most (w_this.weight Expr size-Expr) es ≤ 3 * expr_heights (exprs_of es) + 1
most_expr_weight = most_expr_size

pub most_let_weight : (ds : List LetDef) → most (w_this.weight LetDef size-LetDef) ds ≤ 3 * let_heights (lets_of ds) + 2
most_let_weight = most_let_size

pub most_item_weight : (is : List KeptItem) → most (w_this.weight KeptItem size-KeptItem) is ≤ 2 * item_heights (items_of is) + 1
most_item_weight = most_item_size

-- lists without positions, a place at a time
pub ruleset patterns_forget = (most_pattern_weight, patterns_from_map)

pub ruleset exprs_forget = (most_expr_weight, most_let_weight, exprs_from_map)

pub ruleset lets_forget = (most_expr_weight, most_let_weight, lets_from_map)

pub ruleset items_forget = (most_item_weight, items_from_map)
