-- What answers whether two trees are the same answers as equality does, and equality is that of the values.
use Rattle.std.proofs.Common.{◌≡◌, Bool, [], ◌∷◌, IsTrue, ◌↔◌, ap}
use Rattle.std.specs.Bool.{Decides, one_answer}
use Rattle.std.specs.Coded.{Coded}
use Rattle.isle_ast.specs.declared.ast.Pattern.{Pattern}
use Rattle.isle_ast.specs.declared.ast.Expr.{Expr}
use Rattle.isle_ast.specs.declared.ast.LetDef.{LetDef}
use Rattle.isle_ast.specs.declared.ast.KeptItem.{KeptItem}
use Rattle.isle_ast.specs.Trees.PatternCode.{pattern_tree_code}
use Rattle.isle_ast.specs.Trees.PatternShape.{pattern_of}
use Rattle.isle_ast.specs.Trees.ExprCode.{expr_tree_code, let_trees_code}
use Rattle.isle_ast.specs.Trees.ExprShape.{expr_of}
use Rattle.isle_ast.specs.Trees.ItemCode.{item_tree_code}
use Rattle.isle_ast.specs.Trees.ItemShape.{item_of}
use Rattle.isle_ast.specs.Trees.Equality.{same_coded, same_coded-decides, let_of, same_pattern, same_expr, same_let, same_item}
use Rattle.isle_ast.proofs.Trees.TreeShapes.{pattern_of-injective, expr_of-injective, lets_of-injective, item_of-injective}

pub answered : {A : Type 0} (code : Coded A) (x y : A) (answer : Bool) → (IsTrue answer ↔ (x ≡ y)) → answer ≡ same_coded code x y
answered code x y answer h =
    one_answer answer (same_coded code x y) (h.0, h.1) (same_coded-decides code x y)

pub same_pattern-decides : (p q : Pattern) → Decides (same_pattern p q) (p ≡ q)
same_pattern-decides p q =
    let trees = same_coded-decides pattern_tree_code (pattern_of p) (pattern_of q) in
    (λ e. pattern_of-injective p q (trees.0 e), λ e. trees.1 (ap pattern_of e))

pub same_expr-decides : (e f : Expr) → Decides (same_expr e f) (e ≡ f)
same_expr-decides e f =
    let trees = same_coded-decides expr_tree_code (expr_of e) (expr_of f) in
    (λ h. expr_of-injective e f (trees.0 h), λ h. trees.1 (ap expr_of h))

pub same_let-decides : (d f : LetDef) → Decides (same_let d f) (d ≡ f)
same_let-decides d f =
    let trees = same_coded-decides let_trees_code (let_of d) (let_of f) in
    (λ e. let lists = lets_of-injective (d ∷ []) (f ∷ []) (trees.0 e) in cc, λ e. trees.1 (ap let_of e))

pub same_item-decides : (i j : KeptItem) → Decides (same_item i j) (i ≡ j)
same_item-decides i j =
    let trees = same_coded-decides item_tree_code (item_of i) (item_of j) in
    (λ e. item_of-injective i j (trees.0 e), λ e. trees.1 (ap item_of e))
