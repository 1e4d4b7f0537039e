-- Whether two trees are the same, as a truth value.
use Rattle.std.specs.Prelude.{◌≡◌, Bool, true, false, ◌&&◌, ◌==◌, [], ◌∷◌}
use Rattle.std.proofs.Common.{refl, ap}
use Rattle.std.proofs.lemmas.Bool.Decides.{Decides-eqb}
use Rattle.std.specs.Bool.{Decides}
use Rattle.std.specs.Cmp.{IsEquivalence, decided, on_equiv}
use Rattle.std.specs.Cmp.Derive.{both_true}
use Rattle.std.specs.Ordering.{on}
use Rattle.std.specs.Coded.{Coded}
use base.Stored.{Gv, gnil, gnum, gcons}
use Rattle.isle_ast.specs.declared.ast.Pattern.{Pattern}
use Rattle.isle_ast.specs.declared.ast.Expr.{Expr}
use Rattle.isle_ast.specs.declared.ast.LetDef.{LetDef}
use Rattle.isle_ast.specs.declared.ast.KeptItem.{KeptItem}
use Rattle.isle_ast.specs.Trees.PatternCode.{pattern_tree_code}
use Rattle.isle_ast.specs.Trees.PatternShape.{pattern_of}
use Rattle.isle_ast.specs.Trees.ExprTree.{LetTrees}
use Rattle.isle_ast.specs.Trees.ExprCode.{expr_tree_code, let_trees_code}
use Rattle.isle_ast.specs.Trees.ExprShape.{expr_of, lets_of}
use Rattle.isle_ast.specs.Trees.ItemCode.{item_tree_code}
use Rattle.isle_ast.specs.Trees.ItemShape.{item_of}

-- whether two stored values are the same
pub same_stored : Gv → Gv → Bool
same_stored gnil gnil = true
same_stored gnil (gnum _) = false
same_stored gnil (gcons _ _) = false
same_stored (gnum _) gnil = false
same_stored (gnum m) (gnum n) = m == n
same_stored (gnum _) (gcons _ _) = false
same_stored (gcons _ _) gnil = false
same_stored (gcons _ _) (gnum _) = false
same_stored (gcons a b) (gcons c d) = same_stored a c && same_stored b d

both_parts : (s t : Bool) → (s && t) ≡ true → (s ≡ true) × (t ≡ true)
both_parts true true e = (refl, refl)
both_parts true false e = cc
both_parts false true e = cc
both_parts false false e = cc

same_stored-is : (a b : Gv) → same_stored a b ≡ true → a ≡ b
unfolding same_stored
same_stored-is gnil gnil e = refl
same_stored-is gnil (gnum n) e = cc
same_stored-is gnil (gcons c d) e = cc
same_stored-is (gnum m) gnil e = cc
same_stored-is (gnum m) (gnum n) e = ap gnum ((Decides-eqb m n).0 e)
same_stored-is (gnum m) (gcons c d) e = cc
same_stored-is (gcons a b) gnil e = cc
same_stored-is (gcons a b) (gnum n) e = cc
same_stored-is (gcons a b) (gcons c d) e =
    let parts = both_parts (same_stored a c) (same_stored b d) e in
    let first = same_stored-is a c parts.0 in
    let second = same_stored-is b d parts.1 in
    cc

same_stored-self : (a : Gv) → same_stored a a ≡ true
unfolding same_stored
same_stored-self gnil = refl
same_stored-self (gnum m) = (Decides-eqb m m).1 refl
same_stored-self (gcons a b) = both_true (same_stored-self a) (same_stored-self b)

-- whether two values that a proof tells apart are the same
pub same_coded : {A : Type 0} → Coded A → A → A → Bool
same_coded code x y = same_stored (code.code x) (code.code y)

pub same_coded-decides : {A : Type 0} (code : Coded A) (x y : A) → Decides (same_coded code x y) (x ≡ y)
unfolding same_coded
same_coded-decides code x y =
    (λ e. code.inj x y (same_stored-is (code.code x) (code.code y) e), λ e. rw e (same_stored-self (code.code y)))

pub same_coded-equiv : {A : Type 0} (code : Coded A) → IsEquivalence (same_coded code)
same_coded-equiv code = decided (same_coded code) (same_coded-decides code)

-- the one list of a single variable of a `let`
abbrev pub let_of : LetDef → LetTrees
let_of def = lets_of (def ∷ [])

-- whether two patterns, expressions, variables of a `let` or kept items have the same tree
abbrev pub same_pattern : Pattern → Pattern → Bool
same_pattern = on pattern_of (same_coded pattern_tree_code)

abbrev pub same_expr : Expr → Expr → Bool
same_expr = on expr_of (same_coded expr_tree_code)

abbrev pub same_let : LetDef → LetDef → Bool
same_let = on let_of (same_coded let_trees_code)

abbrev pub same_item : KeptItem → KeptItem → Bool
same_item = on item_of (same_coded item_tree_code)

pub same_pattern-equiv : IsEquivalence same_pattern
same_pattern-equiv = on_equiv pattern_of (same_coded-equiv pattern_tree_code)

pub same_expr-equiv : IsEquivalence same_expr
same_expr-equiv = on_equiv expr_of (same_coded-equiv expr_tree_code)

pub same_let-equiv : IsEquivalence same_let
same_let-equiv = on_equiv let_of (same_coded-equiv let_trees_code)

pub same_item-equiv : IsEquivalence same_item
same_item-equiv = on_equiv item_of (same_coded-equiv item_tree_code)
