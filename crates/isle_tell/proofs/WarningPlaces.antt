-- Where the parts of definitions stand that warnings are of.
use Rattle.std.proofs.Common.{◌≡◌, ◌<◌, ◌∷◌, ◌++◌, [], ℕ, List, length, get_or, sym, subst}
use Rattle.std.specs.List.{All}
use Rattle.std.proofs.lemmas.List.Elements.{All-same, All-append, All-cons, All-nil}
use Rattle.isle_ast.specs.declared.pos.Pos.{Pos}
use Rattle.isle_ast.specs.declared.ast.Ident.{Ident}
use Rattle.isle_ast.specs.declared.ast.LetDef.{LetDef}
use Rattle.isle_ast.specs.declared.ast.Pattern.{Pattern}
use Rattle.isle_ast.specs.declared.ast.Pattern.TheVariants.{Term as term_pattern, And as and_pattern}
use Rattle.isle_ast.specs.declared.ast.Expr.{Expr}
use Rattle.isle_ast.specs.declared.ast.Expr.TheVariants.{Term as term_expr, Let as let_expr}
use Rattle.isle_ast.specs.Positions.DefPositions.{PatternAt, PatternTreesAt, ExprAt, ExprTreesAt, ExprTreeAt, LetDefAt, LetTreesAt}
use Rattle.isle_ast.specs.Trees.PatternTree.{PatternTrees}
use Rattle.isle_ast.specs.Trees.PatternShape.{patterns_of}
use Rattle.isle_ast.specs.Trees.ExprTree.{ExprTree, ExprTrees, LetTrees}
use Rattle.isle_ast.specs.Trees.ExprShape.{expr_of, exprs_of, lets_of}
use Rattle.isle_ast.proofs.Positions.TreePositions.{patterns_at_each, exprs_at_each, lets_at_each}

-- what holds of each item holds of one
pub item_at : {X : Type 0} (P : X → Type 0) (xs : List X) (i : ℕ) (x : X) → All P xs → i < length xs → x ≡ get_or xs i x → P x
item_at P xs i x all within is = subst P (sym is) (all i x within)

-- and of one item more
pub pushed_at : {X : Type 0} (P : X → Type 0) (xs ys : List X) (x : X) → ys ≡ xs ++ x ∷ [] → All P xs → P x → All P ys
pushed_at P xs ys x same all here = All-same P _ _ same (All-append P xs (x ∷ []) all (All-cons P x [] here (All-nil P)))

-- the arguments of a term's pattern
pub term_args_at : (At : Pos → Type 0) (p : Pattern) (f : Ident) (args : PatternTrees) (pos : Pos) (ps : List Pattern)
    → p ≡ term_pattern f args pos → patterns_of ps ≡ args → PatternAt At p → All (PatternAt At) ps
term_args_at At p f args pos ps is same at =
    let below : PatternAt At (term_pattern f args pos) = subst (PatternAt At) is at in
    patterns_at_each At ps (subst (PatternTreesAt At) (sym same) below.1)

-- the patterns of an `and`
pub and_parts_at : (At : Pos → Type 0) (p : Pattern) (args : PatternTrees) (pos : Pos) (ps : List Pattern)
    → p ≡ and_pattern args pos → patterns_of ps ≡ args → PatternAt At p → All (PatternAt At) ps
and_parts_at At p args pos ps is same at =
    let below : PatternAt At (and_pattern args pos) = subst (PatternAt At) is at in
    patterns_at_each At ps (subst (PatternTreesAt At) (sym same) below.0)

-- the arguments of a call
pub call_args_at : (At : Pos → Type 0) (e : Expr) (f : Ident) (args : ExprTrees) (pos : Pos) (es : List Expr)
    → e ≡ term_expr f args pos → exprs_of es ≡ args → ExprAt At e → All (ExprAt At) es
call_args_at At e f args pos es is same at =
    let below : ExprAt At (term_expr f args pos) = subst (ExprAt At) is at in
    exprs_at_each At es (subst (ExprTreesAt At) (sym same) below.1)

-- the variables of a `let`
pub let_defs_at : (At : Pos → Type 0) (e : Expr) (defs : LetTrees) (body : ExprTree) (pos : Pos) (ds : List LetDef)
    → e ≡ let_expr defs body pos → lets_of ds ≡ defs → ExprAt At e → All (LetDefAt At) ds
let_defs_at At e defs body pos ds is same at =
    let below : ExprAt At (let_expr defs body pos) = subst (ExprAt At) is at in
    lets_at_each At ds (subst (LetTreesAt At) (sym same) below.0)

-- and its body
pub let_body_at : (At : Pos → Type 0) (e : Expr) (defs : LetTrees) (body : ExprTree) (pos : Pos) (b : Expr)
    → e ≡ let_expr defs body pos → expr_of b ≡ body → ExprAt At e → ExprAt At b
let_body_at At e defs body pos b is same at =
    let below : ExprAt At (let_expr defs body pos) = subst (ExprAt At) is at in
    subst (ExprTreeAt At) (sym same) below.1
