-- The S-expressions of the first trees of a list, one by one, are those of the list where none is left.
use Rattle.std.proofs.Common.{◌≡◌, ◌+◌, ◌<◌, ◌≤◌, ℕ, zero, suc, List, [], ◌∷◌, ◌++◌, length, map, take, get_or, add-one, append_assoc, refl, sym, ap, ◌∙◌, arith}
use Rattle.std.proofs.Math.Seq.{take-suc}
use Rattle.std.proofs.lemmas.List.{map-append}
use Rattle.isle_ast.specs.declared.ast.Pattern.{Pattern}
use Rattle.isle_ast.specs.declared.ast.Expr.{Expr}
use Rattle.isle_ast.specs.declared.ast.LetDef.{LetDef}
use Rattle.isle_ast.specs.declared.ast.KeptItem.{KeptItem}
use Rattle.isle_ast.specs.Trees.PatternShape.{pattern_of, patterns_of}
use Rattle.isle_ast.specs.Trees.ExprShape.{expr_of, exprs_of, lets_of}
use Rattle.isle_ast.specs.Trees.ItemShape.{item_of, items_of}
use Rattle.isle_layout.specs.SExprTree.{SExprTree, sexpr_binding}
use Rattle.isle_layout.specs.Spellings.{bound_sexpr, pattern_sexpr, pattern_sexprs, expr_sexpr, expr_sexprs, let_sexprs, let_def_sexpr, item_sexpr}
use Rattle.isle_layout.specs.Spellings.{item_sexprs}

pub pattern_sexprs_taken : (n : ℕ) (ps : List Pattern) → length ps ≤ n
    → map (λ p. pattern_sexpr (pattern_of p)) (take n ps) ≡ pattern_sexprs (patterns_of ps)
pattern_sexprs_taken zero [] l = refl
pattern_sexprs_taken (suc n) [] l = refl
pattern_sexprs_taken zero (p ∷ ps) l = absurd (omega arith)
pattern_sexprs_taken (suc n) (p ∷ ps) l =
    ap (λ ts. pattern_sexpr (pattern_of p) ∷ ts) (pattern_sexprs_taken n ps (omega arith))

pub expr_sexprs_taken : (n : ℕ) (es : List Expr) → length es ≤ n → map (λ e. expr_sexpr (expr_of e)) (take n es) ≡ expr_sexprs (exprs_of es)
expr_sexprs_taken zero [] l = refl
expr_sexprs_taken (suc n) [] l = refl
expr_sexprs_taken zero (e ∷ es) l = absurd (omega arith)
expr_sexprs_taken (suc n) (e ∷ es) l =
    ap (λ ts. expr_sexpr (expr_of e) ∷ ts) (expr_sexprs_taken n es (omega arith))

pub let_sexprs_taken : (n : ℕ) (ds : List LetDef) → length ds ≤ n → map let_def_sexpr (take n ds) ≡ let_sexprs (lets_of ds)
let_sexprs_taken zero [] l = refl
let_sexprs_taken (suc n) [] l = refl
let_sexprs_taken zero (d ∷ ds) l = absurd (omega arith)
let_sexprs_taken (suc n) (d ∷ ds) l =
    ap (λ ts. let_def_sexpr d ∷ ts) (let_sexprs_taken n ds (omega arith))

pub item_sexprs_taken : (n : ℕ) (is : List KeptItem) → length is ≤ n → map (λ i. item_sexpr (item_of i)) (take n is) ≡ item_sexprs (items_of is)
item_sexprs_taken zero [] l = refl
item_sexprs_taken (suc n) [] l = refl
item_sexprs_taken zero (i ∷ is) l = absurd (omega arith)
item_sexprs_taken (suc n) (i ∷ is) l =
    ap (λ ts. item_sexpr (item_of i) ∷ ts) (item_sexprs_taken n is (omega arith))

-- one tree more is spelt, behind those before the row
pub mapped_more : {X : Type 0} (head : List SExprTree) (spelling : X → SExprTree) (xs : List X) (i : ℕ) (x : X)
    (before : List SExprTree) (here : SExprTree) (after : List SExprTree)
    → i < length xs → x ≡ get_or xs i x → before ≡ head ++ map spelling (take i xs) → here ≡ spelling x → after ≡ before ++ here ∷ []
    → after ≡ head ++ map spelling (take (i + 1) xs)
mapped_more head spelling xs i x before here after low is so_far spelt more =
    let done = map spelling (take i xs) in
    let first : take (i + 1) xs ≡ take i xs ++ x ∷ [] = rw add-one (take-suc xs i x low ∙ ap (λ y. take i xs ++ y ∷ []) (sym is)) in
    more ∙ ap (λ ts. ts ++ here ∷ []) so_far ∙ append_assoc head done (here ∷ []) ∙ ap (λ t. head ++ (done ++ t ∷ [])) spelt
    ∙ ap (λ ts. head ++ ts) (sym (map-append spelling (take i xs) (x ∷ [])) ∙ ap (map spelling) (sym first))

-- one name more is bound inside the others
bound_sexpr-append : (xs : List (List ℕ)) (x : List ℕ) (t : SExprTree) → bound_sexpr (xs ++ x ∷ []) t ≡ bound_sexpr xs (sexpr_binding x t)
bound_sexpr-append [] x t = refl
bound_sexpr-append (y ∷ xs) x t = ap (sexpr_binding y) (bound_sexpr-append xs x t)

pub bound_sexpr_pushed : (xs ys : List (List ℕ)) (x : List ℕ) (t : SExprTree) → ys ≡ xs ++ x ∷ []
    → bound_sexpr ys t ≡ bound_sexpr xs (sexpr_binding x t)
bound_sexpr_pushed xs ys x t e = ap (λ zs. bound_sexpr zs t) e ∙ bound_sexpr-append xs x t
