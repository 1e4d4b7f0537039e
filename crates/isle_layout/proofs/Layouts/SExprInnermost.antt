-- What holds of a chain of bindings follows from its names and its innermost pattern.
use Rattle.std.proofs.Common.{◌≡◌, ◌+◌, ◌*◌, ◌<◌, ◌≤◌, ℕ, List, [], ◌++◌, append_assoc, refl, sym, ap, ◌∙◌, arith, codes}
use Rattle.std.specs.Fmt.{char_count}
use denote.Param.Weighed.{most}
use Rattle.isle_layout.specs.declared.sexpr.SExpr.{SExpr}
use Rattle.isle_layout.specs.declared.sexpr.SExpr.TheVariants as sexpr
use Rattle.isle_layout.specs.declared.sexpr.BoxedSExpr.TheDeep.{size-SExpr}
use Rattle.isle_layout.specs.SExprTree.{SExprTree, SExprTrees, sexpr_atom, sexpr_binding, sexpr_list, sexpr_height, sexpr_heights}
use Rattle.isle_layout.specs.SExprShape.{sexpr_of, sexprs_of}
use Rattle.isle_layout.specs.Inside.SExprInnermost.{innermost, names_text}
use Rattle.isle_layout.specs.Layout.{one_line, one_line_length, layout, fits_of}
use Rattle.isle_layout.proofs.Layouts.Lengths.{char_count-append, count_none, count_at}
use Rattle.isle_layout.proofs.Layouts.SExprSizes.{most_sexpr_size}

innermost_height : (t : SExprTree) → sexpr_height (innermost t) ≤ sexpr_height t
innermost_height (sexpr_atom _) = omega arith
innermost_height (sexpr_binding _ t) = omega (arith, innermost_height t)
innermost_height (sexpr_list _) = omega arith

size_is : (s : SExpr) → size-SExpr s ≡ 2 * sexpr_height (sexpr_of s) + 1
size_is (sexpr.Atom _) = omega arith
size_is (sexpr.Binding _ _) = omega arith
size_is (sexpr.List _) = omega arith

-- the items of an innermost list are smaller than what is bound to it
pub items_below : (s q : SExpr) (items : SExprTrees) (ps : List SExpr) → sexpr_of q ≡ innermost (sexpr_of s) → q ≡ sexpr.List items
    → sexprs_of ps ≡ items → most (λ x. size-SExpr x) ps < size-SExpr s
items_below s q items ps e is below =
    let whole : size-SExpr q ≡ size-SExpr (sexpr.List items) = ap size-SExpr is in
    omega (arith, size_is s, size_is q, ap sexpr_height e, innermost_height (sexpr_of s), most_sexpr_size ps, ap sexpr_heights below)

-- an innermost S-expression has no names
innermost_alone : (t : SExprTree) (x : List ℕ) (below : SExprTree) → innermost t ≡ sexpr_binding x below → ⊥
innermost_alone (sexpr_atom _) x below e = cc
innermost_alone (sexpr_binding _ t) x below e = innermost_alone t x below e
innermost_alone (sexpr_list _) x below e = cc

pub innermost_is_no_binding : (s q : SExpr) (x : List ℕ) (below : SExprTree) → sexpr_of q ≡ innermost (sexpr_of s) → q ≡ sexpr.Binding x below → ⊥
innermost_is_no_binding s q x below e is =
    innermost_alone (sexpr_of s) x below (sym e ∙ ap sexpr_of is)

-- the text of a chain is its names' before its innermost part's
pub one_line_innermost : (t : SExprTree) → one_line t ≡ names_text t ++ one_line (innermost t)
one_line_innermost (sexpr_atom _) = refl
one_line_innermost (sexpr_binding x t) =
    ap (λ text. (x ++ codes " @ ") ++ text) (one_line_innermost t) ∙ sym (append_assoc (x ++ codes " @ ") _ _)
one_line_innermost (sexpr_list _) = refl

pub layout_innermost : (width indentation : ℕ) (t : SExprTree) → layout width indentation t ≡ names_text t ++ layout width indentation (innermost t)
layout_innermost width indentation (sexpr_atom _) = refl
layout_innermost width indentation (sexpr_binding x t) =
    ap (λ text. (x ++ codes " @ ") ++ text) (layout_innermost width indentation t) ∙ sym (append_assoc (x ++ codes " @ ") _ _)
layout_innermost width indentation (sexpr_list _) = refl

pub fits_innermost : (width : ℕ) (t : SExprTree) → fits_of width t ≡ fits_of width (innermost t)
fits_innermost width (sexpr_atom _) = refl
fits_innermost width (sexpr_binding x t) = fits_innermost width t
fits_innermost width (sexpr_list _) = refl

pub no_names : (s : SExpr) → ((x : List ℕ) (below : SExprTree) → s ≡ sexpr.Binding x below → ⊥) → names_text (sexpr_of s) ≡ []
no_names (sexpr.Atom _) other = refl
no_names (sexpr.Binding x below) other = absurd (other x below refl)
no_names (sexpr.List _) other = refl

-- a name that is passed has been counted
pub name_counted : (s q : SExpr) (n : ℕ) (x : List ℕ) (below : SExprTree) → s ≡ sexpr.Binding x below → sexpr_of q ≡ below
    → ((n + char_count x) + 3) + char_count (names_text (sexpr_of q)) ≡ n + char_count (names_text (sexpr_of s))
name_counted s q n x below is same =
    let whole : char_count (names_text (sexpr_of s)) ≡ char_count ((x ++ codes " @ ") ++ names_text below) =
    ap (λ (r : SExpr). char_count (names_text (sexpr_of r))) is in
    let rest : char_count (names_text (sexpr_of q)) ≡ char_count (names_text below) = ap (λ t. char_count (names_text t)) same in
    omega (arith, whole, rest, char_count-append (x ++ codes " @ ") (names_text below), char_count-append x (codes " @ "), count_at)

pub names_counted : (s : SExpr) → ((x : List ℕ) (below : SExprTree) → s ≡ sexpr.Binding x below → ⊥) → char_count (names_text (sexpr_of s)) ≡ 0
names_counted s other = ap char_count (no_names s other) ∙ count_none

-- a chain has the characters of its names and of its subject
pub chain_length : (t : SExprTree) → char_count (names_text t) + one_line_length (innermost t) ≡ one_line_length t
chain_length t =
    sym (ap char_count (one_line_innermost t) ∙ char_count-append (names_text t) (one_line (innermost t)))

-- after a chain's names its subject is written
pub one_line_written : (s q : SExpr) (before between : List ℕ) → sexpr_of q ≡ innermost (sexpr_of s) → between ≡ before ++ names_text (sexpr_of s)
    → between ++ one_line (sexpr_of q) ≡ before ++ one_line (sexpr_of s)
one_line_written s q before between same names =
    let rest = one_line (innermost (sexpr_of s)) in
    ap (λ t. between ++ one_line t) same ∙ ap (λ text. text ++ rest) names ∙ append_assoc before (names_text (sexpr_of s)) rest
    ∙ ap (λ text. before ++ text) (sym (one_line_innermost (sexpr_of s)))

pub layout_written : (width indentation : ℕ) (s q : SExpr) (before between : List ℕ) → sexpr_of q ≡ innermost (sexpr_of s)
    → between ≡ before ++ names_text (sexpr_of s) → between ++ layout width indentation (sexpr_of q) ≡ before ++ layout width indentation (sexpr_of s)
layout_written width indentation s q before between same names =
    let rest = layout width indentation (innermost (sexpr_of s)) in
    ap (λ t. between ++ layout width indentation t) same ∙ ap (λ text. text ++ rest) names ∙ append_assoc before (names_text (sexpr_of s)) rest
    ∙ ap (λ text. before ++ text) (sym (layout_innermost width indentation (sexpr_of s)))
