-- A list is written on one line or on several, as `fit` says.
use Rattle.std.proofs.Common.{◌≡◌, ◌+◌, ◌<◌, ◌≤◌, ℕ, List, [], ◌∷◌, ◌++◌, ◌⊎◌, codes, length, get_or, replicate, drop, drop_of_length-le}
use Rattle.std.proofs.Common.{append_assoc, Bool, true, false, if◌then◌else◌, sym, ap, ◌∙◌}
use Rattle.std.proofs.lemmas.List.{replicate-append-replicate}
use Rattle.isle_layout.specs.declared.sexpr.SExpr.{SExpr}
use Rattle.isle_layout.specs.declared.sexpr.SExpr.TheVariants as sexpr
use Rattle.isle_layout.specs.SExprTree.{SExprTrees, sexpr_list}
use Rattle.isle_layout.specs.SExprShape.{sexpr_of, sexprs_of}
use Rattle.isle_layout.specs.Inside.SExprInnermost.{innermost}
use Rattle.isle_layout.specs.Layout.{stays_on_one_line, one_line, line, joined, layout, layouts, broken, fits_of, fits_of_all}
use Rattle.isle_layout.proofs.Layouts.Joined.{rest_joined, joined_more, all_joined}
use Rattle.isle_layout.proofs.Layouts.Fits.{listed, first_fit}
use Rattle.isle_layout.proofs.Layouts.SExprInnermost.{fits_innermost}

-- The innermost part of a chain is a list, and `fit` was taken of `old`, which leaves `left`.
module _ (width indentation : ℕ) (s q : SExpr) (items : SExprTrees) (is : q ≡ sexpr.List items) (same : sexpr_of q ≡ innermost (sexpr_of s))
    (old left rest : List Bool) (fit : Bool) (taken : (m : Bool) (r : List Bool) → old ≡ m ∷ r
    → (fit ≡ m) × (left ≡ r)) (fits : old ≡ fits_of width (sexpr_of s) ++ rest) where
  next : (fit ≡ stays_on_one_line width items) × (left ≡ (if stays_on_one_line width items then [] else fits_of_all width items) ++ rest)
  next =
      let list = fits_innermost width (sexpr_of s) ∙ ap (fits_of width) (sym same ∙ ap sexpr_of is) in
      taken (stays_on_one_line width items) _ (fits ∙ ap (λ ms. ms ++ rest) list
      ∙ first_fit (stays_on_one_line width items) (fits_of_all width items) rest)

  laid_out : layout width indentation (sexpr_of q)
      ≡ (if fit then one_line (sexpr_list items) else broken indentation (layouts width (indentation + 4) items))
  laid_out =
      ap (λ r. layout width indentation (sexpr_of r)) is
      ∙ ap (λ m. if m then one_line (sexpr_list items) else broken indentation (layouts width (indentation + 4) items)) (sym next.0)

  left_over : left ≡ (if fit then [] else fits_of_all width items) ++ rest
  left_over =
      next.1 ∙ ap (λ m. (if m then [] else fits_of_all width items) ++ rest) (sym next.0)

  pub on_one_line : fit ≡ true → (layout width indentation (sexpr_of q) ≡ one_line (sexpr_list items)) × (left ≡ rest)
  on_one_line h = (
    laid_out ∙ ap (λ m. if m then one_line (sexpr_list items) else broken indentation (layouts width (indentation + 4) items)) h,
    left_over
        ∙ ap (λ m. (if m then [] else fits_of_all width items) ++ rest) h,
  )

  pub on_lines : fit ≡ false → (layout width indentation (sexpr_of q) ≡ broken indentation (layouts width (indentation + 4) items))
      × (left ≡ fits_of_all width items ++ rest)
  on_lines h = (
    laid_out ∙ ap (λ m. if m then one_line (sexpr_list items) else broken indentation (layouts width (indentation + 4) items)) h,
    left_over
        ∙ ap (λ m. (if m then [] else fits_of_all width items) ++ rest) h,
  )

-- one item more is written, after a line break where it isn't the first
pub item_written : (width inner : ℕ) (ps : List SExpr) (i : ℕ) (p : SExpr) (out between after start : List ℕ) → i < length ps → p ≡ get_or ps i p
    → out ++ rest_joined i (line inner) (layouts width inner (sexprs_of (drop i ps))) ≡ start
    → ((i ≡ 0) × (between ≡ out)) ⊎ ((0 < i) × (between ≡ out ++ line inner)) → after ≡ between ++ layout width inner (sexpr_of p)
    → after ++ rest_joined (i + 1) (line inner) (layouts width inner (sexprs_of (drop (i + 1) ps))) ≡ start
item_written width inner ps i p out between after start low is so_far place written =
    let first = layout width inner (sexpr_of p) in
    let split = ap (λ qs. out ++ rest_joined i (line inner) (layouts width inner (sexprs_of qs))) (listed ps i p low is) in
    joined_more i (line inner) first (layouts width inner (sexprs_of (drop (i + 1) ps))) out between after place written ∙ sym split ∙ so_far

-- its own come first
pub item_fits : (width : ℕ) (ps : List SExpr) (i : ℕ) (p : SExpr) (old rest : List Bool) → i < length ps → p ≡ get_or ps i p
    → old ≡ fits_of_all width (sexprs_of (drop i ps)) ++ rest
    → old ≡ fits_of width (sexpr_of p) ++ (fits_of_all width (sexprs_of (drop (i + 1) ps)) ++ rest)
item_fits width ps i p old rest low is fits =
    fits ∙ ap (λ qs. fits_of_all width (sexprs_of qs) ++ rest) (listed ps i p low is)
    ∙ append_assoc (fits_of width (sexpr_of p)) (fits_of_all width (sexprs_of (drop (i + 1) ps))) rest

-- the margin of an item has four spaces more
pub wider_margin : (indentation : ℕ) (margin wider : List ℕ) → wider ≡ margin ++ codes "    " → margin ≡ replicate indentation 32
    → wider ≡ replicate (indentation + 4) 32
wider_margin indentation margin wider more spaces =
    more ∙ ap (λ m. m ++ codes "    ") spaces ∙ replicate-append-replicate indentation 4 32

regrouped : (a b c d e : List ℕ) → (((a ++ b) ++ c) ++ d) ++ e ≡ a ++ (((b ++ c) ++ d) ++ e)
regrouped a b c d e = simp append_assoc

-- a list's items are all written, and then its end
pub list_written : (width indentation : ℕ) (ps : List SExpr) (i : ℕ) (old opened written ended : List ℕ) → length ps ≤ i → opened ≡ old ++ codes "("
    → written ++ rest_joined i (line (indentation + 4)) (layouts width (indentation + 4) (sexprs_of (drop i ps))) ≡ opened
    ++ joined (line (indentation + 4)) (layouts width (indentation + 4) (sexprs_of ps)) → ended ≡ written ++ line indentation
    → ended ++ codes ")" ≡ old ++ broken indentation (layouts width (indentation + 4) (sexprs_of ps))
list_written width indentation ps i old opened written ended low start so_far end =
    let none = drop_of_length-le ps {i = i} low in
    let last = ap (λ qs. written ++ rest_joined i (line (indentation + 4)) (layouts width (indentation + 4) (sexprs_of qs))) none
    ∙ all_joined i (line (indentation + 4)) written in
    let items = joined (line (indentation + 4)) (layouts width (indentation + 4) (sexprs_of ps)) in
    let all : written ≡ (old ++ codes "(") ++ items = sym last ∙ so_far ∙ ap (λ text. text ++ items) start in
    ap (λ text. text ++ codes ")") end ∙ ap (λ text. (text ++ line indentation) ++ codes ")") all
    ∙ regrouped old (codes "(") items (line indentation) (codes ")")
