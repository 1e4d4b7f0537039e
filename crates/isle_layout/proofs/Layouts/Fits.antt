-- Which lists fit on one line: of a list those of its items, and its items are left from one place on.
use Rattle.std.proofs.Common.{◌≡◌, ◌+◌, ◌<◌, ◌≤◌, ℕ, List, [], ◌∷◌, ◌++◌, length, get_or, take, drop, drop-cons, drop_of_length-le, add-one, append_assoc, refl, sym, ap, ◌∙◌}
use Rattle.std.proofs.Common.{arith, suc, Some, None, Bool, true, false, if◌then◌else◌, Option, is_some, nat_le, nat_lt, ◌||◌}
use Rattle.std.proofs.Math.Seq.{take-append_seam}
use Rattle.std.proofs.lemmas.List.{append-nil}
use Rattle.std.proofs.lemmas.Bool.Decides.{nat_tests}
use Rattle.isle_layout.specs.SExprTree.{sexpr_list}
use Rattle.isle_layout.specs.declared.sexpr.SExpr.{SExpr}
use Rattle.isle_layout.specs.SExprShape.{sexpr_of, sexprs_of}
use Rattle.isle_layout.specs.Layout.{one_line_length, are_few, fits_of, fits_of_all, within}
use Rattle.isle_layout.proofs.Layouts.Lengths.{lengths}

-- those from one place on are a first one and those after it
pub listed : (ps : List SExpr) (i : ℕ) (p : SExpr) → i < length ps → p ≡ get_or ps i p → drop i ps ≡ p ∷ drop (i + 1) ps
listed ps i p low is = rw add-one (drop-cons ps i p low ∙ ap (λ x. x ∷ drop (suc i) ps) (sym is))

-- one item more is counted
pub length_more : (ps : List SExpr) (i : ℕ) (p : SExpr) (n total : ℕ) → i < length ps → p ≡ get_or ps i p
    → n + lengths (sexprs_of (drop i ps)) ≡ total → (n + one_line_length (sexpr_of p)) + lengths (sexprs_of (drop (i + 1) ps)) ≡ total
length_more ps i p n total low is so_far =
    omega (arith, so_far, ap (λ qs. lengths (sexprs_of qs)) (listed ps i p low is))

-- the length of all items is the list's
pub all_counted : (width : ℕ) (found : Option ℕ) (ps : List SExpr) (i n : ℕ) → length ps ≤ i → found ≡ within width n
    → n + lengths (sexprs_of (drop i ps)) ≡ one_line_length (sexpr_list (sexprs_of ps))
    → found ≡ within width (one_line_length (sexpr_list (sexprs_of ps)))
all_counted width found ps i n high is so_far =
    let none : lengths (sexprs_of (drop i ps)) ≡ 0 = ap (λ qs. lengths (sexprs_of qs)) (drop_of_length-le ps {i = i} high) in
    let all : n ≡ one_line_length (sexpr_list (sexprs_of ps)) = omega arith in
    is ∙ ap (within width) all

-- what fits of one item is pushed
pub fits_more : (width : ℕ) (ps : List SExpr) (i : ℕ) (p : SExpr) (before after total : List Bool) → i < length ps → p ≡ get_or ps i p
    → before ++ fits_of_all width (sexprs_of (drop i ps)) ≡ total → after ≡ before ++ fits_of width (sexpr_of p)
    → after ++ fits_of_all width (sexprs_of (drop (i + 1) ps)) ≡ total
fits_more width ps i p before after total low is so_far pushed =
    let rest = fits_of_all width (sexprs_of (drop (i + 1) ps)) in
    let split = ap (λ qs. before ++ fits_of_all width (sexprs_of qs)) (listed ps i p low is) in
    ap (λ ms. ms ++ rest) pushed ∙ append_assoc before (fits_of width (sexpr_of p)) rest ∙ sym split ∙ so_far

-- what fits of all items stands behind the mark of the list that doesn't
pub all_marked : (width : ℕ) (ps : List SExpr) (i : ℕ) (old before after : List Bool) → length ps ≤ i → before ≡ old ++ false ∷ []
    → after ++ fits_of_all width (sexprs_of (drop i ps)) ≡ before ++ fits_of_all width (sexprs_of ps)
    → after ≡ old ++ false ∷ fits_of_all width (sexprs_of ps)
all_marked width ps i old before after high start marked =
    let all = fits_of_all width (sexprs_of ps) in
    let none = ap (λ qs. after ++ fits_of_all width (sexprs_of qs)) (drop_of_length-le ps {i = i} high) ∙ append-nil after in
    sym none ∙ marked ∙ ap (λ ms. ms ++ all) start ∙ append_assoc old (false ∷ []) all

-- and is taken back
pub truncated : (at : ℕ) (old after below : List Bool) → at ≡ length old → after ≡ old ++ below → take at after ≡ old
truncated at old after below is marks =
    ap (λ n. take n after) is ∙ ap (take (length old)) marks ∙ take-append_seam old below

is_some-within : (width n : ℕ) → is_some (within width n) ≡ nat_le n width
is_some-within width n = elim (nat_le n width) as (λ b. is_some (if b then Some n else None) ≡ b) [ true ↦ refl | false ↦ refl ]

few : (ps : List SExpr) → are_few (sexprs_of ps) ≡ nat_lt (length ps) 2
few [] = refl
few (p ∷ []) = refl
few (p ∷ q ∷ ps) = grind (arith, nat_tests)

pub stays_by_length : (width : ℕ) (found : Option ℕ) (ps : List SExpr) (n : ℕ) → found ≡ within width n
    → (is_some found || nat_lt (length ps) 2) ≡ (nat_le n width || are_few (sexprs_of ps))
stays_by_length width found ps n is = rw (is, is_some-within, few) refl

-- that of a list comes before those below it
pub first_fit : (on_one_line : Bool) (below rest : List Bool)
    → (if on_one_line then true ∷ [] else false ∷ below) ++ rest ≡ on_one_line ∷ ((if on_one_line then [] else below) ++ rest)
first_fit true below rest = refl
first_fit false below rest = refl
