-- Worked cases: patterns put in for names, templates, and the order of positions and names.
use Rattle.std.proofs.Common.{◌≡◌, ℕ, pos, List, [], ◌∷◌, false, Some, None, refl, codes}
use Rattle.std.specs.declared.cmp.Ordering.TheVariants.{Less, Equal, Greater}
use Rattle.isle_ast.specs.declared.pos.Pos.{Pos}
use Rattle.isle_ast.specs.declared.ast.Ident.{Ident}
use Rattle.isle_ast.specs.Positions.Orders.{pos_cmp, ident_cmp}
use Rattle.isle_ast.specs.Trees.PatternTree.{PatternTree, pattern_var, pattern_bind, pattern_int, pattern_term, pattern_wildcard}
use Rattle.isle_ast.specs.Trees.PatternTree.{pattern_macro_arg, pattern_list}
use Rattle.isle_ast.specs.Trees.Substitution.{Assignment, substituted}
use Rattle.isle_ast.specs.Trees.Templates.{template_tree, filled}

abbrev at : ℕ → ℕ → Pos
at file offset = record { file = file; offset = offset }

abbrev here : Pos
here = at 0 0

abbrev name : List ℕ → Ident
name text = (text, here)

abbrev var : List ℕ → PatternTree
var text = pattern_var (name text) here

abbrev one : PatternTree
one = pattern_int (pos 1) false here

abbrev term : List PatternTree → PatternTree
term args = pattern_term (name (codes "f")) (pattern_list args) here

abbrev bind : List ℕ → PatternTree → PatternTree
bind text below = pattern_bind (name text) below here

abbrev any : PatternTree
any = pattern_wildcard here

-- 1 for x and x for y: what is put in isn't looked at again, a binding to a wildcard is a name, a name without a pattern stays
abbrev given : Assignment
given = (name (codes "x"), one) ∷ (name (codes "y"), var (codes "x")) ∷ []

put_in : substituted given (term (var (codes "x") ∷ bind (codes "y") any ∷ var (codes "z") ∷ []))
    ≡ term (one ∷ var (codes "x") ∷ var (codes "z") ∷ [])
put_in = refl

-- a binding to another pattern stays, with its inside put in
put_inside : substituted given (bind (codes "x") (term (var (codes "y") ∷ [])))
    ≡ bind (codes "x") (term (var (codes "x") ∷ []))
put_inside = refl

-- the first of two patterns for a name counts
first_counts : substituted ((name (codes "x"), any) ∷ given) (var (codes "x")) ≡ any
first_counts = refl

template_of : template_tree (name (codes "x") ∷ name (codes "y") ∷ []) (term (var (codes "y") ∷ var (codes "z") ∷ bind (codes "x") any ∷ []))
    ≡ term (pattern_macro_arg 1 here ∷ var (codes "z") ∷ pattern_macro_arg 0 here ∷ [])
template_of = refl

filled_with_one : filled (one ∷ []) (term (pattern_macro_arg 0 here ∷ any ∷ [])) ≡ Some (term (one ∷ any ∷ []))
filled_with_one = refl

filled_with_none : filled [] (term (pattern_macro_arg 0 here ∷ any ∷ [])) ≡ None
filled_with_none = refl

-- the file counts first, then the offset
next_file_is_later : pos_cmp (at 0 9) (at 1 2) ≡ Less
next_file_is_later = refl

later_offset_is_later : pos_cmp (at 1 9) (at 1 2) ≡ Greater
later_offset_is_later = refl

-- a text counts by its bytes, a prefix comes first, and the position counts last
capitals_come_first : ident_cmp (codes "B", at 1 1) (codes "a", here) ≡ Less
capitals_come_first = refl

prefix_comes_first : ident_cmp (codes "ab", here) (codes "a", at 1 1) ≡ Greater
prefix_comes_first = refl

position_counts_last : ident_cmp (codes "a", at 0 3) (codes "a", at 0 4) ≡ Less
position_counts_last = refl

same_is_level : ident_cmp (codes "a", here) (codes "a", here) ≡ Equal
same_is_level = refl
