-- A template of a chain, filled, is the chain around its filled innermost pattern; the template of a chain changes it only inside.
use Rattle.std.proofs.Common.{◌≡◌, List, [], ◌∷◌, false, Option, Some, None, refl, sym, ap, ◌∙◌}
use Rattle.std.specs.Option.{option_map}
use Rattle.isle_ast.specs.declared.pos.Pos.{Pos}
use Rattle.isle_ast.specs.declared.ast.Ident.{Ident}
use Rattle.isle_ast.specs.Trees.PatternTree.{PatternTree, pattern_var, pattern_bind, pattern_bool, pattern_int, pattern_prim, pattern_term}
use Rattle.isle_ast.specs.Trees.PatternTree.{pattern_wildcard, pattern_and, pattern_macro_arg}
use Rattle.isle_ast.specs.Trees.Chain.{bound}
use Rattle.isle_ast.specs.Inside.Trees.Innermost.{innermost, names_bound}
use Rattle.isle_ast.specs.Trees.Templates.{is_wildcard, template_tree, filled}

unbound : (o : Option PatternTree) → o ≡ option_map (bound []) o
unbound None = refl
unbound (Some t) = refl

once_more : (x : Ident) (p : Pos) (xs : List (Ident × Pos)) (o : Option PatternTree)
    → option_map (λ t. pattern_bind x t p) (option_map (bound xs) o) ≡ option_map (bound ((x, p) ∷ xs)) o
once_more x p xs None = refl
once_more x p xs (Some t) = refl

-- a chain that is filled is the chain of the same names around its filled innermost pattern
pub filled_chain : (given : List PatternTree) (t : PatternTree) → filled given t ≡ option_map (bound (names_bound t)) (filled given (innermost t))
filled_chain given (pattern_var x p) = unbound (filled given (pattern_var x p))
filled_chain given (pattern_bind x t p) =
    ap (option_map (λ s. pattern_bind x s p)) (filled_chain given t) ∙ once_more x p (names_bound t) (filled given (innermost t))
filled_chain given (pattern_bool b p) = unbound (filled given (pattern_bool b p))
filled_chain given (pattern_int n big p) = unbound (filled given (pattern_int n big p))
filled_chain given (pattern_prim x p) = unbound (filled given (pattern_prim x p))
filled_chain given (pattern_term f ts p) = unbound (filled given (pattern_term f ts p))
filled_chain given (pattern_wildcard p) = unbound (filled given (pattern_wildcard p))
filled_chain given (pattern_and ts p) = unbound (filled given (pattern_and ts p))
filled_chain given (pattern_macro_arg k p) = unbound (filled given (pattern_macro_arg k p))

-- what the filled innermost pattern `o` gives for the whole chain `t`
pub chain_filled : (given : List PatternTree) (t s : PatternTree) (o : Option PatternTree) → o ≡ filled given s → s ≡ innermost t
    → option_map (bound (names_bound t)) o ≡ filled given t
chain_filled given t s o made below =
    ap (option_map (bound (names_bound t))) (made ∙ ap (filled given) below) ∙ sym (filled_chain given t)

-- the template of a binding to a pattern that is no wildcard is a binding to its template
pub template_inside : (names : List Ident) (x : Ident) (below t : PatternTree) (p : Pos) → is_wildcard below ≡ false → t ≡ below
    → pattern_bind x (template_tree names t) p ≡ template_tree names (pattern_bind x below p)
template_inside names x below t p other same =
    rw other (ap (λ s. pattern_bind x (template_tree names s) p) same)
