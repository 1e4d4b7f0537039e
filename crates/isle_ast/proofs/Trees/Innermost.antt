-- What holds of a chain of bindings follows from its names and its innermost pattern.
use Rattle.std.proofs.Common.{◌≡◌, ◌+◌, ◌*◌, ◌<◌, ◌≤◌, List, [], ◌∷◌, ◌++◌, append_assoc, refl, sym, ap, ◌∙◌, arith}
use denote.Param.Weighed.{most}
use Rattle.isle_ast.specs.declared.pos.Pos.{Pos}
use Rattle.isle_ast.specs.declared.ast.Ident.{Ident}
use Rattle.isle_ast.specs.declared.ast.Pattern.{Pattern}
use Rattle.isle_ast.specs.declared.ast.Pattern.TheVariants as pattern
use Rattle.isle_ast.specs.declared.ast.BoxedPattern.TheDeep.{size-Pattern}
use Rattle.isle_ast.specs.Trees.PatternTree.{PatternTree, PatternTrees, pattern_var, pattern_bind, pattern_bool, pattern_int, pattern_prim}
use Rattle.isle_ast.specs.Trees.PatternTree.{pattern_term, pattern_wildcard, pattern_and, pattern_macro_arg, pattern_height, pattern_heights}
use Rattle.isle_ast.specs.Trees.PatternShape.{pattern_of, patterns_of}
use Rattle.isle_ast.specs.Trees.TreeCalls.{has_macro_arg}
use Rattle.isle_ast.specs.Trees.Terms.{pattern_terms}
use Rattle.isle_ast.specs.Trees.Chain.{bound}
use Rattle.isle_ast.specs.Inside.Trees.Innermost.{innermost, names_bound}
use Rattle.isle_ast.proofs.Trees.Chains.{bound-append}
use Rattle.isle_ast.proofs.Trees.PatternSizes.{most_pattern_size}
use Rattle.isle_ast.proofs.Trees.TreeShapes.{pattern_of-injective}

pub innermost_height : (t : PatternTree) → pattern_height (innermost t) ≤ pattern_height t
innermost_height (pattern_var x p) = omega arith
innermost_height (pattern_bind x t p) = omega (arith, innermost_height t)
innermost_height (pattern_bool b p) = omega arith
innermost_height (pattern_int n big p) = omega arith
innermost_height (pattern_prim x p) = omega arith
innermost_height (pattern_term f ts p) = omega arith
innermost_height (pattern_wildcard p) = omega arith
innermost_height (pattern_and ts p) = omega arith
innermost_height (pattern_macro_arg k p) = omega arith

size_is : (p : Pattern) → size-Pattern p ≡ 2 * pattern_height (pattern_of p) + 1
size_is (pattern.Var x p) = omega arith
size_is (pattern.BindPattern x t p) = omega arith
size_is (pattern.ConstBool b p) = omega arith
size_is (pattern.ConstInt n big p) = omega arith
size_is (pattern.ConstPrim x p) = omega arith
size_is (pattern.Term f ts p) = omega arith
size_is (pattern.Wildcard p) = omega arith
size_is (pattern.And ts p) = omega arith
size_is (pattern.MacroArg k p) = omega arith

-- an innermost pattern is no larger than what is bound to it
pub innermost_size : (p q : Pattern) → pattern_of q ≡ innermost (pattern_of p) → size-Pattern q ≤ size-Pattern p
innermost_size p q e =
    omega (arith, size_is p, size_is q, ap pattern_height e, innermost_height (pattern_of p))

-- an innermost pattern binds no name
pub innermost_alone : (t : PatternTree) → names_bound (innermost t) ≡ []
innermost_alone (pattern_var _ _) = refl
innermost_alone (pattern_bind _ t _) = innermost_alone t
innermost_alone (pattern_bool _ _) = refl
innermost_alone (pattern_int _ _ _) = refl
innermost_alone (pattern_prim _ _) = refl
innermost_alone (pattern_term _ _ _) = refl
innermost_alone (pattern_wildcard _) = refl
innermost_alone (pattern_and _ _) = refl
innermost_alone (pattern_macro_arg _ _) = refl

pub innermost_is_no_binding : (t : PatternTree) (x : Ident) (below : PatternTree) (p : Pos) → innermost t ≡ pattern_bind x below p → ⊥
innermost_is_no_binding t x below p e =
    let none = innermost_alone t in let some = ap names_bound e in cc

-- what a binding has from the pattern that it binds, a chain has from its innermost pattern
as_innermost : {A : Type 0} (f : PatternTree → A) → ((x : Ident) (t : PatternTree) (p : Pos) → f (pattern_bind x t p) ≡ f t) → (t : PatternTree)
    → f t ≡ f (innermost t)
as_innermost f through (pattern_var _ _) = refl
as_innermost f through (pattern_bind x t p) = through x t p ∙ as_innermost f through t
as_innermost f through (pattern_bool _ _) = refl
as_innermost f through (pattern_int _ _ _) = refl
as_innermost f through (pattern_prim _ _) = refl
as_innermost f through (pattern_term _ _ _) = refl
as_innermost f through (pattern_wildcard _) = refl
as_innermost f through (pattern_and _ _) = refl
as_innermost f through (pattern_macro_arg _ _) = refl

-- a numbered argument occurs in a chain where one occurs in its innermost pattern
pub innermost_macro_arg : (t : PatternTree) → has_macro_arg t ≡ has_macro_arg (innermost t)
innermost_macro_arg t = as_innermost has_macro_arg (λ x s p. refl) t

-- the terms of a chain are those of its innermost pattern
pub innermost_terms : (t : PatternTree) → pattern_terms t ≡ pattern_terms (innermost t)
innermost_terms t = as_innermost pattern_terms (λ x s p. refl) t

-- the patterns below an innermost one are smaller than what is bound to it
pub args_below : (p q : Pattern) (f : Ident) (args : PatternTrees) (pos : Pos) (ps : List Pattern) → pattern_of q ≡ innermost (pattern_of p)
    → q ≡ pattern.Term f args pos → patterns_of ps ≡ args → most (λ x. size-Pattern x) ps < size-Pattern p
args_below p q f args pos ps e is below =
    let whole : size-Pattern q ≡ size-Pattern (pattern.Term f args pos) = ap size-Pattern is in
    omega (arith, innermost_size p q e, most_pattern_size ps, ap pattern_heights below)

pub subpats_below : (p q : Pattern) (args : PatternTrees) (pos : Pos) (ps : List Pattern) → pattern_of q ≡ innermost (pattern_of p)
    → q ≡ pattern.And args pos → patterns_of ps ≡ args → most (λ x. size-Pattern x) ps < size-Pattern p
subpats_below p q args pos ps e is below =
    let whole : size-Pattern q ≡ size-Pattern (pattern.And args pos) = ap size-Pattern is in
    omega (arith, innermost_size p q e, most_pattern_size ps, ap pattern_heights below)

-- a pattern is its innermost one with its names around it
pub bound_innermost : (t : PatternTree) → bound (names_bound t) (innermost t) ≡ t
bound_innermost (pattern_var _ _) = refl
bound_innermost (pattern_bind x t p) = ap (λ s. pattern_bind x s p) (bound_innermost t)
bound_innermost (pattern_bool _ _) = refl
bound_innermost (pattern_int _ _ _) = refl
bound_innermost (pattern_prim _ _) = refl
bound_innermost (pattern_term _ _ _) = refl
bound_innermost (pattern_wildcard _) = refl
bound_innermost (pattern_and _ _) = refl
bound_innermost (pattern_macro_arg _ _) = refl

-- chains of the same names are the same where their innermost patterns are
pub same_where_innermost : (s t : PatternTree) → names_bound s ≡ names_bound t → innermost s ≡ innermost t → s ≡ t
same_where_innermost s t names same =
    sym (bound_innermost s) ∙ ap (λ xs. bound xs (innermost s)) names ∙ ap (bound (names_bound t)) same ∙ bound_innermost t

-- a name that is taken from a chain is the next one bound
pub names_pushed : (xs ys : List (Ident × Pos)) (x : Ident) (p : Pos) (below t : PatternTree) → t ≡ below → ys ≡ xs ++ (x, p) ∷ []
    → ys ++ names_bound t ≡ xs ++ names_bound (pattern_bind x below p)
names_pushed xs ys x p below t same pushed =
    ap (λ s. ys ++ names_bound s) same ∙ ap (λ zs. zs ++ names_bound below) pushed ∙ append_assoc xs ((x, p) ∷ []) (names_bound below)

-- a pattern's innermost one with its names around it is the pattern
pub cloned_chain : (p q r : Pattern) (names : List (Ident × Pos)) → pattern_of q ≡ bound names (pattern_of r) → names ≡ names_bound (pattern_of p)
    → pattern_of r ≡ innermost (pattern_of p) → q ≡ p
cloned_chain p q r names whole named below =
    pattern_of-injective q p (whole ∙ ap (λ xs. bound xs (pattern_of r)) named ∙ ap (bound (names_bound (pattern_of p))) below
    ∙ bound_innermost (pattern_of p))

-- what a binding binds is smaller
pub bound_size : (p q : Pattern) (x : Ident) (t : PatternTree) (pos : Pos) → p ≡ pattern.BindPattern x t pos → pattern_of q ≡ t
    → size-Pattern q ≤ size-Pattern p
bound_size p q x t pos is same =
    let whole : size-Pattern p ≡ size-Pattern (pattern.BindPattern x t pos) = ap size-Pattern is in
    omega (arith, size_is q, ap pattern_height same)

-- one name more is bound inside the others
pub bound_pushed : (xs ys : List (Ident × Pos)) (x : Ident) (p : Pos) (t : PatternTree) → ys ≡ xs ++ (x, p) ∷ []
    → bound ys t ≡ bound xs (pattern_bind x t p)
bound_pushed xs ys x p t pushed =
    ap (λ zs. bound zs t) pushed ∙ bound-append xs ((x, p) ∷ []) t

pub binds_nothing : (p : Pattern) → ((x : Ident) (t : PatternTree) (pos : Pos) → p ≡ pattern.BindPattern x t pos → ⊥)
    → names_bound (pattern_of p) ≡ []
binds_nothing (pattern.Var _ _) other = refl
binds_nothing (pattern.BindPattern x t pos) other = absurd (other x t pos refl)
binds_nothing (pattern.ConstBool _ _) other = refl
binds_nothing (pattern.ConstInt _ _ _) other = refl
binds_nothing (pattern.ConstPrim _ _) other = refl
binds_nothing (pattern.Term _ _ _) other = refl
binds_nothing (pattern.Wildcard _) other = refl
binds_nothing (pattern.And _ _) other = refl
binds_nothing (pattern.MacroArg _ _) other = refl

-- what goes down a chain to what it binds falls
pub ruleset chain_ends = (innermost_size, innermost_alone)
