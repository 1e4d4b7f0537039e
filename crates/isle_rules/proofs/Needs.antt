-- How many arguments a template needs.
use Rattle.std.proofs.Common.{◌≡◌, refl, sym, ap, ◌∙◌}
use Rattle.isle_ast.specs.Trees.PatternTree.{PatternTree, pattern_var, pattern_bind, pattern_bool, pattern_int, pattern_prim}
use Rattle.isle_ast.specs.Trees.PatternTree.{pattern_term, pattern_wildcard, pattern_and, pattern_macro_arg}
use Rattle.isle_ast.specs.declared.ast.Pattern.{Pattern}
use Rattle.isle_ast.specs.Trees.PatternShape.{pattern_of}
use Rattle.isle_ast.specs.Inside.Trees.Innermost.{innermost}
use Rattle.isle_rules.specs.Readings.Needs.{needed}

-- a chain of bindings needs what its innermost pattern needs
pub innermost_needed : (t : PatternTree) → needed t ≡ needed (innermost t)
innermost_needed (pattern_var _ _) = refl
innermost_needed (pattern_bind _ below _) = innermost_needed below
innermost_needed (pattern_bool _ _) = refl
innermost_needed (pattern_int _ _ _) = refl
innermost_needed (pattern_prim _ _) = refl
innermost_needed (pattern_term _ _ _) = refl
innermost_needed (pattern_wildcard _) = refl
innermost_needed (pattern_and _ _) = refl
innermost_needed (pattern_macro_arg _ _) = refl

-- a template needs what its innermost one needs
pub needed_below : (p q : Pattern) → pattern_of q ≡ innermost (pattern_of p) → needed (pattern_of p) ≡ needed (pattern_of q)
needed_below p q is = innermost_needed (pattern_of p) ∙ ap needed (sym is)
