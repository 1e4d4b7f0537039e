-- Children are lower than their pattern.
use Rattle.std.specs.Prelude.{◌≤◌, List, [], ◌∷◌}
use Rattle.std.proofs.Common.{arith}
use denote.Param.Weighed.{most}
use Rattle.isle_ast.specs.declared.ast.Pattern.{Pattern}
use Rattle.isle_ast.specs.declared.ast.Pattern.TheVariants.{Var, BindPattern, ConstBool, ConstInt, ConstPrim, Term, Wildcard, And, MacroArg}
use Rattle.isle_ast.specs.declared.ast.BoxedPattern.TheDeep.{deep-Pattern}
use Rattle.isle_ast.specs.Trees.PatternTree.{pattern_height, pattern_heights}
use Rattle.isle_ast.specs.Trees.PatternShape.{pattern_of, patterns_of}

pub pattern_decreases : (p : Pattern) → deep-Pattern p ≤ pattern_height (pattern_of p)
pattern_decreases (Var x p) = omega arith
pattern_decreases (BindPattern x t p) = omega arith
pattern_decreases (ConstBool b p) = omega arith
pattern_decreases (ConstInt n big p) = omega arith
pattern_decreases (ConstPrim x p) = omega arith
pattern_decreases (Term f ts p) = omega arith
pattern_decreases (Wildcard p) = omega arith
pattern_decreases (And ts p) = omega arith
pattern_decreases (MacroArg k p) = omega arith

pub patterns_decrease : (ps : List Pattern) → most deep-Pattern ps ≤ pattern_heights (patterns_of ps)
patterns_decrease [] = omega arith
patterns_decrease (p ∷ ps) = omega (arith, pattern_decreases p, patterns_decrease ps)
