-- A recursion over patterns ends: those of a list are no larger than what holds them.
use Rattle.std.proofs.Common.{◌+◌, ◌*◌, ◌≤◌, List, [], ◌∷◌, arith}
use denote.Param.Weighed.{most}
use Rattle.isle_ast.specs.declared.ast.Pattern.{Pattern}
use Rattle.isle_ast.specs.declared.ast.BoxedPattern.TheDeep.{size-Pattern}
use Rattle.isle_ast.specs.Trees.PatternTree.{pattern_heights}
use Rattle.isle_ast.specs.Trees.PatternDecreases.{pattern_decreases}
use Rattle.isle_ast.specs.Trees.PatternShape.{patterns_of}

pub most_pattern_size : (ps : List Pattern) → most (λ x. size-Pattern x) ps ≤ 2 * pattern_heights (patterns_of ps) + 1
most_pattern_size [] = omega arith
most_pattern_size (p ∷ ps) = omega (arith, pattern_decreases p, most_pattern_size ps)
