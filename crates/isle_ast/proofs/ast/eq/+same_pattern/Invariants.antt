use Rattle.std.proofs.Common.{◌≡◌, ◌+◌, ◌*◌, map, take}
use Rattle.isle_ast.specs.Trees.PatternShape.{pattern_of}
use Rattle.isle_ast.proofs.ast.eq.+same_pattern.Given as goal

abbrev pub decreases-is_same_pattern : goal.decreases-is_same_pattern
decreases-is_same_pattern l = 3 * goal.size-is_same_pattern l + 1

abbrev pub decreases-is_same_innermost : goal.decreases-is_same_innermost
decreases-is_same_innermost l = 3 * goal.size-is_same_innermost l

abbrev pub decreases-are_same_patterns : goal.decreases-are_same_patterns
decreases-are_same_patterns l = 3 * goal.size-are_same_patterns l + 2

abbrev pub invariant-are_same_patterns-loop-i : goal.invariant-are_same_patterns-loop-i
invariant-are_same_patterns-loop-i l = map pattern_of (take l.i l.a) ≡ map pattern_of (take l.i l.b)
