use Rattle.std.proofs.Common.{◌≡◌, ◌+◌, ◌*◌, ◌≤◌, map}
use Rattle.isle_ast.specs.declared.ast.BoxedPattern.TheDeep.{size-Pattern}
use Rattle.isle_ast.specs.Trees.PatternShape.{pattern_of}
use Rattle.isle_ast.specs.Trees.Chain.{bound}
use Rattle.isle_ast.specs.Trees.WithoutPos.{pattern_tree_without_pos}
use Rattle.isle_syntax.proofs.without_pos.+pattern_positions.Given as goal

abbrev pub decreases-clear_pattern : goal.decreases-clear_pattern
decreases-clear_pattern l = 3 * goal.size-clear_pattern l + 1

abbrev pub decreases-clear_innermost : goal.decreases-clear_innermost
decreases-clear_innermost l = 3 * goal.size-clear_innermost l

abbrev pub decreases-clear_patterns : goal.decreases-clear_patterns
decreases-clear_patterns l = 3 * goal.size-clear_patterns l + 2

abbrev pub invariant-clear_pattern-loop-at : goal.invariant-clear_pattern-loop-at
invariant-clear_pattern-loop-at l = record {
  cleared : bound l.names.items (pattern_tree_without_pos (pattern_of l.at)) ≡ pattern_tree_without_pos (pattern_of l.initial.at);
  no_larger : size-Pattern l.at ≤ size-Pattern l.initial.at;
}

abbrev pub invariant-clear_patterns-loop-pattern : goal.invariant-clear_patterns-loop-pattern
invariant-clear_patterns-loop-pattern l = map pattern_of l.all.items ≡ map (λ x. pattern_tree_without_pos (pattern_of x)) l.yielded
