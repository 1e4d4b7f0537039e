use Rattle.std.proofs.Common.{◌≡◌, ◌+◌, ◌*◌, take}
use Rattle.isle_ast.proofs.ast.clone.+clone_pattern.Given as goal

abbrev pub decreases-PatternClone::clone : goal.decreases-PatternClone::clone
decreases-PatternClone::clone l = 3 * goal.size-PatternClone::clone l + 1

abbrev pub decreases-clone_innermost : goal.decreases-clone_innermost
decreases-clone_innermost l = 3 * goal.size-clone_innermost l

abbrev pub decreases-clone_patterns : goal.decreases-clone_patterns
decreases-clone_patterns l = 3 * goal.size-clone_patterns l + 2

abbrev pub invariant-clone_patterns-loop-pattern : goal.invariant-clone_patterns-loop-pattern
invariant-clone_patterns-loop-pattern l = l.all.items ≡ take l.pattern-index l.patterns
