use Rattle.std.proofs.Common.{◌≡◌, ◌≤◌, drop}
use Rattle.isle_ast.specs.Trees.PatternTree.{pattern_height}
use Rattle.isle_ast.specs.Trees.PatternShape.{pattern_of, patterns_of}
use Rattle.isle_layout.specs.Writable.{writable_pattern, writable_patterns}
use Rattle.isle_layout.proofs.writable.+writable_pattern.Given as goal

abbrev pub invariant-writable_pattern-loop-at : goal.invariant-writable_pattern-loop-at
invariant-writable_pattern-loop-at l =
    (writable_pattern (pattern_of l.at) ≡ writable_pattern (pattern_of l.pattern))
    × (pattern_height (pattern_of l.at) ≤ pattern_height (pattern_of l.pattern))

abbrev pub invariant-writable_patterns-loop-pattern : goal.invariant-writable_patterns-loop-pattern
invariant-writable_patterns-loop-pattern l =
    writable_patterns (patterns_of (drop l.pattern-index l.patterns)) ≡ writable_patterns (patterns_of l.patterns)
