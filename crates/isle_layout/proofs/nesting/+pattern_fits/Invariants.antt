use Rattle.std.proofs.Common.{◌↔◌, ◌≡◌, ◌≤◌, drop}
use Rattle.isle_ast.specs.Trees.PatternTree.{pattern_height}
use Rattle.isle_ast.specs.Trees.PatternShape.{pattern_of, patterns_of}
use Rattle.isle_layout.specs.Nesting.{pattern_nesting, pattern_nestings}
use Rattle.isle_layout.proofs.nesting.+pattern_fits.Given as goal

abbrev pub invariant-pattern_fits-loop-at : goal.invariant-pattern_fits-loop-at
invariant-pattern_fits-loop-at l =
    (pattern_nesting (pattern_of l.at) ≡ pattern_nesting (pattern_of l.pattern))
    × (pattern_height (pattern_of l.at) ≤ pattern_height (pattern_of l.pattern))

abbrev pub invariant-patterns_fit-loop-pattern : goal.invariant-patterns_fit-loop-pattern
invariant-patterns_fit-loop-pattern l =
    (pattern_nestings (patterns_of (drop l.pattern-index l.patterns)) ≤ l.depth_left) ↔ (pattern_nestings (patterns_of l.patterns) ≤ l.depth_left)
