use Rattle.std.proofs.Common.{◌≡◌, ◌+◌, ◌*◌, ◌≤◌, ◌∷◌, map, take}
use Rattle.isle_ast.specs.declared.ast.BoxedPattern.TheDeep.{size-Pattern}
use Rattle.isle_ast.specs.Trees.PatternShape.{pattern_of}
use Rattle.isle_layout.specs.SExprTree.{sexpr_atom}
use Rattle.isle_layout.specs.Spellings.{bound_sexpr, pattern_sexpr}
use Rattle.isle_layout.proofs.to_sexpr.patterns.+spell_pattern.Given as goal

abbrev pub decreases-spell_pattern : goal.decreases-spell_pattern
decreases-spell_pattern l = 3 * goal.size-spell_pattern l + 1

abbrev pub decreases-spell_innermost : goal.decreases-spell_innermost
decreases-spell_innermost l = 3 * goal.size-spell_innermost l

abbrev pub decreases-spell_patterns : goal.decreases-spell_patterns
decreases-spell_patterns l = 3 * goal.size-spell_patterns l + 2

abbrev pub invariant-spell_pattern-loop-at : goal.invariant-spell_pattern-loop-at
invariant-spell_pattern-loop-at l = record {
  spelt : bound_sexpr l.names.items (pattern_sexpr (pattern_of l.at)) ≡ pattern_sexpr (pattern_of l.pattern);
  no_larger : size-Pattern l.at ≤ size-Pattern l.pattern;
}

abbrev pub invariant-spell_patterns-loop-pattern : goal.invariant-spell_patterns-loop-pattern
invariant-spell_patterns-loop-pattern l =
    l.list ≡ sexpr_atom l.word ∷ map (λ p. pattern_sexpr (pattern_of p)) (take l.pattern-index l.patterns)
