use Rattle.std.proofs.Common.{◌≤◌}
use Rattle.isle_ast.specs.Trees.PatternTree.{pattern_height}
use Rattle.isle_ast.proofs.+drop_pattern.Given as goal

abbrev pub invariant-ast::BoxedPattern::drop-loop-subpat : goal.invariant-ast::BoxedPattern::drop-loop-subpat
invariant-ast::BoxedPattern::drop-loop-subpat l = pattern_height l.self ≤ pattern_height l.initial.self
