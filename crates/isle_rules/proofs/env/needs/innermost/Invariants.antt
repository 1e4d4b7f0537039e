use Rattle.std.proofs.Common.{◌≡◌}
use Rattle.isle_ast.specs.Trees.PatternShape.{pattern_of}
use Rattle.isle_ast.specs.Inside.Trees.Innermost.{innermost}
use Rattle.isle_rules.proofs.env.needs.innermost.Given as goal

abbrev pub invariant-loop-at : goal.invariant-loop-at
invariant-loop-at l = innermost (pattern_of l.at) ≡ innermost (pattern_of l.template)
