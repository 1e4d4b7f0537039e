use Rattle.std.proofs.Common.{◌≡◌, ◌++◌}
use Rattle.isle_ast.specs.Trees.PatternShape.{pattern_of}
use Rattle.isle_ast.specs.Inside.Trees.Innermost.{names_bound}
use Rattle.isle_ast.proofs.ast.Pattern.names_bound.Given as goal

abbrev pub invariant-loop-at : goal.invariant-loop-at
invariant-loop-at l = l.names.items ++ names_bound (pattern_of l.at) ≡ names_bound (pattern_of l.self)
