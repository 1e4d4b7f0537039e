use Rattle.std.proofs.Common.{◌≡◌, length}
use Rattle.isle_ast.specs.Trees.PatternShape.{pattern_of}
use Rattle.isle_ast.specs.Trees.Chain.{bound}
use Rattle.isle_ast.proofs.ast.wrap.wrap.Given as goal

abbrev pub invariant-names : goal.invariant-names
invariant-names l = bound l.names.items (pattern_of l.pattern) ≡ bound l.initial.names.items (pattern_of l.initial.pattern)

abbrev pub decreases-names : goal.decreases-names
decreases-names l = length l.names.items
