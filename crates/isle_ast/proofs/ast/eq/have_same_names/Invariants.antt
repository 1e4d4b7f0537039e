use Rattle.std.proofs.Common.{◌≡◌, ◌↔◌}
use Rattle.isle_ast.specs.Trees.PatternShape.{pattern_of}
use Rattle.isle_ast.specs.Inside.Trees.Innermost.{names_bound}
use Rattle.isle_ast.proofs.ast.eq.have_same_names.Given as goal

abbrev pub invariant-loop-s : goal.invariant-loop-s
invariant-loop-s l =
    (names_bound (pattern_of l.s) ≡ names_bound (pattern_of l.t)) ↔ (names_bound (pattern_of l.a) ≡ names_bound (pattern_of l.b))
