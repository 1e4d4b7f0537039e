use Rattle.std.proofs.Common.{◌≡◌, length}
use Rattle.isle_layout.specs.SExprShape.{sexpr_of}
use Rattle.isle_layout.specs.Spellings.{bound_sexpr}
use Rattle.isle_layout.proofs.to_sexpr.patterns.bind.Given as goal

abbrev pub invariant-names : goal.invariant-names
invariant-names l = bound_sexpr l.names.items (sexpr_of l.sexpr) ≡ bound_sexpr l.initial.names.items (sexpr_of l.initial.sexpr)

abbrev pub decreases-names : goal.decreases-names
decreases-names l = length l.names.items
