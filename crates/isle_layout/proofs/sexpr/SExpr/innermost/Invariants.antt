use Rattle.std.proofs.Common.{◌≡◌}
use Rattle.isle_layout.specs.SExprShape.{sexpr_of}
use Rattle.isle_layout.specs.Inside.SExprInnermost.{innermost}
use Rattle.isle_layout.proofs.sexpr.SExpr.innermost.Given as goal

abbrev pub invariant-loop-at : goal.invariant-loop-at
invariant-loop-at l = innermost (sexpr_of l.at) ≡ innermost (sexpr_of l.self)
