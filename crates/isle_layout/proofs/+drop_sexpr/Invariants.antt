use Rattle.std.proofs.Common.{◌≤◌}
use Rattle.isle_layout.specs.SExprTree.{sexpr_height}
use Rattle.isle_layout.proofs.+drop_sexpr.Given as goal

abbrev pub invariant-sexpr::BoxedSExpr::drop-loop-inner : goal.invariant-sexpr::BoxedSExpr::drop-loop-inner
invariant-sexpr::BoxedSExpr::drop-loop-inner l = sexpr_height l.self ≤ sexpr_height l.initial.self
