-- A recursion over S-expressions ends: those of a list are no larger than what holds them.
use Rattle.std.proofs.Common.{◌+◌, ◌*◌, ◌≤◌, List, [], ◌∷◌, arith}
use denote.Param.Weighed.{most}
use Rattle.isle_layout.specs.declared.sexpr.SExpr.{SExpr}
use Rattle.isle_layout.specs.declared.sexpr.BoxedSExpr.TheDeep.{size-SExpr}
use Rattle.isle_layout.specs.SExprTree.{sexpr_heights}
use Rattle.isle_layout.specs.SExprDecreases.{sexpr_decreases}
use Rattle.isle_layout.specs.SExprShape.{sexprs_of}

pub most_sexpr_size : (ps : List SExpr) → most (λ x. size-SExpr x) ps ≤ 2 * sexpr_heights (sexprs_of ps) + 1
most_sexpr_size [] = omega arith
most_sexpr_size (p ∷ ps) = omega (arith, sexpr_decreases p, most_sexpr_size ps)
