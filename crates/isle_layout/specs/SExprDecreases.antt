-- Children are lower than their S-expression.
use Rattle.std.specs.Prelude.{◌≤◌, List, [], ◌∷◌}
use Rattle.std.proofs.Common.{arith}
use denote.Param.Weighed.{most}
use Rattle.isle_layout.specs.declared.sexpr.SExpr.{SExpr}
use Rattle.isle_layout.specs.declared.sexpr.SExpr.TheVariants.{Atom, Binding, List as Nested}
use Rattle.isle_layout.specs.declared.sexpr.BoxedSExpr.TheDeep.{deep-SExpr}
use Rattle.isle_layout.specs.SExprTree.{sexpr_height, sexpr_heights}
use Rattle.isle_layout.specs.SExprShape.{sexpr_of, sexprs_of}

pub sexpr_decreases : (p : SExpr) → deep-SExpr p ≤ sexpr_height (sexpr_of p)
sexpr_decreases (Atom a) = omega arith
sexpr_decreases (Binding x t) = omega arith
sexpr_decreases (Nested ts) = omega arith

pub sexprs_decrease : (ps : List SExpr) → most deep-SExpr ps ≤ sexpr_heights (sexprs_of ps)
sexprs_decrease [] = omega arith
sexprs_decrease (p ∷ ps) = omega (arith, sexpr_decreases p, sexprs_decrease ps)
