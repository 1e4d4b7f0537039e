use Rattle.std.proofs.Common.{◌↔◌, ◌≤◌, drop}
use Rattle.isle_ast.specs.Trees.ExprShape.{exprs_of, lets_of}
use Rattle.isle_layout.specs.Nesting.{expr_nestings, let_nestings}
use Rattle.isle_layout.proofs.nesting.+expr_fits.Given as goal

abbrev pub invariant-exprs_fit-loop-expr : goal.invariant-exprs_fit-loop-expr
invariant-exprs_fit-loop-expr l =
    (expr_nestings (exprs_of (drop l.expr-index l.exprs)) ≤ l.depth_left) ↔ (expr_nestings (exprs_of l.exprs) ≤ l.depth_left)

abbrev pub invariant-lets_fit-loop-def : goal.invariant-lets_fit-loop-def
invariant-lets_fit-loop-def l =
    (let_nestings (lets_of (drop l.def-index l.defs)) ≤ l.depth_left) ↔ (let_nestings (lets_of l.defs) ≤ l.depth_left)
