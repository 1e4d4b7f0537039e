use Rattle.std.proofs.Common.{◌≡◌, take}
use Rattle.isle_ast.proofs.ast.clone.+clone_expr.Given as goal

abbrev pub invariant-clone_exprs-loop-expr : goal.invariant-clone_exprs-loop-expr
invariant-clone_exprs-loop-expr l = l.all.items ≡ take l.expr-index l.exprs

abbrev pub invariant-clone_defs-loop-def : goal.invariant-clone_defs-loop-def
invariant-clone_defs-loop-def l = l.all.items ≡ take l.def-index l.defs
