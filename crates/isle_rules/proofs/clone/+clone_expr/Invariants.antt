use Rattle.std.proofs.Common.{◌≡◌, take}
use Rattle.isle_rules.proofs.clone.+clone_expr.Given as goal

abbrev pub invariant-clone_exprs-loop-expr : goal.invariant-clone_exprs-loop-expr
invariant-clone_exprs-loop-expr l = l.all.items ≡ take l.expr-index l.exprs

abbrev pub invariant-clone_bindings-loop-var : goal.invariant-clone_bindings-loop-var
invariant-clone_bindings-loop-var l = l.all.items ≡ take l.var-index l.bindings
