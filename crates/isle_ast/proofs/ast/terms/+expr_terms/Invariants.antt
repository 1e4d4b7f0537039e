use Rattle.std.proofs.Common.{take}
use Rattle.std.specs.List.{FoldsTo}
use Rattle.isle_ast.specs.Trees.ExprShape.{exprs_of, lets_of}
use Rattle.isle_ast.specs.Trees.Terms.{exprs_terms, lets_terms, CalledAtTerm}
use Rattle.isle_ast.proofs.ast.terms.+expr_terms.Given as goal

abbrev pub invariant-hand_exprs-loop-expr : goal.invariant-hand_exprs-loop-expr
invariant-hand_exprs-loop-expr g l = record {
  callable : goal.F-IsAlwaysCallable g l.f;
  called : FoldsTo (CalledAtTerm g.F.FnMut) l.initial.f (exprs_terms (exprs_of (take l.expr-index l.exprs))) l.f;
}

abbrev pub invariant-hand_lets-loop-def : goal.invariant-hand_lets-loop-def
invariant-hand_lets-loop-def g l = record {
  callable : goal.F-IsAlwaysCallable g l.f;
  called : FoldsTo (CalledAtTerm g.F.FnMut) l.initial.f (lets_terms (lets_of (take l.def-index l.defs))) l.f;
}
