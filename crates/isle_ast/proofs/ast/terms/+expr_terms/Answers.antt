use Rattle.std.proofs.Common.{refl, add-one}
use Rattle.isle_ast.specs.Trees.ExprShape.{expr_of, exprs_of, lets_of}
use Rattle.isle_ast.specs.Trees.Terms.{expr_terms, exprs_terms, lets_terms, CalledAtTerm}
use Rattle.isle_ast.specs.declared.ast.LetDef.{LetDef}
use Rattle.isle_ast.proofs.Trees.Terms.{joined, called_more}
use Rattle.isle_ast.proofs.ast.terms.+expr_terms.Goals as goal

pub hand_exprs-loop-expr-preserved : goal.hand_exprs-loop-expr-preserved
hand_exprs-loop-expr-preserved g t c = record {
  callable = c.hand_expr.ensures.callable;
  called =
      rw add-one (called_more (CalledAtTerm g.F.FnMut) (λ e. expr_terms (expr_of e)) (λ es. exprs_terms (exprs_of es)) refl (λ e es. refl)
      c.args.exprs.now c.loop-expr.expr-index c.expr-item.result _ _ _ c.loop-expr-test.true c.expr-item.is c.loop-expr.invariant.called
      c.hand_expr.ensures.called);
}

pub hand_lets-loop-def-preserved : goal.hand_lets-loop-def-preserved
hand_lets-loop-def-preserved g t c = record {
  callable = c.hand_expr.ensures.callable;
  called =
      rw add-one (called_more (CalledAtTerm g.F.FnMut) (λ (d : LetDef). expr_terms (expr_of d.val)) (λ ds. lets_terms (lets_of ds)) refl
      (λ d ds. refl) c.args.defs.now c.loop-def.def-index c.def-item.result _ _ _ c.loop-def-test.true c.def-item.is c.loop-def.invariant.called
      c.hand_expr.ensures.called);
}

pub hand_expr-returns-in-Let-clause-called : goal.hand_expr-returns-in-Let-clause-called
hand_expr-returns-in-Let-clause-called g t c =
    let values = rw c.as_slice-in-Let.ensures at c.hand_lets.ensures.called in
    let body = rw c.get.ensures at c.hand_expr.ensures.called in
    rw c.in-Let.is (joined (CalledAtTerm g.F.FnMut) (lets_terms c.in-Let.defs) (expr_terms c.in-Let.body) _ _ _ values body)
