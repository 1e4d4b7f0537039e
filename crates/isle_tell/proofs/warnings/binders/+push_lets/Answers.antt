use Rattle.std.proofs.lemmas.Result.{on_ok_weaker}
use Rattle.isle_ast.specs.Positions.Printable.{IsPrintablePos}
use Rattle.isle_ast.specs.Positions.DefPositions.{IdentAt, ExprAt, LetDefAt}
use Rattle.isle_tell.proofs.WarningPlaces.{item_at, pushed_at, call_args_at, let_defs_at, let_body_at}
use Rattle.isle_tell.proofs.warnings.binders.+push_lets.Goals as goal

pub push_lets-returns-in-Term : goal.push_lets-returns-in-Term
push_lets-returns-in-Term t c = on_ok_weaker c.push_lets_of_all.result
    (λ all files at. all files (call_args_at (IsPrintablePos files) c.args.expr.now c.in-Term.sym c.in-Term.args c.in-Term.pos c.as_slice.result.now
    c.in-Term.is c.as_slice.ensures at))
    c.push_lets_of_all.ensures

pub push_lets-returns-in_ok-push_variables-in-Let : goal.push_lets-returns-in_ok-push_variables-in-Let
push_lets-returns-in_ok-push_variables-in-Let t c = on_ok_weaker c.push_lets.result
    (λ all files at lets. all files
    (let_body_at (IsPrintablePos files) c.args.expr.now c.in-Let.defs c.in-Let.body c.in-Let.pos c.get.result.now c.in-Let.is c.get.ensures at)
    (c.in_ok-push_variables-in-Let.ensures files
    (let_defs_at (IsPrintablePos files) c.args.expr.now c.in-Let.defs c.in-Let.body c.in-Let.pos c.as_slice-in-Let.result.now c.in-Let.is
    c.as_slice-in-Let.ensures at)
    lets))
    c.push_lets.ensures

pub push_lets_of_all-loop-expr-preserved : goal.push_lets_of_all-loop-expr-preserved
push_lets_of_all-loop-expr-preserved t c = λ files at lets.
    c.in_ok-push_lets.ensures files
    (item_at (ExprAt (IsPrintablePos files)) c.args.exprs.now c.loop-expr.expr-index c.expr-item.result at c.loop-expr-test.true c.expr-item.is)
    (c.loop-expr.invariant files at lets)

pub push_variables-loop-def-preserved : goal.push_variables-loop-def-preserved
push_variables-loop-def-preserved t c = λ files at lets.
    let here = item_at (LetDefAt (IsPrintablePos files)) c.args.defs.now c.loop-def.def-index c.def-item.result at
    c.loop-def-test.true c.def-item.is in
    pushed_at (λ name. IdentAt (IsPrintablePos files) name.now) _ _ _ c.in_ok-push.ensures.items
    (c.in_ok-push_lets.ensures files here.val (c.loop-def.invariant files at lets)) here.var
