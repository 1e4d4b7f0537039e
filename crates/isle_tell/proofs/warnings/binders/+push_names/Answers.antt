use Rattle.std.proofs.lemmas.Result.{on_ok_weaker}
use Rattle.isle_ast.specs.Positions.Printable.{IsPrintablePos}
use Rattle.isle_ast.specs.Positions.DefPositions.{PatternAt}
use Rattle.isle_tell.proofs.WarningPlaces.{item_at, term_args_at, and_parts_at}
use Rattle.isle_tell.proofs.warnings.binders.+push_names.Goals as goal

pub push_all-loop-pattern-preserved : goal.push_all-loop-pattern-preserved
push_all-loop-pattern-preserved t c = λ files at names.
    c.in_ok-push_names.ensures files
    (item_at (PatternAt (IsPrintablePos files)) c.args.patterns.now c.loop-pattern.pattern-index c.pattern-item.result at c.loop-pattern-test.true
    c.pattern-item.is)
    (c.loop-pattern.invariant files at names)

pub push_names-returns-in-Term : goal.push_names-returns-in-Term
push_names-returns-in-Term t c = on_ok_weaker c.push_all.result
    (λ all files at names. let held = c.loop-at.invariant.placed files at names in
    all files (term_args_at (IsPrintablePos files) c.loop-at.at.now c.in-Term.sym c.in-Term.args c.in-Term.pos c.as_slice.result.now c.in-Term.is
    c.as_slice.ensures held.0) held.1)
    c.push_all.ensures

pub push_names-returns-in-And : goal.push_names-returns-in-And
push_names-returns-in-And t c = on_ok_weaker c.push_all-in-And.result
    (λ all files at names. let held = c.loop-at.invariant.placed files at names in
    all files (and_parts_at (IsPrintablePos files) c.loop-at.at.now c.in-And.subpats c.in-And.pos c.as_slice-in-And.result.now c.in-And.is
    c.as_slice-in-And.ensures held.0) held.1)
    c.push_all-in-And.ensures
