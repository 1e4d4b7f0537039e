use Rattle.std.proofs.Common.{◌∙◌, ap, sym, subst}
use Rattle.std.proofs.lemmas.List.Elements.{All-same}
use Rattle.isle_ast.specs.Positions.Printable.{IsPrintablePos}
use Rattle.isle_ast.specs.Positions.DefPositions.{IdentAt}
use Rattle.isle_tell.specs.Inside.Warnings.{WarningAt}
use Rattle.isle_tell.proofs.WarningPlaces.{item_at, pushed_at}
use Rattle.isle_tell.proofs.warnings.extractors.warn_of_args.Goals as goal
use Rattle.isle_tell.proofs.warnings.extractors.warn_of_args.Goals.{then-not-is_silent+then-not-contains+in_ok-unused+in_ok-push, else-not-is_silent}

pub loop-arg-preserved : goal.loop-arg-preserved
loop-arg-preserved c = λ files args found.
    let before = c.loop-arg.invariant files args found in
    let here = item_at (IdentAt (IsPrintablePos files)) c.args.args.now c.loop-arg.arg-index c.arg-item.result args
    c.loop-arg-test.true c.arg-item.is in
    elim c.if-not-is_silent.branch [
      | then-not-is_silent+then-not-contains+in_ok-unused+in_ok-push w ↦ pushed_at (WarningAt (IsPrintablePos files)) _ _ _
          (ap (λ v. v.items) w.found-is ∙ w.in_ok-push.ensures.items) before (subst (IsPrintablePos files) (sym w.in_ok-unused.ensures) here)
      | else-not-is_silent w ↦ All-same (WarningAt (IsPrintablePos files)) _ _ (ap (λ v. v.items) w.found-is) before
    ]
