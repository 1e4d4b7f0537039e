use Rattle.std.proofs.Common.{◌∙◌, ap}
use Rattle.std.proofs.lemmas.List.Elements.{All-same}
use Rattle.isle_ast.specs.Positions.Printable.{IsPrintablePos}
use Rattle.isle_tell.specs.Inside.Warnings.{NameAt, WarningAt}
use Rattle.isle_tell.proofs.WarningPlaces.{item_at}
use Rattle.isle_tell.proofs.warnings.variables.warn_of_data.Goals as goal
use Rattle.isle_tell.proofs.warnings.variables.warn_of_data.Goals.{then-not-is_new+in_ok-clone-2+in_ok-insert, then-not-is_new-via-then-not-is_new}
use Rattle.isle_tell.proofs.warnings.variables.warn_of_data.Goals.{then-not-is_new-via-else-not-is_new+in_ok-warn_of_bare+then-branch}
use Rattle.isle_tell.proofs.warnings.variables.warn_of_data.Goals.{else-not-is_new+in_ok-warn_of_bare+else-branch}

pub loop-name-preserved : goal.loop-name-preserved
loop-name-preserved c = λ files names found.
    let before = c.loop-name.invariant files names found in
    let here = item_at (NameAt (IsPrintablePos files)) c.args.names.now c.loop-name.name-index c.name-item.result names
    c.loop-name-test.true c.name-item.is in
    elim c.if-not-is_new.branch [
      | then-not-is_new+in_ok-clone-2+in_ok-insert w ↦ elim w.then-not-is_new.branch [
        | then-not-is_new-via-then-not-is_new w' ↦
            All-same (WarningAt (IsPrintablePos files)) _ _ (ap (λ v. v.items) (w.found-is ∙ w'.found-is)) before
        | then-not-is_new-via-else-not-is_new+in_ok-warn_of_bare+then-branch w' ↦
            All-same (WarningAt (IsPrintablePos files)) _ _ (ap (λ v. v.items) (w.found-is ∙ w'.found-is))
            (w'.in_ok-warn_of_bare.ensures files here before)
      ]
      | else-not-is_new+in_ok-warn_of_bare+else-branch w ↦ All-same (WarningAt (IsPrintablePos files)) _ _ (ap (λ v. v.items) w.found-is)
          (w.in_ok-warn_of_bare.ensures files here before)
    ]
