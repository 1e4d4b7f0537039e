use Rattle.std.proofs.Common.{ap}
use Rattle.std.proofs.lemmas.List.Elements.{All-same}
use Rattle.isle_ast.specs.Positions.Printable.{IsPrintablePos}
use Rattle.isle_tell.specs.Inside.Warnings.{NameAt, WarningAt}
use Rattle.isle_tell.proofs.WarningPlaces.{item_at}
use Rattle.isle_tell.proofs.warnings.extractors.warn_of_captures.Goals as goal
use Rattle.isle_tell.proofs.warnings.extractors.warn_of_captures.Goals.{then-branch+in_ok-warn_of_bare, else-branch}

pub loop-name-preserved : goal.loop-name-preserved
loop-name-preserved c = λ files names found.
    let before = c.loop-name.invariant files names found in
    let here = item_at (NameAt (IsPrintablePos files)) c.args.names.now c.loop-name.name-index c.name-item.result names
    c.loop-name-test.true c.name-item.is in
    elim c.if-branch.branch [
      | then-branch+in_ok-warn_of_bare w ↦ All-same (WarningAt (IsPrintablePos files)) _ _ (ap (λ v. v.items) w.found-is)
          (w.in_ok-warn_of_bare.ensures files here before)
      | else-branch w ↦ All-same (WarningAt (IsPrintablePos files)) _ _ (ap (λ v. v.items) w.found-is) before
    ]
