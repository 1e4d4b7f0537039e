use Rattle.std.proofs.Common.{ap, subst}
use Rattle.std.proofs.lemmas.List.Elements.{All-same}
use Rattle.isle_ast.specs.Positions.Printable.{IsPrintablePos}
use Rattle.isle_ast.specs.Positions.DefPositions.{DefAt}
use Rattle.isle_tell.specs.Inside.Warnings.{WarningAt}
use Rattle.isle_tell.proofs.WarningPlaces.{item_at}
use Rattle.isle_tell.proofs.warnings.extractors.warn_of_extractors.Goals as goal
use Rattle.isle_tell.proofs.warnings.extractors.warn_of_extractors.Goals.{in-Extractor+in_ok-warn_of_extractor, in_default}

pub loop-def-preserved : goal.loop-def-preserved
loop-def-preserved c = λ files defs found.
    let before = c.loop-def.invariant files defs found in
    let here = item_at (DefAt (IsPrintablePos files)) c.args.defs.now c.loop-def.def-index c.def-item.result defs
    c.loop-def-test.true c.def-item.is in
    elim c.match-def.branch [
      | in-Extractor+in_ok-warn_of_extractor w ↦ All-same (WarningAt (IsPrintablePos files)) _ _ (ap (λ v. v.items) w.found-is)
          (w.in_ok-warn_of_extractor.ensures files (subst (DefAt (IsPrintablePos files)) w.in-Extractor.is here) before)
      | in_default w ↦ All-same (WarningAt (IsPrintablePos files)) _ _ (ap (λ v. v.items) w.found-is) before
    ]
