use Rattle.std.proofs.lemmas.List.Elements.{All-same}
use Rattle.std.proofs.lemmas.Result.{on_ok_weaker}
use Rattle.isle_ast.specs.Positions.Printable.{IsPrintablePos}
use Rattle.isle_ast.specs.Positions.DefPositions.{IdentAt}
use Rattle.isle_tell.specs.Inside.Warnings.{NameAt}
use Rattle.isle_tell.proofs.warnings.extractors.warn_of_extractor.Goals as goal

pub returns : goal.returns
returns c = on_ok_weaker c.warn_of_captures.result
    (λ all files at found. let names = c.in_ok-names.ensures files at.template in
    all files (All-same (NameAt (IsPrintablePos files)) _ _ c.as_slice-2.ensures.value names)
    (c.in_ok-warn_of_args.ensures files (All-same (IdentAt (IsPrintablePos files)) _ _ c.as_slice-args.ensures at.args) found))
    c.warn_of_captures.ensures
