use Rattle.std.proofs.lemmas.List.Elements.{All-same}
use Rattle.std.proofs.lemmas.Result.{on_ok_weaker}
use Rattle.isle_ast.specs.Positions.Printable.{IsPrintablePos}
use Rattle.isle_ast.specs.Positions.DefPositions.{IdentAt, IfLetAt}
use Rattle.isle_tell.specs.Inside.Warnings.{NameAt}
use Rattle.isle_tell.proofs.warnings.variables.warn_of_rule.Goals as goal

pub returns : goal.returns
returns c = on_ok_weaker c.warn_of_conditions.result
    (λ all files at found. let names = c.in_ok-names.ensures files at in
    let bare = c.in_ok-warn_of_data.ensures files (All-same (NameAt (IsPrintablePos files)) _ _ c.as_slice.ensures.value names) found in
    let unused = c.in_ok-warn_of_names.ensures files (All-same (NameAt (IsPrintablePos files)) _ _ c.as_slice-2.ensures.value names) bare in
    let bound = c.in_ok-warn_of_lets.ensures files (All-same (λ name. IdentAt (IsPrintablePos files) name.now) _ _ c.as_slice-3.ensures.value
    (c.in_ok-lets.ensures files at)) unused in
    all files (All-same (IfLetAt (IsPrintablePos files)) _ _ c.as_slice-4.ensures at.iflets) bound)
    c.warn_of_conditions.ensures
