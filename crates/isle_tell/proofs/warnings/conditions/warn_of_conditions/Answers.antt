use Rattle.std.proofs.Common.{◌<◌, length, arith}
use Rattle.isle_ast.specs.Positions.Printable.{IsPrintablePos}
use Rattle.isle_ast.specs.Positions.DefPositions.{IfLetAt}
use Rattle.isle_tell.proofs.WarningPlaces.{item_at}
use Rattle.isle_tell.proofs.warnings.conditions.warn_of_conditions.Goals as goal

pub loop-i-preserved : goal.loop-i-preserved
loop-i-preserved c = λ files iflets found.
    let within : c.loop-i.i < length c.args.iflets.now = omega (arith, c.loop-i-test.true) in
    c.in_ok-warn_of_condition.ensures files
    (item_at (IfLetAt (IsPrintablePos files)) c.args.iflets.now c.loop-i.i c.index-iflets-i.result iflets within c.index-iflets-i.is)
    (c.loop-i.invariant files iflets found)
