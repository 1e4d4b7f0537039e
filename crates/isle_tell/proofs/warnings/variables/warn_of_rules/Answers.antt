use Rattle.std.proofs.Common.{◌<◌, length, ap, arith}
use Rattle.std.proofs.lemmas.List.Elements.{All-same}
use Rattle.isle_ast.specs.Positions.Printable.{IsPrintablePos}
use Rattle.isle_ast.specs.Positions.DefPositions.{RuleAt}
use Rattle.isle_tell.specs.Inside.Warnings.{WarningAt}
use Rattle.isle_tell.proofs.WarningPlaces.{item_at}
use Rattle.isle_tell.proofs.warnings.variables.warn_of_rules.Goals as goal
use Rattle.isle_tell.proofs.warnings.variables.warn_of_rules.Goals.{in-Some+in_ok-warn_of_rule, in_default}

pub loop-i-preserved : goal.loop-i-preserved
loop-i-preserved c = λ files rules found.
    let before = c.loop-i.invariant files rules found in
    let within : c.loop-i.i < length c.in_ok-rules.rules.items = grind arith in
    elim c.match-get.branch [
      | in-Some+in_ok-warn_of_rule w ↦ All-same (WarningAt (IsPrintablePos files)) _ _ (ap (λ v. v.items) w.found-is)
          (w.in_ok-warn_of_rule.ensures files (item_at (λ rule. RuleAt (IsPrintablePos files) rule.now) c.in_ok-rules.rules.items
          c.loop-i.i w.index.result.now
          rules within w.index.ensures) before)
      | in_default w ↦ All-same (WarningAt (IsPrintablePos files)) _ _ (ap (λ v. v.items) w.found-is) before
    ]

pub returns : goal.returns
returns c = λ files defs found. c.loop-i.invariant files (c.in_ok-rules.ensures files defs) found
