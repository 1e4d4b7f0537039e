use Rattle.std.proofs.Common.{◌∙◌, ap, subst}
use Rattle.std.proofs.lemmas.List.Elements.{All-same}
use Rattle.isle_ast.specs.Positions.Printable.{IsPrintablePos}
use Rattle.isle_ast.specs.Positions.DefPositions.{RuleAt, DefAt}
use Rattle.isle_tell.proofs.WarningPlaces.{item_at, pushed_at}
use Rattle.isle_tell.proofs.warnings.variables.rules_in.Goals as goal
use Rattle.isle_tell.proofs.warnings.variables.rules_in.Goals.{in-Rule+in_ok-push, in_default}

pub loop-def-preserved : goal.loop-def-preserved
loop-def-preserved c = λ files defs.
    let before = c.loop-def.invariant files defs in
    let here = item_at (DefAt (IsPrintablePos files)) c.args.defs.now c.loop-def.def-index c.def-item.result defs
    c.loop-def-test.true c.def-item.is in
    elim c.match-def.branch [
      | in-Rule+in_ok-push w ↦ pushed_at (λ rule. RuleAt (IsPrintablePos files) rule.now) _ _ _ (ap (λ v. v.items) w.rules-is ∙
          w.in_ok-push.ensures.items) before
          (subst (DefAt (IsPrintablePos files)) w.in-Rule.is here)
      | in_default w ↦ All-same (λ rule. RuleAt (IsPrintablePos files) rule.now) _ _ (ap (λ v. v.items) w.rules-is) before
    ]
