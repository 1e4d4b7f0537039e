use Rattle.std.proofs.Common.{All, subst, arith}
use Rattle.std.proofs.lemmas.List.{take_all}
use Rattle.std.proofs.lemmas.List.Elements.{All-more}
use Rattle.isle_rules.specs.declared.rules.Rule.{Rule}
use Rattle.isle_coverage.specs.Inside.Reached.{KeepsMarks}
use Rattle.isle_coverage.proofs.stuck.are_closed.Goals as goal

pub loop-rule-preserved : goal.loop-rule-preserved
loop-rule-preserved c =
    let rule = c.rule-item.result in
    All-more (KeepsMarks c.args.marks.now) c.args.rules.now c.loop-rule.rule-index rule c.loop-rule-test.true c.loop-rule.invariant
    (subst (λ (r : Rule). KeepsMarks c.args.marks.now r) c.rule-item.is (c.in_ok-keeps_marks.ensures c.if-not-branch.false))

pub returns : goal.returns
returns c = λ e. subst (All (KeepsMarks c.args.marks.now)) (take_all c.loop-rule.rule-index c.args.rules.now (omega (arith, c.loop-rule-test.false)))
    c.loop-rule.invariant
