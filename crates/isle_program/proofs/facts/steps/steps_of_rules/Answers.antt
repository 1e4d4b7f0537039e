use Rattle.std.proofs.Common.{ap, arith}
use Rattle.std.proofs.lemmas.List.Sums.{sum_by_more}
use Rattle.isle_program.specs.Facts.Steps.{rule_steps}
use Rattle.isle_program.proofs.facts.steps.steps_of_rules.Goals as goal

pub overflow_add-steps-in-loop-rule : goal.overflow_add-steps-in-loop-rule
overflow_add-steps-in-loop-rule c =
    let most = c.loop-rule.invariant.1 in let few = c.total_constraints.type_inv in let low = c.loop-rule-test.true in
    omega (arith, most, few, low)

pub loop-rule-preserved : goal.loop-rule-preserved
loop-rule-preserved c =
    let most = c.loop-rule.invariant.1 in let few = c.total_constraints.type_inv in
    let i = c.loop-rule.rule-index in let rules = c.args.rules.now in
    let next = sum_by_more rule_steps rules i c.rule-item.result c.loop-rule-test.true in
    let here = ap rule_steps c.rule-item.is in
    let so_far = c.loop-rule.invariant.0 in let is = c.total_constraints.ensures in
    (omega (arith, next, here, so_far, is), omega (arith, most, few))
