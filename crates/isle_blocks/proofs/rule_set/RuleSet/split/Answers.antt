use Rattle.std.proofs.Common.{◌∙◌, ap, not}
use Rattle.std.specs.List.{filter}
use Rattle.std.proofs.lemmas.List.{take_all}
use Rattle.isle_trees.specs.Search.{picks}
use Rattle.isle_trees.proofs.Building.Search.{counted_with, others_with}
use Rattle.isle_blocks.specs.Inside.Trees.Builder.{rules_in, test_shown}
use Rattle.isle_blocks.proofs.rule_set.RuleSet.split.Goals as goal

pub returns-clause-counted : goal.returns-clause-counted
returns-clause-counted c =
    let R = rules_in c.args.self.now in
    let t = test_shown c.args.test in
    c.loop-rule.invariant.chosen ∙ ap (filter (picks R t c.floor-floor.result))
    (take_all c.loop-rule.rule-index c.args.left.now c.loop-rule-test.false)
    ∙ counted_with R t c.args.left.now c.floor-floor.result c.requires.order c.floor-floor.ensures

pub returns-clause-others : goal.returns-clause-others
returns-clause-others c =
    let R = rules_in c.args.self.now in
    let t = test_shown c.args.test in
    c.loop-rule.invariant.rest
    ∙ ap (filter (λ i. not (picks R t c.floor-floor.result i))) (take_all c.loop-rule.rule-index c.args.left.now c.loop-rule-test.false)
    ∙ others_with R t c.args.left.now c.floor-floor.result c.requires.order c.floor-floor.ensures
