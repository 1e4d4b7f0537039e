use Rattle.std.proofs.Common.{arith, sym, ◌∙◌}
use Rattle.isle_trees.specs.Search.{picks}
use Rattle.isle_trees.proofs.Building.Search.{count_stopped, count_ended, picked_few}
use Rattle.isle_blocks.specs.Inside.Trees.Builder.{rules_in, test_shown}
use Rattle.isle_blocks.proofs.rule_set.RuleSet.count.Goals as goal

pub returns-then-not-reaches : goal.returns-then-not-reaches
returns-then-not-reaches c =
    count_stopped (rules_in c.args.self.now) (test_shown c.args.test) c.args.left.now c.floor-floor.result c.loop-rule.rule-index c.loop-rule.count
    c.requires.order c.floor-floor.ensures c.loop-rule-test.true (sym c.reaches.ensures ∙ c.if-not-reaches.true) c.loop-rule.invariant

pub overflow_add-count : goal.overflow_add-count
overflow_add-count c =
    let l = picked_few (picks (rules_in c.args.self.now) (test_shown c.args.test) c.floor-floor.result) c.loop-rule.rule-index c.args.left.now in
    let h = c.loop-rule.invariant in omega (arith, l, h)

pub returns : goal.returns
returns c =
    count_ended (rules_in c.args.self.now) (test_shown c.args.test) c.args.left.now c.floor-floor.result c.loop-rule.rule-index c.loop-rule.count
    c.requires.order c.floor-floor.ensures c.loop-rule-test.false c.loop-rule.invariant
