use Rattle.std.proofs.Common.{subst, ◌≡◌, Some, slice_get}
use Rattle.isle_rules.specs.Definitions.{roots_of, rules_in}
use Rattle.isle_terms.specs.Inside.Collecting.RuleNames.{MarksLone}
use Rattle.isle_terms.proofs.Collections.Checking.{item_at}
use Rattle.isle_terms.proofs.Collections.RuleNames.{names_more}
use Rattle.isle_terms.proofs.env.rule_names.names_of_rules.Goals as goal

pub loop-rule-preserved : goal.loop-rule-preserved
loop-rule-preserved c = λ defs trees.
    let i = c.loop-rule.rule-index in
    let here = item_at (λ rule. rule.now) c.args.rules.now i c.rule-item.result c.loop-rule-test.true c.rule-item.is in
    names_more defs (rules_in defs) i c.rule-item.result.now c.loop-rule.names.items c.push.new.self.items c.name_of_rule.result
    (subst (λ xs. slice_get xs i ≡ Some c.rule-item.result.now) trees here) c.in_ok-push.ensures.items
    (c.name_of_rule.ensures defs (subst (λ xs. MarksLone (roots_of xs) c.in_ok-lone.lone) trees c.in_ok-lone.ensures))
    (c.loop-rule.invariant defs trees)
