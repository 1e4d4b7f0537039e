use Rattle.std.proofs.Common.{map, take}
use Rattle.isle_rules.specs.Definitions.{roots_of}
use Rattle.isle_terms.specs.Inside.Collecting.RuleNames.{MarksLone}
use Rattle.isle_terms.proofs.env.rule_names.lone_roots.Given as goal

abbrev pub invariant-loop-rule : goal.invariant-loop-rule
invariant-loop-rule l = MarksLone (roots_of (take l.rule-index (map (λ rule. rule.now) l.rules))) l.lone
