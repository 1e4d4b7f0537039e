use Rattle.std.proofs.Common.{◌≡◌, drop}
use Rattle.isle_trees.specs.Search.{floor}
use Rattle.isle_blocks.specs.Inside.Trees.Builder.{rules_in, test_shown}
use Rattle.isle_blocks.proofs.rule_set.RuleSet.floor.Given as goal

abbrev pub invariant-loop-rule : goal.invariant-loop-rule
invariant-loop-rule l = floor (rules_in l.self) (test_shown l.test) (drop l.rule-index l.left) ≡ floor (rules_in l.self) (test_shown l.test) l.left
