use Rattle.std.proofs.Common.{◌≡◌, take, length}
use Rattle.std.specs.List.{filter}
use Rattle.isle_trees.specs.Search.{picks}
use Rattle.isle_blocks.specs.Inside.Trees.Builder.{rules_in, test_shown}
use Rattle.isle_blocks.proofs.rule_set.RuleSet.count.Given as goal

abbrev pub invariant-loop-rule : goal.invariant-loop-rule
invariant-loop-rule l = l.count ≡ length (filter (picks (rules_in l.self) (test_shown l.test) l.floor) (take l.rule-index l.left))
