use Rattle.std.proofs.Common.{◌≡◌, take, not}
use Rattle.std.specs.List.{filter}
use Rattle.isle_trees.specs.Search.{picks}
use Rattle.isle_blocks.specs.Inside.Trees.Builder.{rules_in, test_shown}
use Rattle.isle_blocks.proofs.rule_set.RuleSet.split.Given as goal

abbrev pub invariant-loop-rule : goal.invariant-loop-rule
invariant-loop-rule l = record {
  chosen : l.chosen.items ≡ filter (picks (rules_in l.self) (test_shown l.test) l.floor) (take l.rule-index l.left);
  rest : l.rest.items ≡ filter (λ i. not (picks (rules_in l.self) (test_shown l.test) l.floor i)) (take l.rule-index l.left);
}
