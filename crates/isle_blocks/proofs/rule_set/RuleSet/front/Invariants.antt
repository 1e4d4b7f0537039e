use Rattle.std.proofs.Common.{◌≡◌, ◌++◌, drop}
use Rattle.isle_trees.specs.Search.{front}
use Rattle.isle_blocks.specs.Inside.Trees.Builder.{rules_in}
use Rattle.isle_blocks.proofs.rule_set.RuleSet.front.Given as goal

abbrev pub invariant-loop-rule : goal.invariant-loop-rule
invariant-loop-rule l =
    l.front.items ++ front (rules_in l.self) l.site.0 l.test (drop l.rule-index l.rules) ≡ front (rules_in l.self) l.site.0 l.test l.rules
