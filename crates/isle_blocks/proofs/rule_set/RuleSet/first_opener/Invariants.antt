use Rattle.std.proofs.Common.{◌≡◌, drop}
use Rattle.isle_blocks.specs.Inside.Trees.Work.{opener_among}
use Rattle.isle_blocks.proofs.rule_set.RuleSet.first_opener.Given as goal

abbrev pub invariant-loop-rule : goal.invariant-loop-rule
invariant-loop-rule l = opener_among l.self l.rules l.site.0 ≡ opener_among l.self (drop l.rule-index l.rules) l.site.0
