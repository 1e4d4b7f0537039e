use Rattle.std.proofs.Common.{take, ◌≡◌, ◌++◌}
use Rattle.std.specs.List.{filter}
use Rattle.isle_blocks.specs.Rows.{numbers_of}
use Rattle.isle_blocks.specs.Inside.Trees.Builder.{rules_in}
use Rattle.isle_blocks.proofs.rule_set.RuleSet.push_each.Given as goal

abbrev pub invariant-loop-site : goal.invariant-loop-site
invariant-loop-site l =
    numbers_of l.order.items ≡ numbers_of l.initial.order.items ++ filter (rules_in l.self).stands (numbers_of (take l.site-index l.sites))
