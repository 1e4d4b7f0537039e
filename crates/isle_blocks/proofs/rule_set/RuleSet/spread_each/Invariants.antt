use Rattle.std.proofs.Common.{take}
use Rattle.isle_blocks.specs.Rows.{numbers_of}
use Rattle.isle_blocks.specs.Inside.Trees.Builder.{rules_in, scope_of}
use Rattle.isle_blocks.specs.Inside.Trees.Marking.{Spreads}
use Rattle.isle_blocks.proofs.rule_set.RuleSet.spread_each.Given as goal

abbrev pub invariant-loop-site : goal.invariant-loop-site
invariant-loop-site l =
    Spreads (rules_in l.self) (scope_of l.self l.known) (numbers_of (take l.site-index l.sites)) l.initial.marks l.marks
    (numbers_of l.initial.list.items) (numbers_of l.list.items)
