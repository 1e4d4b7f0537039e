use Rattle.std.proofs.Common.{length}
use Rattle.isle_blocks.proofs.RuleFaults.Grouping.{IsGrouping}
use Rattle.isle_blocks.proofs.report.push_groups.Given as goal

abbrev pub invariant-groups : goal.invariant-groups
invariant-groups l = IsGrouping l.fault l.rules l.pairs l.left.items l.fn.groups.items l.groups.items

abbrev pub decreases-groups : goal.decreases-groups
decreases-groups l = length l.left.items
