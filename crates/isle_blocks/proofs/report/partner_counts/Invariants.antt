use Rattle.std.proofs.Common.{take}
use Rattle.isle_blocks.proofs.RuleFaults.Grouping.{AreCounts}
use Rattle.isle_blocks.proofs.report.partner_counts.Given as goal

abbrev pub invariant-loop-pair : goal.invariant-loop-pair
invariant-loop-pair l = AreCounts l.fault l.places (take l.pair-index l.pairs) l.counts.items
