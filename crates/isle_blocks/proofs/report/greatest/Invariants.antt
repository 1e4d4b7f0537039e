use Rattle.isle_blocks.proofs.RuleFaults.Grouping.{IsBest}
use Rattle.isle_blocks.proofs.report.greatest.Given as goal

abbrev pub invariant-loop-place : goal.invariant-loop-place
invariant-loop-place l = IsBest l.rules l.counts l.place l.best
