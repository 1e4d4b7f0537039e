use Rattle.std.proofs.Common.{◌+◌, ◌-◌, length}
use Rattle.isle_blocks.proofs.Merging.{IsMerged}
use Rattle.isle_blocks.proofs.rule.common_tests.Given as goal

abbrev pub invariant-tests : goal.invariant-tests
invariant-tests l = IsMerged l.first l.second l.i l.j l.common

abbrev pub decreases-tests : goal.decreases-tests
decreases-tests l = (length l.first - l.i) + (length l.second - l.j)
