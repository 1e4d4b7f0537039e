use Rattle.std.proofs.Common.{take}
use Rattle.std.specs.List.{AllZip}
use Rattle.isle_coverage.specs.Inside.Less.{DemandsLess}
use Rattle.isle_coverage.proofs.calls.without_calls.Given as goal

-- the rules so far demand less
abbrev pub invariant-loop-row : goal.invariant-loop-row
invariant-loop-row l = AllZip DemandsLess (take l.row-index l.rows) l.less.items
