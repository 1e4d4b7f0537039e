use Rattle.std.proofs.Common.{take}
use Rattle.isle_coverage.specs.Inside.Judging.{AreToldOf}
use Rattle.isle_coverage.proofs.deciding.all_told.Given as goal

-- what the facts so far say
abbrev pub invariant-loop-fact : goal.invariant-loop-fact
invariant-loop-fact l = AreToldOf l.tests (take l.fact-index l.facts) l.told.items
