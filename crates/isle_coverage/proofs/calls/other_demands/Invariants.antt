use Rattle.std.proofs.Common.{Contains}
use Rattle.isle_missing.specs.declared.demand.Demand.{Demand}
use Rattle.isle_coverage.proofs.calls.other_demands.Given as goal

-- what is kept so far is demanded
abbrev pub invariant-loop-demand : goal.invariant-loop-demand
invariant-loop-demand l = (d : Demand) → Contains l.kept.items d → Contains l.demands d
