use Rattle.std.proofs.Common.{sym, subst, arith, Contains}
use Rattle.isle_missing.specs.declared.demand.Demand.{Demand}
use Rattle.isle_coverage.proofs.Growing.{stays_within}
use Rattle.isle_coverage.proofs.calls.other_demands.Goals as goal
use Rattle.isle_coverage.proofs.calls.other_demands.Goals.{then-not-is_of_call+in_ok-push, else-not-is_of_call}

pub loop-demand-preserved : goal.loop-demand-preserved
loop-demand-preserved c = elim c.if-not-is_of_call.branch [
  | then-not-is_of_call+in_ok-push w ↦
      subst (λ v. (d : Demand) → Contains v.items d → Contains c.args.demands.now d) (sym w.kept-is)
      (stays_within c.args.demands.now c.loop-demand.kept.items w.push.new.self.items _ c.loop-demand.demand-index (omega arith)
      w.in_ok-push.ensures.items c.loop-demand.invariant)
  | else-not-is_of_call w ↦
      subst (λ v. (d : Demand) → Contains v.items d → Contains c.args.demands.now d) (sym w.kept-is) c.loop-demand.invariant
]
