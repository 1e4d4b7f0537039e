use Rattle.std.proofs.Common.{arith}
use Rattle.isle_coverage.specs.Inside.Judging.{IsToldOf}
use Rattle.isle_coverage.proofs.Growing.{zip_next}
use Rattle.isle_coverage.proofs.deciding.all_told.Goals as goal

pub loop-fact-preserved : goal.loop-fact-preserved
loop-fact-preserved c =
    zip_next (IsToldOf c.args.tests.now) (IsToldOf c.args.tests.now) (λ x y holds. holds) c.args.facts.now c.loop-fact.fact-index _
    c.loop-fact.told.items c.push.new.self.items c.in-Some.one (omega arith) c.loop-fact.invariant c.in-Some.ensures c.in_ok-push.ensures.items
