use Rattle.std.proofs.Common.{None, arith}
use Rattle.isle_coverage.specs.Inside.Types.{IsSiteOf}
use Rattle.isle_coverage.proofs.Growing.{zip_next}
use Rattle.isle_coverage.proofs.sites.sites_by.Goals as goal

pub loop-number-preserved : goal.loop-number-preserved
loop-number-preserved c =
    zip_next (IsSiteOf c.args.types.now c.args.singles.now) (IsSiteOf c.args.types.now c.args.singles.now) (λ x y holds. holds) c.args.noted.now
    c.loop-number.number None c.loop-number.sites.items c.push.new.self.items c.in_ok-site_tests.field-0 (omega arith) c.loop-number.invariant
    c.in_ok-site_tests.ensures c.in_ok-push.ensures.items
