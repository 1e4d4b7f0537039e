use Rattle.std.proofs.Common.{ap}
use Rattle.isle_terms.specs.Inside.Collecting.NamedItems.{named_shown, named_host_constructor}
use Rattle.isle_terms.proofs.Collections.Listing.{mapped_more}
use Rattle.isle_terms.proofs.env.naming.host_constructor_names.Goals as goal

pub loop-host-preserved : goal.loop-host-preserved
loop-host-preserved c = mapped_more named_shown named_host_constructor c.args.hosts.now c.loop-host.host-index c.host-item.result
    c.loop-host.all.items _ _ c.loop-host-test.true c.host-item.is c.in_ok-push.ensures.items
    (ap (λ name. (name, c.host-item.result.term.now.1)) c.as_str.ensures) c.loop-host.invariant
