use Rattle.std.proofs.Common.{map, sym, ap, ◌∙◌, refl}
use Rattle.isle_terms.specs.Inside.Collecting.DefinitionLists.{host_constructor_shown}
use Rattle.isle_terms.specs.Inside.Collecting.DefinitionChecks.{is_ill_host}
use Rattle.isle_terms.proofs.Collections.Checking.{item_at, each_ill, each_well, each_done, past_mapped}
use Rattle.isle_terms.proofs.env.checks.check_host_constructors.Goals as goal
use Rattle.isle_terms.proofs.env.checks.check_host_constructors.Goals.{then-is_ill_host+in_ok-report, else-is_ill_host}

pub loop-host-preserved : goal.loop-host-preserved
loop-host-preserved c = λ names ruled is_names is_ruled.
    let items = map host_constructor_shown c.args.hosts.now in
    let i = c.loop-host.host-index in
    let here = item_at host_constructor_shown c.args.hosts.now i c.host-item.result c.loop-host-test.true c.host-item.is in
    elim c.if-is_ill_host.branch [
      | then-is_ill_host+in_ok-report w ↦ each_ill items (is_ill_host names ruled) (λ host. host.0.1) i _ c.if-is_ill_host.errors.items _ _ here
          (ap (λ v. v.items) w.errors-is ∙ w.in_ok-report.ensures.1) (sym (c.is_ill_host.ensures names ruled is_names is_ruled)
          ∙ w.if-is_ill_host.true) refl (c.loop-host.invariant names ruled is_names is_ruled)
      | else-is_ill_host w ↦ each_well items (is_ill_host names ruled) (λ host. host.0.1) i _ c.if-is_ill_host.errors.items here (ap (λ v. v.items)
          w.errors-is)
          (sym (c.is_ill_host.ensures names ruled is_names is_ruled) ∙ w.if-is_ill_host.false) (c.loop-host.invariant names ruled is_names is_ruled)
    ]

pub returns : goal.returns
returns c = λ names ruled is_names is_ruled. each_done (map host_constructor_shown c.args.hosts.now) (is_ill_host names ruled) (λ host. host.0.1)
    c.loop-host.host-index
    (past_mapped host_constructor_shown c.args.hosts.now c.loop-host.host-index c.loop-host-test.false) (c.loop-host.invariant names ruled is_names
    is_ruled)
