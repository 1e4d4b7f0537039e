use Rattle.std.proofs.Common.{map, sym, ap, ◌∙◌, refl}
use Rattle.isle_rules.specs.Definitions.{ExternalExtractor}
use Rattle.isle_terms.specs.Inside.Collecting.DefinitionLists.{host_extractor_shown}
use Rattle.isle_terms.specs.Inside.Collecting.DefinitionChecks.{is_ill_name}
use Rattle.isle_terms.proofs.Collections.Checking.{item_at, each_ill, each_well, each_done, past_mapped}
use Rattle.isle_terms.proofs.env.checks.check_host_extractors.Goals as goal
use Rattle.isle_terms.proofs.env.checks.check_host_extractors.Goals.{then-is_ill_name+in_ok-report, else-is_ill_name}

pub loop-host-preserved : goal.loop-host-preserved
loop-host-preserved c = λ names is_names.
    let items = map host_extractor_shown c.args.hosts.now in
    let i = c.loop-host.host-index in
    let here = item_at host_extractor_shown c.args.hosts.now i c.host-item.result c.loop-host-test.true c.host-item.is in
    elim c.if-is_ill_name.branch [
      | then-is_ill_name+in_ok-report w ↦ each_ill items (is_ill_name names) (λ (host : ExternalExtractor). host.pos) i _
          c.if-is_ill_name.errors.items _ _ here
          (ap (λ v. v.items) w.errors-is ∙ w.in_ok-report.ensures.1) (sym (c.is_ill_name.ensures names is_names)
          ∙ w.if-is_ill_name.true) refl (c.loop-host.invariant names is_names)
      | else-is_ill_name w ↦ each_well items (is_ill_name names) (λ (host : ExternalExtractor). host.pos) i _ c.if-is_ill_name.errors.items here
          (ap (λ v. v.items) w.errors-is)
          (sym (c.is_ill_name.ensures names is_names) ∙ w.if-is_ill_name.false) (c.loop-host.invariant names is_names)
    ]

pub returns : goal.returns
returns c = λ names is_names. each_done (map host_extractor_shown c.args.hosts.now) (is_ill_name names) (λ (host : ExternalExtractor). host.pos)
    c.loop-host.host-index
    (past_mapped host_extractor_shown c.args.hosts.now c.loop-host.host-index c.loop-host-test.false) (c.loop-host.invariant names is_names)
