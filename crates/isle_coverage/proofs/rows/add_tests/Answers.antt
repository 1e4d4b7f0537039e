use Rattle.std.proofs.Common.{◌≡◌, Some, slice_get, sym, ap, ◌∙◌}
use Rattle.std.specs.Option.{option_map}
use Rattle.isle_missing.specs.declared.demand.Demand.TheVariants.{Passes}
use Rattle.isle_coverage.proofs.Growing.{demands_more}
use Rattle.isle_coverage.proofs.rows.add_tests.Goals as goal

pub loop-place-preserved : goal.loop-place-preserved
loop-place-preserved c =
    let e = c.unwrap.result in
    let there : slice_get c.args.rule.now.constraints c.loop-place.place ≡ Some (e.0.now, e.1.now) =
    sym c.entry.ensures ∙ ap (option_map (λ e. (e.0.now, e.1.now))) c.unwrap.ensures in
    record {
      added = demands_more c.loop-place.table c.number.new.self c.in_ok-test.ensures.kept c.args.rule.now.constraints c.loop-place.place
          (e.0.now, e.1.now) c.args.demands.now.items c.loop-place.demands.items c.push.new.self.items
          (Passes c.site_of.result c.in_ok-test.test) there
          c.loop-place.invariant.added (
            c.in_ok-test.test.0,
            c.in_ok-test.ensures.numbered,
            λ i. Passes (record { 0 = c.site_of.ensures i }) c.in_ok-test.test,
          ) c.in_ok-push.ensures.items;
      kept = λ t d at. c.in_ok-test.ensures.kept t d (c.loop-place.invariant.kept t d at);
    }
