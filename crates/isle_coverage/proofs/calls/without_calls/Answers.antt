use Rattle.std.proofs.Common.{◌≡◌, ◌<◌, List, Some, length, slice_get, sym, ap, subst, ◌∙◌, arith, Contains}
use Rattle.std.proofs.lemmas.Option.{slice_get-get_or}
use Rattle.isle_missing.specs.declared.demand.Demand.{Demand}
use Rattle.isle_coverage.specs.Inside.Less.{DemandsLess}
use Rattle.isle_coverage.proofs.Growing.{zip_more}
use Rattle.isle_coverage.proofs.calls.without_calls.Goals as goal

pub loop-row-preserved : goal.loop-row-preserved
loop-row-preserved c =
    let i = c.loop-row.row-index in
    let row = c.row-item.result in
    let low : i < length c.args.rows.now = omega arith in
    let there : slice_get c.args.rows.now i ≡ Some row = slice_get-get_or c.args.rows.now i row low ∙ ap (λ r. Some r) (sym c.row-item.is) in
    let less : DemandsLess row c.new.result =
    λ d m. subst (λ (l : List Demand). Contains l d) c.demands.ensures
    (c.in_ok-kept.ensures d (subst (λ (l : List Demand). Contains l d) c.new.ensures m)) in
    zip_more DemandsLess DemandsLess (λ x y holds. holds) c.args.rows.now i row c.loop-row.less.items c.push.new.self.items c.new.result there
    c.loop-row.invariant less c.in_ok-push.ensures.items
