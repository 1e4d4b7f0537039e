use Rattle.std.proofs.Common.{◌≡◌, ◌<◌, Some, length, slice_get, sym, ap, ◌∙◌, arith}
use Rattle.std.proofs.lemmas.Option.{slice_get-get_or}
use Rattle.isle_coverage.specs.Inside.Rows.{IsRow}
use Rattle.isle_coverage.proofs.Growing.{row_kept, zip_more}
use Rattle.isle_coverage.proofs.rows.rows_of.Goals as goal

pub loop-rule-preserved : goal.loop-rule-preserved
loop-rule-preserved c =
    let i = c.loop-rule.rule-index in
    let rule = c.rule-item.result in
    let low : i < length c.args.rules.now = omega arith in
    let there : slice_get c.args.rules.now i ≡ Some rule =
    slice_get-get_or c.args.rules.now i rule low ∙ ap (λ r. Some r) (sym c.rule-item.is) in
    record {
      rows = zip_more (IsRow c.loop-rule.table) (IsRow c.row_of.new.table) (row_kept c.loop-rule.table c.row_of.new.table c.in_ok-row_of.ensures.kept)
          c.args.rules.now i rule c.loop-rule.rows.items c.push.new.self.items c.in_ok-row_of.field-0 there c.loop-rule.invariant.rows
          c.in_ok-row_of.ensures.row c.in_ok-push.ensures.items;
      kept = λ t d at. c.in_ok-row_of.ensures.kept t d (c.loop-rule.invariant.kept t d at);
    }
