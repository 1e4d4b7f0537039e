use Rattle.std.proofs.Common.{List, subst}
use Rattle.std.specs.List.{AllZip}
use Rattle.isle_blocks.specs.declared.rule.Rule.{Rule}
use Rattle.isle_coverage.specs.Inside.Rows.{IsRow}
use Rattle.isle_coverage.proofs.Growing.{rows_kept}
use Rattle.isle_coverage.proofs.numbered.number_rules.Goals as goal

pub returns : goal.returns
returns c = record {
  plain = c.as_slice-tests.ensures.plain;
  once = c.as_slice-tests.ensures.once;
  rows = subst (λ (rules : List Rule). AllZip (IsRow c.sites_of.new.table) rules c.in_ok-rows.rows.items) c.rules.ensures
      (rows_kept c.rows_of.new.table c.sites_of.new.table c.in_ok-sites.ensures.kept c.rules.result.now c.in_ok-rows.rows.items
      c.in_ok-rows.ensures.rows);
  sites = c.in_ok-sites.ensures.known;
}
