use Rattle.std.proofs.Common.{take}
use Rattle.std.specs.List.{AllZip}
use Rattle.isle_coverage.specs.Inside.Rows.{IsRow}
use Rattle.isle_coverage.specs.Inside.Tables.{KeepsNumbers}
use Rattle.isle_coverage.proofs.rows.rows_of.Given as goal

-- the rules so far have their rows
abbrev pub invariant-loop-rule : goal.invariant-loop-rule
invariant-loop-rule l = record {
  rows : AllZip (IsRow l.table) (take l.rule-index l.rules) l.rows.items;
  kept : KeepsNumbers l.initial.table l.table;
}
