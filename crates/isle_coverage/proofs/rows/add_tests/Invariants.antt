use Rattle.std.proofs.Common.{take}
use Rattle.isle_coverage.specs.Inside.Rows.{AreTestDemands}
use Rattle.isle_coverage.specs.Inside.Tables.{KeepsNumbers}
use Rattle.isle_coverage.proofs.rows.add_tests.Given as goal

-- the tests so far are demanded
abbrev pub invariant-loop-place : goal.invariant-loop-place
invariant-loop-place l = record {
  added : AreTestDemands l.table (take l.place l.rule.constraints) l.initial.demands.items l.demands.items;
  kept : KeepsNumbers l.initial.table l.table;
}
