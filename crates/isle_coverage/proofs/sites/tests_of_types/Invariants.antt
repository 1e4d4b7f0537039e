use Rattle.std.proofs.Common.{All}
use Rattle.isle_coverage.specs.Inside.Types.{IsTypeTests}
use Rattle.isle_coverage.specs.Inside.Tables.{KeepsNumbers}
use Rattle.isle_coverage.proofs.sites.tests_of_types.Given as goal

-- the types so far have their tests
abbrev pub invariant-loop-at : goal.invariant-loop-at
invariant-loop-at l = record {
  tests : All (IsTypeTests l.program l.table) l.all.items;
  kept : KeepsNumbers l.initial.table l.table;
}
