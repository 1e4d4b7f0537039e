use Rattle.std.proofs.Common.{take}
use Rattle.isle_coverage.specs.Inside.Sites.{AreNumbers}
use Rattle.isle_coverage.specs.Inside.Tables.{KeepsNumbers}
use Rattle.isle_coverage.proofs.sites.numbers_of.Given as goal

-- the tests so far have their numbers
abbrev pub invariant-loop-test : goal.invariant-loop-test
invariant-loop-test l = record {
  numbers : AreNumbers l.table (take l.test-index l.tests) l.numbers.items;
  kept : KeepsNumbers l.initial.table l.table;
}
