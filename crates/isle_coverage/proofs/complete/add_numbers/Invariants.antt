use Rattle.std.proofs.Common.{◌<◌, ℕ, pos}
use Rattle.std.specs.Prelude.{Contains}
use Rattle.isle_blocks.specs.declared.constraint.Constraint.TheVariants as tests
use Rattle.isle_coverage.specs.Inside.Complete.{KeepsTests}
use Rattle.isle_coverage.proofs.complete.add_numbers.Given as goal

-- the numbers so far are there
abbrev pub invariant-loop-number : goal.invariant-loop-number
invariant-loop-number l = record {
  there : (k : ℕ) → k < l.number → Contains l.tests.items (tests.ConstInt (pos k) l.ty);
  kept : KeepsTests l.initial.tests.items l.tests.items;
}
