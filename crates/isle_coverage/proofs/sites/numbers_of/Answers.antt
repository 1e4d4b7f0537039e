use Rattle.std.proofs.Common.{arith}
use Rattle.isle_missing.specs.declared.ids.TestId.{TestId}
use Rattle.isle_blocks.specs.declared.constraint.Constraint.{Constraint}
use Rattle.isle_blocks.specs.declared.constraint.Constraint.TheVariants as tests
use Rattle.isle_coverage.specs.Inside.Tables.{HasNumber}
use Rattle.isle_coverage.proofs.Growing.{number_kept, zip_next}
use Rattle.isle_coverage.proofs.sites.numbers_of.Goals as goal

pub loop-test-preserved : goal.loop-test-preserved
loop-test-preserved c = record {
  numbers = zip_next (λ (d : Constraint) (t : TestId). HasNumber c.loop-test.table d t.0)
      (λ (d : Constraint) (t : TestId). HasNumber c.number.new.self d t.0)
      (λ d t. number_kept c.loop-test.table c.number.new.self c.in_ok-number.ensures.kept d t.0) c.args.tests.now c.loop-test.test-index
      (tests.Variant (record { 0 = 0 }) (record { 0 = 0 }) (record { 0 = 0 })) c.loop-test.numbers.items c.push.new.self.items c.in_ok-number.field-0
      (omega arith) c.loop-test.invariant.numbers c.in_ok-number.ensures.numbered c.in_ok-push.ensures.items;
  kept = λ t d at. c.in_ok-number.ensures.kept t d (c.loop-test.invariant.kept t d at);
}
