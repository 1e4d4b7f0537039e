use Rattle.std.proofs.Common.{◌≡◌, true, sym, ◌∙◌}
use Rattle.std.proofs.lemmas.List.Elements.{All-more}
use Rattle.isle_missing.specs.declared.ids.TestId.{TestId}
use Rattle.isle_missing.specs.Demands.{passes}
use Rattle.isle_missing.specs.Inside.Facts.{has_failed}
use Rattle.isle_missing.proofs.Resting.{all_taken}
use Rattle.isle_missing.proofs.facts.open_test.Goals as goal

pub loop-test-preserved : goal.loop-test-preserved
loop-test-preserved c =
    All-more (λ (t : TestId). has_failed (passes c.args.site.0 t.0) c.args.facts.now ≡ true) c.args.tests.now c.loop-test.test-index
    (record { 0 = 0 }) c.loop-test-test.true c.loop-test.invariant (sym c.has_failed.ensures ∙ c.if-not-has_failed.false)

pub returns : goal.returns
returns c =
    all_taken (λ (t : TestId). has_failed (passes c.args.site.0 t.0) c.args.facts.now ≡ true) c.args.tests.now c.loop-test.test-index
    c.loop-test-test.false c.loop-test.invariant
