use Rattle.std.proofs.Common.{◌≡◌, All, take, true}
use Rattle.isle_missing.specs.declared.ids.TestId.{TestId}
use Rattle.isle_missing.specs.Demands.{passes}
use Rattle.isle_missing.specs.Inside.Facts.{has_failed}
use Rattle.isle_missing.proofs.facts.open_test.Given as goal

-- the tests so far have failed
abbrev pub invariant-loop-test : goal.invariant-loop-test
invariant-loop-test l = All (λ (t : TestId). has_failed (passes l.site.0 t.0) l.facts ≡ true) (take l.test-index l.tests)
