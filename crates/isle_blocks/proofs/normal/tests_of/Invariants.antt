use Rattle.isle_blocks.proofs.NormalTests.{AreTestsBelow}
use Rattle.isle_blocks.proofs.normal.tests_of.Given as goal

abbrev pub invariant-loop-k : goal.invariant-loop-k
invariant-loop-k l = AreTestsBelow l.numbers l.each l.k l.tests
