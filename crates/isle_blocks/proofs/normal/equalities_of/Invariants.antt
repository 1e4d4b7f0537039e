use Rattle.isle_blocks.proofs.Sets.NormalSets.{AreSetsBelow}
use Rattle.isle_blocks.proofs.normal.equalities_of.Given as goal

abbrev pub invariant-loop-k : goal.invariant-loop-k
invariant-loop-k l = AreSetsBelow l.numbers l.each l.class l.k l.equals
