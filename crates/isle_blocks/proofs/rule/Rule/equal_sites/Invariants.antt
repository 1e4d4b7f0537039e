use Rattle.isle_blocks.proofs.Sets.ListedSets.{AreListedBelow}
use Rattle.isle_blocks.proofs.rule.Rule.equal_sites.Given as goal

abbrev pub invariant-loop-number : goal.invariant-loop-number
invariant-loop-number l = AreListedBelow l.self.equals l.left l.sets.items l.number
