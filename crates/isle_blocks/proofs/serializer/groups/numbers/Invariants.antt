use Rattle.std.proofs.Common.{◌≡◌}
use Rattle.isle_trees.specs.Rules.{below}
use Rattle.isle_blocks.proofs.serializer.groups.numbers.Given as goal

abbrev pub invariant-loop-number : goal.invariant-loop-number
invariant-loop-number l = l.all.items ≡ below l.number
