use Rattle.std.proofs.Common.{length, ◌≤◌}
use Rattle.isle_blocks.proofs.Trees.Ending.{AreEndsFrom}
use Rattle.isle_blocks.proofs.serializer.block.ends_of.Given as goal

abbrev pub invariant-nodes : goal.invariant-nodes
invariant-nodes l = record {
  ends : AreEndsFrom l.nodes l.ends.items l.at;
  within : l.at ≤ length l.nodes;
}

abbrev pub decreases-nodes : goal.decreases-nodes
decreases-nodes l = l.at
