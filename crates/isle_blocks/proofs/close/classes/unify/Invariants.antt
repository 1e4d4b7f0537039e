use Rattle.std.proofs.Common.{length}
use Rattle.isle_blocks.specs.Inside.ClosureStates.{ListMembers}
use Rattle.isle_blocks.proofs.Closure.Count.{class_count}
use Rattle.isle_blocks.proofs.Closure.Progress.{Progress}
use Rattle.isle_blocks.proofs.close.classes.unify.Given as goal

abbrev pub invariant-loop-x : goal.invariant-loop-x
invariant-loop-x l = record {
  progress : Progress l.sites l.own l.equals l.class.items l.pending.items;
  members : ListMembers l.class.items l.members;
}

abbrev pub decreases-loop-x : goal.decreases-loop-x
decreases-loop-x l = class_count l.class.items (length l.sites)
