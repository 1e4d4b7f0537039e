use Rattle.std.proofs.Common.{take}
use Rattle.isle_program.specs.Trees.{AreSetTrees}
use Rattle.isle_program.proofs.compiler.trees_of_sets.Given as goal

-- the sets so far have their trees
abbrev pub invariant-loop-set : goal.invariant-loop-set
invariant-loop-set l = AreSetTrees (take l.set-index l.sets) l.trees.items
