use Rattle.std.proofs.Common.{take}
use Rattle.std.specs.Prelude.{string_bytes}
use Rattle.isle_tell.specs.TreeTexts.DotSets.{IsEntryGraph}
use Rattle.isle_tell.specs.TreeTexts.Names.{AreTexts}
use Rattle.isle_tell.specs.TreeTexts.Sets.{sets_and_trees}
use Rattle.isle_tell.proofs.trees.graphs.sets_graph.Given as goal

abbrev pub invariant-loop-place : goal.invariant-loop-place
invariant-loop-place l = AreTexts (IsEntryGraph l.program l.files l.asked) (take l.place (sets_and_trees l.program)) (string_bytes l.text)
