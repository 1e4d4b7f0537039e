use Rattle.std.proofs.Common.{◌≡◌, ◌++◌}
use Rattle.std.specs.Prelude.{string_bytes}
use Rattle.isle_blocks.specs.Trees.Views.{shown_steps}
use Rattle.isle_tell.specs.Inside.TreeTexts.DotParts.{drawn, left_graph, left_pieces}
use Rattle.isle_tell.specs.TreeTexts.DotSteps.{start, steps_graph}
use Rattle.isle_tell.proofs.trees.graph.steps_graph.Given as goal

abbrev pub invariant-branches : goal.invariant-branches
invariant-branches l = string_bytes l.text ++ left_graph (drawn l.files l.scene) l.number l.branches.items
    ≡ steps_graph (drawn l.files l.scene) start 1 (shown_steps l.steps).tree

abbrev pub decreases-branches : goal.decreases-branches
decreases-branches l = left_pieces l.branches.items
