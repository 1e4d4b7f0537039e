use Rattle.std.proofs.Common.{◌≡◌, ◌++◌}
use Rattle.std.specs.Prelude.{string_bytes}
use Rattle.isle_blocks.specs.Trees.Views.{shown_steps}
use Rattle.isle_tell.specs.Inside.TreeTexts.Parts.{left_text, pieces_left}
use Rattle.isle_tell.specs.TreeTexts.Steps.{steps_text}
use Rattle.isle_tell.proofs.trees.steps.steps_text.Given as goal

abbrev pub invariant-parts : goal.invariant-parts
invariant-parts l = string_bytes l.text ++ left_text l.program l.files l.rules l.parts.items
    ≡ steps_text l.program l.files l.rules 2 (shown_steps l.steps).tree

abbrev pub decreases-parts : goal.decreases-parts
decreases-parts l = pieces_left l.parts.items
