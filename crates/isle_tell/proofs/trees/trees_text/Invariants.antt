use Rattle.std.proofs.Common.{take}
use Rattle.std.specs.Prelude.{string_bytes}
use Rattle.isle_tell.specs.TreeTexts.Names.{AreTexts}
use Rattle.isle_tell.specs.TreeTexts.Sets.{IsEntryText, sets_and_trees}
use Rattle.isle_tell.proofs.trees.trees_text.Given as goal

abbrev pub invariant-loop-place : goal.invariant-loop-place
invariant-loop-place l = AreTexts (IsEntryText l.program l.files l.asked) (take l.place (sets_and_trees l.program)) (string_bytes l.text)
