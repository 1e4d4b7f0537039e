use Rattle.std.proofs.Common.{◌≡◌, take}
use Rattle.std.specs.Prelude.{string_bytes}
use Rattle.isle_tell.specs.TreeTexts.DotSites.{outline, part_words}
use Rattle.isle_tell.proofs.trees.paths.outlines.Given as goal

abbrev pub invariant-loop-part : goal.invariant-loop-part
invariant-loop-part l = string_bytes l.text
    ≡ part_words (outline l.table.program.now l.table.types.now l.table.sites.now) (take l.part-index l.parts)
