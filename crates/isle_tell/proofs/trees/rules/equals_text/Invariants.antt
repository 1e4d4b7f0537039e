use Rattle.std.proofs.Common.{◌≡◌, take}
use Rattle.std.specs.List.{flat_map}
use Rattle.std.specs.Prelude.{string_bytes}
use Rattle.isle_tell.specs.TreeTexts.Rules.{equal_line}
use Rattle.isle_tell.proofs.trees.rules.equals_text.Given as goal

abbrev pub invariant-loop-set : goal.invariant-loop-set
invariant-loop-set l = string_bytes l.text ≡ flat_map equal_line (take l.set-index l.sets)
