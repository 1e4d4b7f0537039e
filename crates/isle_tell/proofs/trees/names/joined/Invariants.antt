use Rattle.std.proofs.Common.{◌≡◌, ◌++◌, take}
use Rattle.std.specs.Fmt.{decimal}
use Rattle.std.specs.List.{flat_map}
use Rattle.std.specs.Prelude.{string_bytes}
use Rattle.isle_tell.specs.Inside.TreeTexts.Parts.{behind_space}
use Rattle.isle_tell.proofs.trees.names.joined.Given as goal

abbrev pub invariant-loop-id : goal.invariant-loop-id
invariant-loop-id l = string_bytes l.text ≡ decimal l.fn.first.0 ++ flat_map behind_space (take l.id-index l.others)
