use Rattle.std.proofs.Common.{◌≡◌, ◌++◌, take}
use Rattle.std.specs.List.{flat_map}
use Rattle.std.specs.Prelude.{string_bytes}
use Rattle.isle_tell.specs.Inside.TreeTexts.Parts.{field_behind_space, field_shown}
use Rattle.isle_tell.proofs.trees.names.joined_fields.Given as goal

abbrev pub invariant-loop-field : goal.invariant-loop-field
invariant-loop-field l = string_bytes l.text ≡ field_shown l.fn.first ++ flat_map field_behind_space (take l.field-index l.others)
