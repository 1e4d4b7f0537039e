use Rattle.std.proofs.Common.{◌≡◌, ◌++◌, codes, string_bytes}
use Rattle.std.specs.List.{flat_map}
use Rattle.isle_tell.specs.TreeTexts.DotLabels.{escaped}
use Rattle.isle_tell.proofs.trees.quoted.quoted.Given as goal

abbrev pub invariant-loop-c : goal.invariant-loop-c
invariant-loop-c l = string_bytes l.label ≡ codes "\"" ++ flat_map escaped l.yielded
