use Rattle.std.proofs.Common.{◌≡◌, fold, take}
use Rattle.isle_tell.specs.TreeTexts.DotTypes.{with_test}
use Rattle.isle_tell.proofs.trees.tested.add_rule.Given as goal

abbrev pub invariant-loop-place : goal.invariant-loop-place
invariant-loop-place l = l.types.items ≡ fold with_test l.initial.types.items (take l.place l.tests)
