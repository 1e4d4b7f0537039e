use Rattle.std.proofs.Common.{◌≡◌, None, fold, length, replicate, take}
use Rattle.isle_tell.specs.TreeTexts.DotTypes.{with_rule}
use Rattle.isle_tell.proofs.trees.tested.types_told.Given as goal

abbrev pub invariant-loop-rule : goal.invariant-loop-rule
invariant-loop-rule l = l.types.items ≡ fold with_rule (replicate (length l.sites) None) (take l.rule-index l.rules)
