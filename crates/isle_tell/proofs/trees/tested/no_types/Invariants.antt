use Rattle.std.proofs.Common.{◌≡◌, None, replicate}
use Rattle.isle_tell.proofs.trees.tested.no_types.Given as goal

abbrev pub invariant-loop : goal.invariant-loop
invariant-loop l = l.types.items ≡ replicate l.counter None
