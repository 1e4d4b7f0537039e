use Rattle.std.proofs.Common.{◌≡◌, ◌++◌}
use Rattle.isle_blocks.proofs.checking.joined.Given as goal

abbrev pub invariant-loop-error : goal.invariant-loop-error
invariant-loop-error l = l.errors.items ≡ l.initial.errors.items ++ l.yielded
