use Rattle.std.proofs.Common.{◌≡◌, ◌++◌, take, reverse}
use Rattle.isle_values.proofs.values.settling.expect_types.Given as goal

-- those from the end on are expected
abbrev pub invariant-loop-i : goal.invariant-loop-i
invariant-loop-i l = l.expected.items ≡ l.initial.expected.items ++ take l.i (reverse l.types)
