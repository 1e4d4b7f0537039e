use Rattle.std.proofs.Common.{◌+◌, ◌-◌}
use Rattle.isle_blocks.specs.Inside.Building.Contents.{IsWalk}
use Rattle.isle_blocks.proofs.builder.contents.calls_within.Given as goal

abbrev pub invariant-loop-n : goal.invariant-loop-n
invariant-loop-n l = IsWalk l.bindings l.site (l.site + 1 - l.n) l.marks.items l.calls.items
