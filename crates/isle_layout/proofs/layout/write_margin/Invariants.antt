use Rattle.std.proofs.Common.{◌≡◌, ◌++◌, string_bytes}
use Rattle.isle_layout.specs.Keeping.LaidOut.{margin}
use Rattle.isle_layout.proofs.layout.write_margin.Given as goal

abbrev pub invariant-loop-level : goal.invariant-loop-level
invariant-loop-level l = string_bytes l.out ≡ string_bytes l.initial.out ++ margin l.level
