use Rattle.std.proofs.Common.{◌≡◌, ◌++◌}
use Rattle.isle_program.proofs.compiler.append.Given as goal

abbrev pub invariant-loop-def : goal.invariant-loop-def
invariant-loop-def l = l.defs.items ≡ l.initial.defs.items ++ l.yielded
