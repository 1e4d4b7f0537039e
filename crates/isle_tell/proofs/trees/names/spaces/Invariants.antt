use Rattle.std.proofs.Common.{◌≡◌}
use Rattle.std.specs.Prelude.{string_bytes}
use Rattle.isle_tell.specs.TreeTexts.Names.{indent}
use Rattle.isle_tell.proofs.trees.names.spaces.Given as goal

abbrev pub invariant-loop : goal.invariant-loop
invariant-loop l = string_bytes l.text ≡ indent l.counter
