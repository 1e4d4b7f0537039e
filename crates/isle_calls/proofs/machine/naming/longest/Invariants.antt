-- The longest name is the longest so far or among those that are left.
use Rattle.std.proofs.Common.{◌≡◌, map, max, drop}
use Rattle.std.specs.Prelude.{string_bytes}
use Rattle.isle_blocks.specs.Building.Naming.{longest_of}
use Rattle.isle_calls.proofs.machine.naming.longest.Given as goal

abbrev pub invariant-loop-name : goal.invariant-loop-name
invariant-loop-name l = max l.most (longest_of (map string_bytes (drop l.name-index l.names))) ≡ longest_of (map string_bytes l.names)
