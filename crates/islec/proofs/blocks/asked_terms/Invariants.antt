use Rattle.std.proofs.Common.{map, take}
use Rattle.std.specs.Prelude.{string_bytes}
use Rattle.islec.specs.Drawing.{AreNamed}
use Rattle.islec.proofs.blocks.asked_terms.Given as goal

abbrev pub invariant-loop-name : goal.invariant-loop-name
invariant-loop-name l = AreNamed l.program (map string_bytes (take l.name-index l.names)) l.terms.items
