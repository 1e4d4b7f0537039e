use Rattle.std.proofs.Common.{string_bytes, take}
use Rattle.isle_values.proofs.GroundValues.HeldNodes.{EachHeld}
use Rattle.isle_values.proofs.GroundValues.Printing.{IsPrinted}
use Rattle.isle_values.proofs.values.Value.print.Given as goal

-- the nodes before this place are written
abbrev pub invariant-loop-at : goal.invariant-loop-at
invariant-loop-at l = record { printed : IsPrinted l.self l.nodes l.at l.ends.items (string_bytes l.text); held : EachHeld (take l.at l.nodes) }
