use Rattle.std.proofs.Common.{◌≡◌, map, take}
use Rattle.isle_program.proofs.Plain.LaidOut.Order.{Key}
use Rattle.isle_program.proofs.program.by_priority.Given as goal

abbrev pub invariant-loop-key : goal.invariant-loop-key
invariant-loop-key l = l.places.items ≡ map (λ (key : Key). key.1) (take l.key-index l.key-items)
