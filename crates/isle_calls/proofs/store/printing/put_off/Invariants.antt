use Rattle.std.proofs.Common.{◌≡◌, ◌++◌, take, map}
use Rattle.isle_program.specs.Programs.{number_of}
use Rattle.isle_calls.specs.Inside.Stores.Printing.{field_steps}
use Rattle.isle_calls.proofs.store.printing.put_off.Given as goal

-- the steps of so many fields
abbrev pub invariant-loop-i : goal.invariant-loop-i
invariant-loop-i l = l.left.items ≡ l.initial.left.items ++ take l.i (field_steps l.fields (map number_of l.types))
