use Rattle.std.proofs.Common.{◌≡◌, drop}
use Rattle.isle_layout.specs.Writable.{writable_tuple_fields}
use Rattle.isle_layout.proofs.writable.writable_tuple_fields.Given as goal

abbrev pub invariant-loop-i : goal.invariant-loop-i
invariant-loop-i l = writable_tuple_fields l.i (drop l.i l.fields) ≡ writable_tuple_fields 0 l.fields
