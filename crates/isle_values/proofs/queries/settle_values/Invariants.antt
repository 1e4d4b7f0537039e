use Rattle.std.proofs.Common.{◌≡◌, length}
use Rattle.std.specs.Vec.Iter.{into_iter_items, into_iter_len}
use Rattle.isle_program.specs.Programs.{value_facts}
use Rattle.isle_values.proofs.GroundValues.SettledValues.{IsSettlingAll}
use Rattle.isle_values.proofs.queries.settle_values.Given as goal

-- the values so far are settled
abbrev pub invariant-loop-value : goal.invariant-loop-value
invariant-loop-value l = record {
  settling : IsSettlingAll (value_facts l.program) l.fn.values.items l.types (into_iter_items l.value-iterator) l.settled.items;
  left : into_iter_len l.value-iterator ≡ length (into_iter_items l.value-iterator);
}
