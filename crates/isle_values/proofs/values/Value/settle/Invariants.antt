use Rattle.std.proofs.Common.{◌≡◌, length, map, reverse}
use Rattle.isle_program.specs.Programs.{value_facts, number_of}
use Rattle.isle_values.specs.Values.Settled.{settled}
use Rattle.isle_values.proofs.GroundValues.Settling.{IsSettling}
use Rattle.isle_values.proofs.values.Value.settle.Given as goal

-- the nodes before this one are settled
abbrev pub invariant-loop-at : goal.invariant-loop-at
invariant-loop-at l = record {
  settling : IsSettling (value_facts l.program) (settled (value_facts l.program) l.fn.self l.fn.ty.0) l.fn.ty.0 l.nodes.items l.at
      (map number_of (reverse l.expected.items));
  as_long : length l.nodes.items ≡ length l.initial.nodes.items;
}
