use Rattle.std.proofs.Common.{◌↔◌, ◌≤◌, map, drop, length}
use Rattle.isle_rules.specs.Values.{value_list}
use Rattle.isle_meaning.specs.ValueTypes.{AreOfTypes}
use Rattle.isle_program.specs.Programs.{value_facts, number_of}
use Rattle.isle_calls.proofs.host.have_types.Given as goal

abbrev pub invariant-loop-i : goal.invariant-loop-i
invariant-loop-i l = record {
  same : AreOfTypes (value_facts l.program) (value_list l.values) (map number_of l.types)
      ↔ AreOfTypes (value_facts l.program) (value_list (drop l.i l.values)) (map number_of (drop l.i l.types));
  within : l.i ≤ length l.types;
}
