use Rattle.std.proofs.Common.{◌↔◌, map, drop}
use Rattle.isle_program.specs.Programs.{value_facts, number_of}
use Rattle.isle_values.specs.Values.TypedNodes.{NodesFit}
use Rattle.isle_values.proofs.values.typing.nodes_fit.Given as goal

-- all fit exactly where those fit that are left
abbrev pub invariant-loop-ty : goal.invariant-loop-ty
invariant-loop-ty l = NodesFit (value_facts l.program) l.nodes l.from (map number_of l.types)
    ↔ NodesFit (value_facts l.program) l.nodes l.at (drop l.ty-index (map number_of l.types))
