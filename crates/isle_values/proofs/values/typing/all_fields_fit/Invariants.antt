use Rattle.std.proofs.Common.{◌≡◌, ◌<◌, ◌+◌, ℕ, Some, slice_get}
use Rattle.isle_values.specs.declared.values.Node.{Node}
use Rattle.isle_program.specs.Programs.{value_facts}
use Rattle.isle_values.specs.Values.TypedNodes.{FieldsFit}
use Rattle.isle_values.proofs.values.typing.all_fields_fit.Given as goal

-- the fields of the nodes before this one fit
abbrev pub invariant-loop-at : goal.invariant-loop-at
invariant-loop-at l = (k : ℕ) (node : Node) → k < l.at → slice_get l.nodes k ≡ Some node → FieldsFit (value_facts l.program) l.nodes (k + 1) node
