-- Where the pieces of a block end.
use Rattle.std.specs.Prelude.{◌≡◌, ℕ, ◌+◌, List, Some, length, slice_get, unwrap_or}
use Rattle.isle_blocks.specs.declared.serializer.node.Node.{Node}
use Rattle.isle_blocks.specs.declared.serializer.node.Node.TheVariants as nodes

-- the place where what comes after the piece at a place begins, past the last node the place itself
abbrev pub end_in : List ℕ → ℕ → ℕ
end_in ends at = unwrap_or (slice_get ends at) at

-- where a node's piece ends: after its parts
abbrev pub node_end : Node → ℕ → List ℕ → ℕ
node_end nodes.End at ends = at + 1
node_end nodes.NoArm at ends = at + 1
node_end (nodes.Match binds source) at ends = end_in ends (end_in ends (at + 1))
node_end (nodes.Equal binds a b) at ends = end_in ends (end_in ends (at + 1))
node_end (nodes.Loop binds result) at ends = end_in ends (end_in ends (at + 1))
node_end (nodes.Return binds rule pos result) at ends = end_in ends (at + 1)
node_end (nodes.Arm constraint bindings) at ends = end_in ends (end_in ends (at + 1))

-- for each node, where its piece ends
abbrev pub AreEnds : List Node → List ℕ → Type 0
AreEnds nodes ends =
    (length ends ≡ length nodes) × ((at : ℕ) (node : Node) → slice_get nodes at ≡ Some node → end_in ends at ≡ node_end node at ends)
