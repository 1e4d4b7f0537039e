-- Values that are settled node by node.
use Rattle.std.specs.Prelude.{◌≡◌, ℕ, List, [], length}
use Rattle.std.specs.Int.{w128, cast_signed}
use Rattle.isle_meaning.specs.ValueTypes.{TypeKind, ValueFacts, truth_kind, integer_kind, primitive_kind, data_kind, no_kind}
use Rattle.isle_values.specs.declared.values.Node.{Node}
use Rattle.isle_values.specs.declared.values.Node.TheVariants.{Bool, Int, Big, Const, Opaque, Data}
use Rattle.isle_values.specs.Values.Settled.{field_types}
use Rattle.isle_values.specs.Values.TypedNodes.{NodeFits}

-- the node of a number from 2^127 on, read at a kind of type
abbrev pub number_node : ℕ → TypeKind → Node
number_node n truth_kind = Big n
number_node n (integer_kind int) = Big n
number_node n primitive_kind = Int (cast_signed w128 n)
number_node n data_kind = Big n
number_node n no_kind = Big n

-- a node, read at a kind of type
abbrev pub settled_node : Node → TypeKind → Node
settled_node (Bool b) kind = Bool b
settled_node (Int n) kind = Int n
settled_node (Big n) kind = number_node n kind
settled_node (Const name) kind = Const name
settled_node (Opaque n) kind = Opaque n
settled_node (Data name fields nodes) kind = Data name fields nodes

-- how many fields a node has
abbrev pub field_count : Node → ℕ
field_count (Bool b) = 0
field_count (Int n) = 0
field_count (Big n) = 0
field_count (Const name) = 0
field_count (Opaque n) = 0
field_count (Data name fields nodes) = fields

-- the types of a node's fields
abbrev pub types_below : ValueFacts → Node → List ℕ
types_below facts (Bool b) = []
types_below facts (Int n) = []
types_below facts (Big n) = []
types_below facts (Const name) = []
types_below facts (Opaque n) = []
types_below facts (Data name fields nodes) = field_types (facts.data_named name)

-- a node is that of a value of a type, as far as the node and the number of its fields tell
abbrev pub FitsWithFields : ValueFacts → Node → ℕ → Type 0
FitsWithFields facts node ty = NodeFits facts node ty × (length (types_below facts node) ≡ field_count node)
