-- What a store keeps of a value, node by node.
use Rattle.std.specs.Prelude.{ℕ, List, take, drop, Option, Some, None}
use Rattle.std.specs.Int.{w128, cast_signed}
use Rattle.isle_types.specs.TypeEnvs.{type_at}
use Rattle.isle_meaning.specs.Facts.{TermShape, variant_shape, struct_shape, declared_shape}
use Rattle.isle_meaning.specs.ValueTypes.{ValueFacts}
use Rattle.isle_meaning.specs.GroundValues.{type_of_data}
use Rattle.isle_values.specs.declared.values.Node.{Node}
use Rattle.isle_values.specs.declared.values.Node.TheVariants.{Bool as BoolNode, Int as IntNode, Big as BigNode, Const as ConstNode}
use Rattle.isle_values.specs.declared.values.Node.TheVariants.{Opaque as OpaqueNode, Data}
use Rattle.isle_calls.specs.declared.store.Stored.{Stored}
use Rattle.isle_calls.specs.declared.store.Stored.TheVariants.{Bool, Int, Const, Opaque, Variant, Struct}
use Rattle.isle_program.specs.Tables.{variant_at}

-- what is kept of data of this shape and type, by the numbers of its fields
abbrev pub stored_data : Option TermShape → ℕ → List ℕ → Stored
stored_data None ty fields = Struct (type_at ty) fields
stored_data (Some (variant_shape k)) ty fields = Variant (type_at ty) (variant_at k) fields
stored_data (Some struct_shape) ty fields = Struct (type_at ty) fields
stored_data (Some declared_shape) ty fields = Struct (type_at ty) fields

-- what is kept of a node, before the numbers of the values that its fields are among
abbrev pub stored_node : ValueFacts → Node → List ℕ → Stored
stored_node facts (BoolNode b) numbers = Bool b
stored_node facts (IntNode n) numbers = Int n
stored_node facts (BigNode n) numbers = Int (cast_signed w128 n)
stored_node facts (ConstNode name) numbers = Const name
stored_node facts (OpaqueNode n) numbers = Opaque n
stored_node facts (Data name fields nodes) numbers =
    stored_data (facts.shape_named name) (type_of_data (facts.data_named name)) (take fields numbers)

-- the numbers of the values behind a node's own
abbrev pub numbers_left : Node → List ℕ → List ℕ
numbers_left (BoolNode b) numbers = numbers
numbers_left (IntNode n) numbers = numbers
numbers_left (BigNode n) numbers = numbers
numbers_left (ConstNode name) numbers = numbers
numbers_left (OpaqueNode n) numbers = numbers
numbers_left (Data name fields nodes) numbers = drop fields numbers
