-- Values of a type, node by node.
use Rattle.std.specs.Prelude.{◌≡◌, ◌<◌, ◌+◌, ◌^◌, ℕ, List, [], ◌∷◌, Some, length, slice_get}
use Rattle.isle_meaning.specs.ValueTypes.{TypeKind, ValueFacts, IsIntOf, IsBigOf, HasConstants, truth_kind, integer_kind, primitive_kind, data_kind, no_kind}
use Rattle.isle_values.specs.declared.values.Node.{Node}
use Rattle.isle_values.specs.declared.values.Node.TheVariants.{Bool, Int, Big, Const, Opaque, Data}
use Rattle.isle_values.specs.Values.Nodes.{nodes_below}
use Rattle.isle_values.specs.declared.values.typing.Kind.{Kind}
use Rattle.isle_values.specs.declared.values.typing.Kind.TheVariants.{Bool as KindBool, Int as KindInt, Primitive as KindPrimitive, Data as KindData, None as KindNone}

-- a node is that of a value of a type, as far as the node itself tells
abbrev pub NodeFits : ValueFacts → Node → ℕ → Type 0
NodeFits facts (Bool b) ty = facts.kind ty ≡ truth_kind
NodeFits facts (Int n) ty = IsIntOf n (facts.kind ty)
NodeFits facts (Big n) ty = IsBigOf n (facts.kind ty)
NodeFits facts (Const name) ty = (facts.constant name ≡ Some ty) × HasConstants (facts.kind ty)
NodeFits facts (Opaque n) ty = (facts.kind ty ≡ primitive_kind) × (n < 2 ^ 64)
NodeFits facts (Data name fields nodes) ty = (types : List ℕ) × (facts.data_named name ≡ Some (ty, types))

-- the nodes from a place on, each behind all that belongs to the one before, fit these types
abbrev pub NodesFit : ValueFacts → List Node → ℕ → List ℕ → Type 0
NodesFit facts nodes at [] = Unit {0}
NodesFit facts nodes at (ty ∷ types) = (node : Node) × (slice_get nodes at ≡ Some node) × NodeFits facts node ty
    × NodesFit facts nodes (at + 1 + nodes_below node) types

-- the fields of a node behind it fit their types
abbrev pub FieldsFit : ValueFacts → List Node → ℕ → Node → Type 0
FieldsFit facts nodes after (Bool b) = Unit {0}
FieldsFit facts nodes after (Int n) = Unit {0}
FieldsFit facts nodes after (Big n) = Unit {0}
FieldsFit facts nodes after (Const name) = Unit {0}
FieldsFit facts nodes after (Opaque n) = Unit {0}
FieldsFit facts nodes after (Data name fields below) = (ty : ℕ) × (types : List ℕ) × (facts.data_named name ≡ Some (ty, types))
    × (length types ≡ fields) × NodesFit facts nodes after types

-- the fields of each node fit
abbrev pub AllFieldsFit : ValueFacts → List Node → Type 0
AllFieldsFit facts nodes = (at : ℕ) (node : Node) → slice_get nodes at ≡ Some node → FieldsFit facts nodes (at + 1) node

-- what kind of values a type has, as the code has it
abbrev pub shown_kind : Kind → TypeKind
shown_kind KindBool = truth_kind
shown_kind (KindInt int) = integer_kind int
shown_kind KindPrimitive = primitive_kind
shown_kind KindData = data_kind
shown_kind KindNone = no_kind
