-- What is asked of a type.
use Rattle.std.specs.Prelude.{Bool, true, false, List, [], map, Option, Some, None}
use Rattle.isle_ast.specs.declared.pos.Pos.{Pos}
use Rattle.isle_types.specs.declared.ids.TypeId.{TypeId}
use Rattle.isle_types.specs.declared.types.StructField.{StructField}
use Rattle.isle_types.specs.declared.types.TupleField.{TupleField}
use Rattle.isle_types.specs.declared.types.Fields.{Fields}
use Rattle.isle_types.specs.declared.types.Fields.TheVariants.{Unit as NoFields, Struct as NamedFields, Tuple as UnnamedFields}
use Rattle.isle_types.specs.declared.types.«Type».{«Type»}
use Rattle.isle_types.specs.declared.types.«Type».TheVariants.{Builtin, Primitive, Enum, Struct}
use Rattle.isle_types.specs.declared.types.BuiltinType.TheVariants.{Bool as BoolType, Int}
use Rattle.isle_types.specs.IntTypes.{builtin_place}

-- the id of a type
abbrev pub id_of : «Type» → TypeId
id_of (Builtin builtin) = record { 0 = builtin_place builtin }
id_of (Primitive id name pos) = id
id_of (Enum name id is_extern is_nodebug variants pos) = id
id_of (Struct name id is_extern is_nodebug fields pos) = id

-- where a type is defined
abbrev pub position_of : «Type» → Option Pos
position_of (Builtin builtin) = None
position_of (Primitive id name pos) = Some pos
position_of (Enum name id is_extern is_nodebug variants pos) = Some pos
position_of (Struct name id is_extern is_nodebug fields pos) = Some pos

-- whether a type is an integer type
abbrev pub is_int_type : «Type» → Bool
is_int_type (Builtin BoolType) = false
is_int_type (Builtin (Int int)) = true
is_int_type (Primitive id name pos) = false
is_int_type (Enum name id is_extern is_nodebug variants pos) = false
is_int_type (Struct name id is_extern is_nodebug fields pos) = false

-- whether a type is one of the host
abbrev pub is_primitive_type : «Type» → Bool
is_primitive_type (Builtin builtin) = false
is_primitive_type (Primitive id name pos) = true
is_primitive_type (Enum name id is_extern is_nodebug variants pos) = false
is_primitive_type (Struct name id is_extern is_nodebug fields pos) = false

-- the types of fields, in order
abbrev pub field_types : Fields → List TypeId
field_types NoFields = []
field_types (NamedFields fields) = map (λ (field : StructField). field.ty) fields.fields
field_types (UnnamedFields fields) = map (λ (field : TupleField). field.ty) fields.fields
