-- The names of fields.
use Rattle.std.specs.Prelude.{ℕ, List, Option, None, Some, ◌++◌, codes, slice_get}
use Rattle.std.specs.Fmt.{decimal}
use Rattle.std.specs.Option.{option_and_then, option_map, option_map_or}
use Rattle.isle_types.specs.declared.ids.TypeId.{TypeId}
use Rattle.isle_types.specs.declared.ids.VariantId.{VariantId}
use Rattle.isle_types.specs.declared.types.Fields.{Fields}
use Rattle.isle_types.specs.declared.types.Fields.TheVariants.{Unit as NoFields, Struct as NamedFields, Tuple as UnnamedFields}
use Rattle.isle_types.specs.declared.types.StructField.{StructField}
use Rattle.isle_types.specs.declared.types.Variant.{Variant}
use Rattle.isle_types.specs.declared.types.«Type».{«Type» as KnownType}
use Rattle.isle_types.specs.declared.types.«Type».TheVariants.{Builtin, Primitive, Enum, Struct}
use Rattle.isle_types.specs.TypeEnvs.{variant_of}
use Rattle.isle_program.specs.declared.program.Program.{Program}
use Rattle.isle_program.specs.Programs.{types_of}
use Rattle.isle_tell.specs.TreeTexts.Names.{symbol_name, type_name_of, variant_name}

-- the fields of a type that is a struct
abbrev pub fields_within : KnownType → Option Fields
fields_within (Builtin builtin) = None
fields_within (Primitive id name pos) = None
fields_within (Enum name id is_extern is_nodebug variants pos) = None
fields_within (Struct name id is_extern is_nodebug fields pos) = Some fields

-- the fields of a struct
abbrev pub struct_fields : Program → TypeId → Option Fields
struct_fields program ty = option_and_then fields_within (slice_get (types_of program).types ty.0)

-- the fields of a variant
abbrev pub variant_fields : Program → TypeId → VariantId → Option Fields
variant_fields program ty variant = option_map (λ (found : Variant). found.fields) (variant_of (types_of program) ty variant)

-- the field at a place, where fields have names
abbrev pub field_within : ℕ → Fields → Option StructField
field_within field NoFields = None
field_within field (NamedFields named) = slice_get named.fields field
field_within field (UnnamedFields unnamed) = None

-- a named field
abbrev pub named_field : Option Fields → ℕ → Option StructField
named_field fields field = option_and_then (field_within field) fields

-- the name of a field; its number where it has none
abbrev pub field_name : Program → Option Fields → ℕ → List ℕ
field_name program fields field = option_map_or (λ (named : StructField). symbol_name program named.name) (named_field fields field) (decimal field)

-- a field of a type that isn't known
abbrev pub numbered_field : ℕ → List ℕ
numbered_field field = codes "field " ++ decimal field

-- `TYPE.VARIANT.FIELD`
abbrev pub variant_field : Program → Option TypeId → VariantId → ℕ → List ℕ
variant_field program None variant field = numbered_field field
variant_field program (Some ty) variant field =
    variant_name program ty variant ++ (codes "." ++ field_name program (variant_fields program ty variant) field)

-- `TYPE.FIELD`
abbrev pub struct_field : Program → Option TypeId → ℕ → List ℕ
struct_field program None field = numbered_field field
struct_field program (Some ty) field = type_name_of program ty ++ (codes "." ++ field_name program (struct_fields program ty) field)
