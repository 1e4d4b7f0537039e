-- What an environment of types shows: types by name, and constants.
use Rattle.std.specs.Prelude.{◌≡◌, ℕ, suc, Bool, List, [], ◌∷◌, ◌++◌, map, All, Option, Some, slice_get, codes}
use Rattle.std.specs.Option.{option_map, option_and_then}
use Rattle.std.specs.List.{AllZip}
use Rattle.std.specs.Str.{bytes_eq}
use Rattle.isle_types.specs.declared.ids.Sym.{Sym}
use Rattle.isle_types.specs.declared.ids.TypeId.{TypeId}
use Rattle.isle_types.specs.declared.ids.VariantId.{VariantId}
use Rattle.isle_ast.specs.Positions.Files.{SourceFile}
use Rattle.isle_ast.specs.Positions.Printable.{IsPrintablePos}
use Rattle.isle_ast.specs.Errors.{IsPrintable}
use Rattle.isle_types.specs.declared.types.StructField.{StructField}
use Rattle.isle_types.specs.declared.types.TupleField.{TupleField}
use Rattle.isle_types.specs.declared.types.Fields.{Fields}
use Rattle.isle_types.specs.declared.types.Fields.TheVariants.{Unit as NoFields, Struct as NamedFields, Tuple as UnnamedFields}
use Rattle.isle_types.specs.declared.types.Variant.{Variant}
use Rattle.isle_types.specs.declared.types.«Type».{«Type» as KnownType}
use Rattle.isle_types.specs.declared.types.«Type».TheVariants.{Builtin, Primitive, Enum, Struct}
use Rattle.isle_types.specs.IntTypes.{builtin_name, builtin_types}
use Rattle.isle_types.specs.Types.{id_of}
use Rattle.isle_types.specs.Names.{position_of, KeepsNames, AreDistinct}
use Rattle.isle_containers.specs.StableMaps.{value_at}
use Rattle.isle_types.specs.TypeTables.{TypeTables}
use Rattle.isle_ast.specs.declared.ast.Def.{Def}
use Rattle.isle_types.specs.Environment.{Environment, Makes, NamedType, NamedVariant, FieldList, no_fields, named_fields, tuple_fields, TypeShape}
use Rattle.isle_types.specs.Environment.{primitive, enum, struct, names_in, constant_in}
use Rattle.isle_types.specs.TypePositions.{TypeAt}

-- the positions of its types and its errors can be printed
pub record HasPrintablePositions (files : List SourceFile) (env : TypeTables) : Type 0 where
  pub types : All (TypeAt (IsPrintablePos files)) env.types
  pub errors : All (IsPrintable files) env.errors

-- the symbol of a place
abbrev pub symbol_at : ℕ → Sym
symbol_at place = record { 0 = place }

-- the type of a number
abbrev pub type_at : ℕ → TypeId
type_at number = record { 0 = number }

-- the symbol of a name
abbrev pub sym_named : TypeTables → List ℕ → Option Sym
sym_named env name = option_map symbol_at (position_of env.names name)

-- the name of a symbol
abbrev pub name_of : TypeTables → Sym → Option (List ℕ)
name_of env sym = slice_get env.names sym.0

-- the type of a name
abbrev pub type_of_name : TypeTables → List ℕ → Option TypeId
type_of_name env name = value_at bytes_eq env.numbers name

-- the type of the constant of a name
abbrev pub type_of_constant : TypeTables → List ℕ → Option TypeId
type_of_constant env name = value_at bytes_eq env.constants name

-- names may have come, and none has gone; all else is as it was
pub record HasMoreNames (old new : TypeTables) : Type 0 where
  pub kept : KeepsNames old.names new.names
  pub same : new ≡ record old { names = new.names }

-- the name that a type's values have in the host: a builtin type's own, and else the name of its symbol
abbrev pub type_name : TypeTables → KnownType → Option (List ℕ)
type_name env (Builtin builtin) = Some (builtin_name builtin)
type_name env (Primitive id name pos) = name_of env name
type_name env (Enum name id is_extern is_nodebug variants pos) = name_of env name
type_name env (Struct name id is_extern is_nodebug fields pos) = name_of env name

-- the variants of a type; none where it is no enum
abbrev pub variants_of : KnownType → List Variant
variants_of (Builtin builtin) = []
variants_of (Primitive id name pos) = []
variants_of (Enum name id is_extern is_nodebug variants pos) = variants
variants_of (Struct name id is_extern is_nodebug fields pos) = []

-- a variant of a type
abbrev pub variant_of : TypeTables → TypeId → VariantId → Option Variant
variant_of env ty variant = option_and_then (λ (type : KnownType). slice_get (variants_of type) variant.0) (slice_get env.types ty.0)

-- the numbers of the items count up from n
abbrev pub CountUp : {X : Type 0} → (X → ℕ) → ℕ → List X → Type 0
CountUp number n [] = Unit {0}
CountUp number n (x ∷ xs) = (number x ≡ n) × CountUp number (suc n) xs

-- a named field, where these are the interned names
pub record IsShownField (names : List (List ℕ)) (field : List ℕ × ℕ) (made : StructField) : Type 0 where
  pub name : slice_get names made.name.0 ≡ Some field.0
  pub type : made.ty.0 ≡ field.1

-- a field without a name
abbrev pub IsShownTupleField : ℕ → TupleField → Type 0
IsShownTupleField number made = made.ty.0 ≡ number

-- fields, whose ids count up
abbrev pub AreShownFields : List (List ℕ) → FieldList → Fields → Type 0
AreShownFields names no_fields NoFields = Unit {0}
AreShownFields names (named_fields fields) (NamedFields made) = AllZip (IsShownField names) fields made.fields
    × CountUp (λ (field : StructField). field.id.0) 0 made.fields
AreShownFields names (tuple_fields numbers) (UnnamedFields made) = AllZip IsShownTupleField numbers made.fields
    × CountUp (λ (field : TupleField). field.id.0) 0 made.fields
AreShownFields names _ _ = ⊥

-- a variant of the type of a name; its full name is `type.variant`
pub record IsShownVariant (names : List (List ℕ)) (type : List ℕ) (variant : NamedVariant) (made : Variant) : Type 0 where
  pub name : slice_get names made.name.0 ≡ Some variant.name
  pub fullname : slice_get names made.fullname.0 ≡ Some (type ++ codes "." ++ variant.name)
  pub fields : AreShownFields names variant.fields made.fields
  pub pos : made.pos ≡ variant.pos

-- variants of the type of a name, whose ids count up
abbrev pub AreShownVariants : List (List ℕ) → List ℕ → List NamedVariant → List Variant → Type 0
AreShownVariants names type variants made = AllZip (IsShownVariant names type) variants made × CountUp (λ (variant : Variant). variant.id.0) 0 made

-- what an enum or struct has beside its shape
pub record IsShownAs (names : List (List ℕ)) (type : NamedType) (sym : Sym) (extern_mark nodebug_mark : Bool) : Type 0 where
  pub name : slice_get names sym.0 ≡ Some type.name
  pub is_extern : extern_mark ≡ type.is_extern
  pub is_nodebug : nodebug_mark ≡ type.is_nodebug

-- what a type is made of
abbrev pub IsShownShape : List (List ℕ) → NamedType → TypeShape → KnownType → Type 0
IsShownShape names type (primitive host) (Primitive id name pos) = slice_get names name.0 ≡ Some host
IsShownShape names type (enum variants) (Enum name id is_extern is_nodebug made pos) = IsShownAs names type name is_extern is_nodebug
    × AreShownVariants names type.name variants made
IsShownShape names type (struct fields) (Struct name id is_extern is_nodebug made pos) = IsShownAs names type name is_extern is_nodebug
    × AreShownFields names fields made
IsShownShape names type _ _ = ⊥

-- where a defined type stands
abbrev pub StandsAt : KnownType → NamedType → Type 0
StandsAt (Builtin builtin) type = ⊥
StandsAt (Primitive id name pos) type = pos ≡ type.pos
StandsAt (Enum name id is_extern is_nodebug variants pos) type = pos ≡ type.pos
StandsAt (Struct name id is_extern is_nodebug fields pos) type = pos ≡ type.pos

-- a type, where these are the interned names
pub record IsShown (names : List (List ℕ)) (type : NamedType) (made : KnownType) : Type 0 where
  pub shape : IsShownShape names type type.shape made
  pub pos : StandsAt made type

-- an environment of types shows this one: its types in order, whose ids count up, and its tables of names
pub record Shows (env : TypeTables) (environment : Environment) : Type 0 where
  pub made : List KnownType
  pub all : env.types ≡ map Builtin builtin_types ++ made
  pub types : AllZip (IsShown env.names) environment.types made
  pub counted : CountUp (λ (type : KnownType). (id_of type).0) 0 env.types
  pub named : (name : List ℕ) → type_of_name env name ≡ option_map type_at (position_of (names_in environment) name)
  pub constants : (name : List ℕ) → type_of_constant env name ≡ option_map type_at (constant_in environment.constants name)

-- an environment of types is that of definitions: it shows what they make, and each name is interned once
pub record IsEnvironmentOf (defs : List Def) (env : TypeTables) : Type 0 where
  pub environment : Environment
  pub makes : Makes defs environment
  pub shows : Shows env environment
  pub once : AreDistinct env.names
