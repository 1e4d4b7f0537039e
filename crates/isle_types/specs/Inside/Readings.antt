-- What stands in an environment while definitions are read into it.
use Rattle.std.specs.Prelude.{◌≡◌, ℕ, ◌<◌, List, ◌++◌, map}
use Rattle.std.specs.Option.{option_map}
use Rattle.std.specs.List.{AllZip}
use Rattle.isle_ast.specs.declared.pos.Pos.{Pos}
use Rattle.isle_ast.specs.declared.error.Error.{Error}
use Rattle.isle_ast.specs.declared.ast.Fields.{Fields as FieldTrees}
use Rattle.isle_ast.specs.declared.ast.Fields.TheVariants.{Struct as struct_field_trees, Tuple as tuple_field_trees}
use Rattle.isle_ast.specs.declared.ast.StructField.{StructField as StructFieldTree}
use Rattle.isle_ast.specs.declared.ast.TupleField.{TupleField as TupleFieldTree}
use Rattle.isle_ast.specs.declared.ast.Variant.{Variant as VariantTree}
use Rattle.isle_ast.specs.declared.ast.«Type».{«Type» as TypeTree}
use Rattle.isle_ast.specs.declared.ast.Ident.{Ident}
use Rattle.isle_types.specs.declared.types.StructField.{StructField}
use Rattle.isle_types.specs.declared.types.TupleField.{TupleField}
use Rattle.isle_types.specs.declared.types.Fields.{Fields}
use Rattle.isle_types.specs.declared.types.Variant.{Variant}
use Rattle.isle_types.specs.declared.types.«Type».{«Type» as KnownType}
use Rattle.isle_types.specs.declared.types.«Type».TheVariants.{Builtin}
use Rattle.isle_types.specs.IntTypes.{builtin_types}
use Rattle.isle_types.specs.Types.{id_of}
use Rattle.isle_types.specs.Names.{position_of}
use Rattle.isle_types.specs.Environment.{NamedType, NamedVariant, FieldList, IsField, IsTupleField, AreFields, IsVariant, IsType, IsConstant}
use Rattle.isle_types.specs.Environment.{constant_in, field_count, HaveAllowedSizes, HasAllowedSize}
use Rattle.isle_types.specs.TypeFaults.{FieldsBreak, VariantsBreak, TypeBreaks, IsTypeOrSize, IsTypeFault, IsSizeFault}
pub use Rattle.isle_types.specs.TypeFaults.{AreTypeFaults, IsLoneSizeFault}
use Rattle.isle_types.specs.TypeTables.{TypeTables}
use Rattle.isle_types.specs.TypeEnvs.{type_of_name, type_of_constant, type_at, CountUp, IsShownField, IsShownTupleField, AreShownFields}
use Rattle.isle_types.specs.TypeEnvs.{IsShownVariant, IsShown}

-- its table of types has exactly these names, each with its place
abbrev pub HasTypeNames : TypeTables → List (List ℕ) → Type 0
HasTypeNames env known = (name : List ℕ) → type_of_name env name ≡ option_map type_at (position_of known name)

-- named fields are those of their trees
pub record ReadsFields (known names : List (List ℕ)) (trees : List StructFieldTree) (made : List StructField) : Type 0 where
  pub fields : List (List ℕ × ℕ)
  pub meant : AllZip (IsField known) trees fields
  pub shown : AllZip (IsShownField names) fields made
  pub counted : CountUp (λ (field : StructField). field.id.0) 0 made

-- fields without names are those of their trees
pub record ReadsTupleFields (known : List (List ℕ)) (trees : List TupleFieldTree) (made : List TupleField) : Type 0 where
  pub numbers : List ℕ
  pub meant : AllZip (IsTupleField known) trees numbers
  pub shown : AllZip IsShownTupleField numbers made
  pub counted : CountUp (λ (field : TupleField). field.id.0) 0 made

-- the fields of a variant or struct are those of their tree
pub record ReadsFieldList (known names : List (List ℕ)) (tree : FieldTrees) (made : Fields) : Type 0 where
  pub fields : FieldList
  pub meant : AreFields known tree fields
  pub shown : AreShownFields names fields made

-- variants of the type of a name are those of their trees
pub record ReadsVariants (known names : List (List ℕ)) (type : List ℕ) (trees : List VariantTree) (made : List Variant) : Type 0 where
  pub variants : List NamedVariant
  pub meant : AllZip (IsVariant known) trees variants
  pub shown : AllZip (IsShownVariant names type) variants made
  pub counted : CountUp (λ (variant : Variant). variant.id.0) 0 made

-- a variant is that of its tree
pub record ReadsVariant (known names : List (List ℕ)) (type : List ℕ) (tree : VariantTree) (made : Variant) : Type 0 where
  pub variant : NamedVariant
  pub meant : IsVariant known tree variant
  pub shown : IsShownVariant names type variant made

-- a type is that of its definition
pub record ReadsType (known names : List (List ℕ)) (tree : TypeTree) (made : KnownType) : Type 0 where
  pub type : NamedType
  pub meant : IsType known tree type
  pub shown : IsShown names type made

-- types are those of their definitions
pub record ReadsTypes (known names : List (List ℕ)) (trees : List TypeTree) (made : List KnownType) : Type 0 where
  pub types : List NamedType
  pub meant : AllZip (IsType known) trees types
  pub shown : AllZip (IsShown names) types made

-- constants are those of their definitions
pub record ReadsConstants (known : List (List ℕ)) (env : TypeTables) (trees : List (Ident × Ident)) : Type 0 where
  pub constants : List (List ℕ × ℕ)
  pub meant : AllZip (IsConstant known) trees constants
  pub shown : (name : List ℕ) → type_of_constant env name ≡ option_map type_at (constant_in constants name)

-- a fault of fields in the definition at a position
abbrev pub IsFieldsFault : List (List ℕ) → Pos → FieldTrees → Error → Type 0
IsFieldsFault known here fields = IsTypeOrSize (FieldsBreak known fields) (λ pos. (pos ≡ here) × (255 < field_count fields))

-- a fault of named fields: at a rule that they break
abbrev pub IsStructFieldsFault : List (List ℕ) → List StructFieldTree → Error → Type 0
IsStructFieldsFault known trees = IsTypeFault (FieldsBreak known (struct_field_trees (record { fields = trees })))

-- a fault of fields without names: at a rule that they break
abbrev pub IsTupleFieldsFault : List (List ℕ) → List TupleFieldTree → Error → Type 0
IsTupleFieldsFault known trees = IsTypeFault (FieldsBreak known (tuple_field_trees (record { fields = trees })))

-- a fault of variants in the definition at a position
abbrev pub IsVariantsFault : List (List ℕ) → Pos → List VariantTree → Error → Type 0
IsVariantsFault known here variants = IsTypeOrSize (VariantsBreak known variants) (λ pos. (pos ≡ here) × (HaveAllowedSizes variants → ⊥))

-- a fault of a definition of a type
abbrev pub IsDefinitionFault : List (List ℕ) → TypeTree → Error → Type 0
IsDefinitionFault known tree = IsTypeOrSize (TypeBreaks known tree) (λ pos. (pos ≡ tree.pos) × (HasAllowedSize tree.ty → ⊥))

-- a type error at a position
abbrev pub IsTypeErrorAt : Pos → Error → Type 0
IsTypeErrorAt here error = IsTypeFault (λ pos. pos ≡ here) error

-- a size error at a position
abbrev pub IsSizeErrorAt : Pos → Error → Type 0
IsSizeErrorAt here error = IsSizeFault (λ pos. pos ≡ here) error

-- the types that were read, if nothing is wrong so far: their ids count up, and each is that of its definition
pub record HasReadTypes (trees : List TypeTree) (known : List (List ℕ)) (env : TypeTables) : Type 0 where
  pub made : List KnownType
  pub all : env.types ≡ map Builtin builtin_types ++ made
  pub read : ReadsTypes known env.names trees made
  pub counted : CountUp (λ (type : KnownType). (id_of type).0) 0 env.types
