-- The types and constants that definitions make, by name. Types are counted: the builtin ones from 0, the defined ones after them.
use Rattle.std.specs.Prelude.{◌≡◌, ℕ, ◌+◌, ◌<◌, ◌≤◌, Bool, true, false, List, [], ◌∷◌, ◌++◌, map, length, slice_get, filter_map, Option, Some}
use Rattle.std.specs.Prelude.{None, Contains, if◌then◌else◌, is_some}
use Rattle.std.specs.List.{AllZip, AllByRecursion}
use Rattle.std.specs.Str.{bytes_eq}
use Rattle.isle_ast.specs.declared.pos.Pos.{Pos}
use Rattle.isle_ast.specs.declared.ast.Ident.{Ident}
use Rattle.isle_ast.specs.declared.ast.StructField.{StructField}
use Rattle.isle_ast.specs.declared.ast.TupleField.{TupleField}
use Rattle.isle_ast.specs.declared.ast.Fields.{Fields}
use Rattle.isle_ast.specs.declared.ast.Fields.TheVariants.{Unit as no_field_trees, Struct as struct_field_trees, Tuple as tuple_field_trees}
use Rattle.isle_ast.specs.declared.ast.Variant.{Variant}
use Rattle.isle_ast.specs.declared.ast.TypeValue.{TypeValue}
use Rattle.isle_ast.specs.declared.ast.TypeValue.TheVariants.{Primitive, Enum, Struct}
use Rattle.isle_ast.specs.declared.ast.«Type».{«Type» as TypeTree}
use Rattle.isle_ast.specs.declared.ast.Extern.{Extern as ExternTree}
use Rattle.isle_ast.specs.declared.ast.Extern.TheVariants.{Constructor as extern_constructor, Extractor as extern_extractor}
use Rattle.isle_ast.specs.declared.ast.Extern.TheVariants.{Const as extern_const}
use Rattle.isle_ast.specs.declared.ast.Def.{Def}
use Rattle.isle_ast.specs.declared.ast.Def.TheVariants.{TypeDef, Decl, Rule, Extractor, Extern, Converter, Pragma, Kept}
use Rattle.isle_types.specs.IntTypes.{builtin_names}
use Rattle.isle_types.specs.Names.{AreDistinct}

-- the fields of a variant or struct, each with the number of its type
pub data FieldList : Type 0 where
  no_fields : FieldList
  named_fields : List (List ℕ × ℕ) → FieldList
  tuple_fields : List ℕ → FieldList

pub record NamedVariant : Type 0 where
  pub name : List ℕ
  pub fields : FieldList
  pub pos : Pos

-- what a type is: the host's type of a name, variants, or one list of fields
pub data TypeShape : Type 0 where
  primitive : List ℕ → TypeShape
  enum : List NamedVariant → TypeShape
  struct : FieldList → TypeShape

pub record NamedType : Type 0 where
  pub name : List ℕ
  pub is_extern : Bool
  pub is_nodebug : Bool
  pub shape : TypeShape
  pub pos : Pos

-- the defined types in order, and each `extern const` with the number of its type
pub record Environment : Type 0 where
  pub types : List NamedType
  pub constants : List (List ℕ × ℕ)

-- a definition of a type
abbrev pub as_type : Def → Option TypeTree
as_type (TypeDef type) = Some type
as_type (Decl _) = None
as_type (Rule _) = None
as_type (Extractor _) = None
as_type (Extern _) = None
as_type (Converter _) = None
as_type (Pragma _) = None
as_type (Kept _) = None

-- the definitions of types, in order
abbrev pub type_definitions : List Def → List TypeTree
type_definitions defs = filter_map as_type defs

-- a constant's name and the name of its type
abbrev pub as_external_constant : ExternTree → Option (Ident × Ident)
as_external_constant (extern_constructor _ _ _) = None
as_external_constant (extern_extractor _ _ _ _) = None
as_external_constant (extern_const name type _) = Some (name, type)

-- a definition of a constant
abbrev pub as_constant : Def → Option (Ident × Ident)
as_constant (TypeDef _) = None
as_constant (Decl _) = None
as_constant (Rule _) = None
as_constant (Extractor _) = None
as_constant (Extern external) = as_external_constant external
as_constant (Converter _) = None
as_constant (Pragma _) = None
as_constant (Kept _) = None

-- the definitions of constants, in order
abbrev pub constant_definitions : List Def → List (Ident × Ident)
constant_definitions defs = filter_map as_constant defs

-- the names of the types, each at the place of its type's number
abbrev pub type_names : List Def → List (List ℕ)
type_names defs = builtin_names ++ map (λ (type : TypeTree). type.name.0) (type_definitions defs)

-- a field's name, and the number of its type among these names
pub record IsField (known : List (List ℕ)) (tree : StructField) (field : List ℕ × ℕ) : Type 0 where
  pub name : field.0 ≡ tree.name.0
  pub type : slice_get known field.1 ≡ Some tree.ty.0

-- the number of the type of a field without a name
abbrev pub IsTupleField : List (List ℕ) → TupleField → ℕ → Type 0
IsTupleField known tree number = slice_get known number ≡ Some tree.ty.0

-- the fields that trees stand for; no two have one name
abbrev pub AreFields : List (List ℕ) → Fields → FieldList → Type 0
AreFields known no_field_trees no_fields = Unit {0}
AreFields known (struct_field_trees trees) (named_fields fields) = AllZip (IsField known) trees.fields fields
    × AreDistinct (map (λ (field : List ℕ × ℕ). field.0) fields)
AreFields known (tuple_field_trees trees) (tuple_fields numbers) = AllZip (IsTupleField known) trees.fields numbers
AreFields known _ _ = ⊥

-- the variant that a tree stands for
pub record IsVariant (known : List (List ℕ)) (tree : Variant) (variant : NamedVariant) : Type 0 where
  pub name : variant.name ≡ tree.name.0
  pub fields : AreFields known tree.fields variant.fields
  pub pos : variant.pos ≡ tree.pos

-- what a type is made of; no two variants have one name
abbrev pub IsShape : List (List ℕ) → TypeValue → TypeShape → Type 0
IsShape known (Primitive host _) (primitive name) = name ≡ host.0
IsShape known (Enum trees _) (enum variants) = AllZip (IsVariant known) trees variants
    × AreDistinct (map (λ (variant : NamedVariant). variant.name) variants)
IsShape known (Struct trees _) (struct fields) = AreFields known trees fields
IsShape known _ _ = ⊥

-- the marks that a type may have: none on a primitive, one at most on another
abbrev pub MayBeMarked : TypeValue → Bool → Bool → Type 0
MayBeMarked (Primitive _ _) is_extern is_nodebug = (is_extern ≡ false) × (is_nodebug ≡ false)
MayBeMarked (Enum _ _) is_extern is_nodebug = is_extern ≡ true → is_nodebug ≡ false
MayBeMarked (Struct _ _) is_extern is_nodebug = is_extern ≡ true → is_nodebug ≡ false

-- the type that a definition makes
pub record IsType (known : List (List ℕ)) (tree : TypeTree) (type : NamedType) : Type 0 where
  pub name : type.name ≡ tree.name.0
  pub is_extern : type.is_extern ≡ tree.is_extern
  pub is_nodebug : type.is_nodebug ≡ tree.is_nodebug
  pub marks : MayBeMarked tree.ty tree.is_extern tree.is_nodebug
  pub shape : IsShape known tree.ty type.shape
  pub pos : type.pos ≡ tree.pos

-- the constant that a definition makes
pub record IsConstant (known : List (List ℕ)) (tree : Ident × Ident) (constant : List ℕ × ℕ) : Type 0 where
  pub name : constant.0 ≡ tree.0.0
  pub type : slice_get known constant.1 ≡ Some tree.1.0

-- definitions keep the rules of types and constants, and make this environment
pub record Makes (defs : List Def) (environment : Environment) : Type 0 where
  pub names : AreDistinct (type_names defs)
  pub types : AllZip (IsType (type_names defs)) (type_definitions defs) environment.types
  pub constants : AllZip (IsConstant (type_names defs)) (constant_definitions defs) environment.constants

-- how many fields a list has
abbrev pub field_count : Fields → ℕ
field_count no_field_trees = 0
field_count (struct_field_trees trees) = length trees.fields
field_count (tuple_field_trees trees) = length trees.fields

-- no variant has more fields than it may have
abbrev pub HaveAllowedSizes : List Variant → Type 0
HaveAllowedSizes trees = AllByRecursion (λ (tree : Variant). field_count tree.fields ≤ 255) trees

-- no list of fields of a type is longer than it may be
abbrev pub HasAllowedSize : TypeValue → Type 0
HasAllowedSize (Primitive _ _) = Unit {0}
HasAllowedSize (Enum trees _) = HaveAllowedSizes trees
HasAllowedSize (Struct trees _) = field_count trees ≤ 255

-- the types of the definitions have allowed sizes
abbrev pub AreWithinSizes : List Def → Type 0
AreWithinSizes defs = AllByRecursion (λ (tree : TypeTree). HasAllowedSize tree.ty) (type_definitions defs)

-- definitions that keep the rules, within the sizes: they make an environment
abbrev pub HaveEnvironment : List Def → Type 0
HaveEnvironment defs = (environment : Environment) × (Makes defs environment × AreWithinSizes defs)

-- no types but the builtin ones, and no constants
abbrev pub builtin_environment : Environment
builtin_environment = record { types = []; constants = [] }

-- the names of an environment's types, each at the place of its type's number
abbrev pub names_in : Environment → List (List ℕ)
names_in environment = builtin_names ++ map (λ (type : NamedType). type.name) environment.types

-- the number of a constant's type, by the last of the constants of its name
abbrev pub constant_in : List (List ℕ × ℕ) → List ℕ → Option ℕ
constant_in [] name = None
constant_in (constant ∷ constants) name =
    if is_some (constant_in constants name) then constant_in constants name
    else (if bytes_eq name constant.0 then Some constant.1 else None)

-- the numbers of the types of fields, in order
abbrev pub numbers_in : FieldList → List ℕ
numbers_in no_fields = []
numbers_in (named_fields fields) = map (λ (field : List ℕ × ℕ). field.1) fields
numbers_in (tuple_fields numbers) = numbers

mutual
  -- the type of a number has a value: a builtin or host's type has, a struct whose fields' types have, and an enum with a
  -- variant whose fields' types have
  pub data IsInhabited (environment : Environment) : ℕ → Type 0 where
    builtin_inhabited : (number : ℕ) → number < length builtin_names → IsInhabited environment number
    primitive_inhabited : (place : ℕ) (type : NamedType) (host : List ℕ) → slice_get environment.types place ≡ Some type
        → type.shape ≡ primitive host → IsInhabited environment (length builtin_names + place)
    struct_inhabited : (place : ℕ) (type : NamedType) (fields : FieldList) → slice_get environment.types place ≡ Some type
        → type.shape ≡ struct fields → AreInhabited environment (numbers_in fields) → IsInhabited environment (length builtin_names + place)
    variant_inhabited : (place : ℕ) (type : NamedType) (variants : List NamedVariant) (variant : NamedVariant)
        → slice_get environment.types place ≡ Some type → type.shape ≡ enum variants → Contains variants variant
        → AreInhabited environment (numbers_in variant.fields) → IsInhabited environment (length builtin_names + place)

  -- so have the types of these numbers
  pub data AreInhabited (environment : Environment) : List ℕ → Type 0 where
    none_inhabited : AreInhabited environment []
    more_inhabited : (number : ℕ) (numbers : List ℕ) → IsInhabited environment number → AreInhabited environment numbers
        → AreInhabited environment (number ∷ numbers)
