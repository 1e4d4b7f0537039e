-- Where definitions break a rule of types or constants.
use Rattle.std.specs.Prelude.{◌≡◌, ◌⊎◌, ℕ, ◌+◌, ◌<◌, List, [], ◌∷◌, map, length, slice_get, Some, None, All}
use Rattle.isle_ast.specs.declared.pos.Pos.{Pos}
use Rattle.isle_ast.specs.declared.ast.Ident.{Ident}
use Rattle.isle_ast.specs.declared.ast.StructField.{StructField}
use Rattle.isle_ast.specs.declared.ast.TupleField.{TupleField}
use Rattle.isle_ast.specs.declared.ast.Fields.{Fields}
use Rattle.isle_ast.specs.declared.ast.Fields.TheVariants.{Unit as no_field_trees, Struct as struct_field_trees, Tuple as tuple_field_trees}
use Rattle.isle_ast.specs.declared.ast.Variant.{Variant}
use Rattle.isle_ast.specs.declared.ast.TypeValue.TheVariants.{Enum, Struct}
use Rattle.isle_ast.specs.declared.ast.«Type».{«Type» as TypeTree}
use Rattle.isle_ast.specs.declared.ast.Def.{Def}
use Rattle.isle_ast.specs.declared.error.Error.{Error}
use Rattle.isle_ast.specs.declared.error.Span.{Span}
use Rattle.isle_ast.specs.Errors.{ErrorKind, type_error, size_error, error_kind, spans_of}
use Rattle.isle_types.specs.IntTypes.{builtin_names}
use Rattle.isle_types.specs.Names.{IsDuplicate, position_of}
use Rattle.isle_types.specs.Environment.{type_definitions, constant_definitions, type_names, MayBeMarked, HasAllowedSize}

-- each field's type, in order
abbrev pub type_idents : Fields → List Ident
type_idents no_field_trees = []
type_idents (struct_field_trees trees) = map (λ (tree : StructField). tree.ty) trees.fields
type_idents (tuple_field_trees trees) = map (λ (tree : TupleField). tree.ty) trees.fields

-- fields break a rule at a position, where these are the names of the types: a field stands twice, or its type isn't known
pub data FieldsBreak (known : List (List ℕ)) (fields : Fields) : Pos → Type 0 where
  field_twice : (trees : List StructField) (place : ℕ) (tree : StructField) → fields ≡ struct_field_trees (record { fields = trees })
      → slice_get trees place ≡ Some tree → IsDuplicate (map (λ (field : StructField). field.name.0) trees) place → FieldsBreak known fields tree.pos
  unknown_field_type : (place : ℕ) (name : Ident) → slice_get (type_idents fields) place ≡ Some name → position_of known name.0 ≡ None
      → FieldsBreak known fields name.1

-- variants break a rule at a position: one stands twice, or its fields break one
pub data VariantsBreak (known : List (List ℕ)) (variants : List Variant) : Pos → Type 0 where
  variant_twice : (place : ℕ) (variant : Variant) → slice_get variants place ≡ Some variant
      → IsDuplicate (map (λ (other : Variant). other.name.0) variants) place → VariantsBreak known variants variant.pos
  variant_fields_break : (place : ℕ) (variant : Variant) (pos : Pos) → slice_get variants place ≡ Some variant
      → FieldsBreak known variant.fields pos → VariantsBreak known variants pos

-- a definition of a type breaks a rule at a position: its marks, its variants or its fields
pub data TypeBreaks (known : List (List ℕ)) (tree : TypeTree) : Pos → Type 0 where
  marks_not_allowed : (MayBeMarked tree.ty tree.is_extern tree.is_nodebug → ⊥) → TypeBreaks known tree tree.pos
  variants_break : (variants : List Variant) (keyword pos : Pos) → tree.ty ≡ Enum variants keyword → VariantsBreak known variants pos
      → TypeBreaks known tree pos
  fields_break : (fields : Fields) (keyword pos : Pos) → tree.ty ≡ Struct fields keyword → FieldsBreak known fields pos → TypeBreaks known tree pos

-- definitions break a rule at a position: a type whose name is taken, a type's own rules, or a constant whose type isn't known
pub data Breaks (defs : List Def) : Pos → Type 0 where
  name_taken : (place : ℕ) (tree : TypeTree) → slice_get (type_definitions defs) place ≡ Some tree
      → IsDuplicate (type_names defs) (length builtin_names + place) → Breaks defs tree.pos
  type_breaks : (place : ℕ) (tree : TypeTree) (pos : Pos) → slice_get (type_definitions defs) place ≡ Some tree
      → TypeBreaks (type_names defs) tree pos → Breaks defs pos
  unknown_constant_type : (place : ℕ) (constant : Ident × Ident) → slice_get (constant_definitions defs) place ≡ Some constant
      → position_of (type_names defs) constant.1.0 ≡ None → Breaks defs constant.1.1

-- a definition of a type that exceeds a size is at a position
pub record Exceeds (defs : List Def) (pos : Pos) : Type 0 where
  pub place : ℕ
  pub tree : TypeTree
  pub among : slice_get (type_definitions defs) place ≡ Some tree
  pub too_large : HasAllowedSize tree.ty → ⊥
  pub here : pos ≡ tree.pos

-- a type error or a size error with one span: where a type error starts the first fact holds, where a size error does the second
abbrev pub StartsWhere : (Broken Passed : Pos → Type 0) → ErrorKind → List Span → Type 0
StartsWhere Broken Passed type_error (span ∷ []) = Broken span.from
StartsWhere Broken Passed size_error (span ∷ []) = Passed span.from
StartsWhere _ _ _ _ = ⊥

-- an error is a type error at a position with the first fact, or a size error at one with the second
abbrev pub IsTypeOrSize : (Broken Passed : Pos → Type 0) → Error → Type 0
IsTypeOrSize Broken Passed error = StartsWhere Broken Passed (error_kind error) (spans_of error)

-- a type error stands where a rule is broken
abbrev pub IsTypeFault : (Pos → Type 0) → Error → Type 0
IsTypeFault Broken error = IsTypeOrSize Broken (λ _. ⊥) error

-- a size error is where a size is exceeded
abbrev pub IsSizeFault : (Pos → Type 0) → Error → Type 0
IsSizeFault Exceeded error = IsTypeOrSize (λ _. ⊥) Exceeded error

-- faults of definitions: type errors, each where a rule is broken
abbrev pub AreTypeFaults : List Def → List Error → Type 0
AreTypeFaults defs errors = All (IsTypeFault (Breaks defs)) errors

-- one size error, where a size is exceeded
abbrev pub IsLoneSizeFault : List Def → List Error → Type 0
IsLoneSizeFault defs [] = ⊥
IsLoneSizeFault defs (error ∷ []) = IsSizeFault (Exceeds defs) error
IsLoneSizeFault defs (error ∷ _ ∷ _) = ⊥

-- what a refusal lists: one size error alone, or type errors, one at least
abbrev pub AreFaultsOf : List Def → List Error → Type 0
AreFaultsOf defs errors = IsLoneSizeFault defs errors ⊎ (AreTypeFaults defs errors × (0 < length errors))
