-- Fields, variants and types as they are read of their trees.
use Rattle.std.proofs.Common.{◌≡◌, ℕ, zero, suc, ◌+◌, ◌<◌, ◌≤◌, List, [], ◌∷◌, ◌++◌, map, length, take, Some, refl, ap, sym, subst, ◌∙◌, arith}
use Rattle.std.proofs.Common.{slice_get, codes, zero-add}
use Rattle.std.specs.List.{AllZip}
use Rattle.std.proofs.lemmas.Option.{same_Some, none-some}
use Rattle.std.proofs.lemmas.Slice.Zip.{all_zipped_more}
use Rattle.isle_ast.specs.declared.pos.Pos.{Pos}
use Rattle.isle_ast.specs.declared.ast.StructField.{StructField as StructFieldTree}
use Rattle.isle_ast.specs.declared.ast.StructFields.{StructFields as StructFieldTrees}
use Rattle.isle_ast.specs.declared.ast.TupleFields.{TupleFields as TupleFieldTrees}
use Rattle.isle_ast.specs.declared.ast.Fields.TheVariants.{Struct as struct_field_trees, Tuple as tuple_field_trees}
use Rattle.isle_ast.specs.declared.ast.Variant.{Variant as VariantTree}
use Rattle.isle_ast.specs.declared.ast.«Type».{«Type» as TypeTree}
use Rattle.isle_ast.specs.declared.error.Error.{Error}
use Rattle.isle_ast.specs.declared.error.Error.TheVariants.{ParseError, TypeError, UnreachableError, OverlapError, ShadowedError, SizeError}
use Rattle.isle_types.specs.declared.types.StructField.{StructField}
use Rattle.isle_types.specs.declared.types.TupleField.{TupleField}
use Rattle.isle_types.specs.declared.types.Fields.TheVariants.{Struct as NamedFields, Tuple as UnnamedFields}
use Rattle.isle_types.specs.declared.types.Variant.{Variant}
use Rattle.isle_types.specs.declared.types.«Type».{«Type» as KnownType}
use Rattle.isle_types.specs.Names.{AreDistinct, KeepsNames}
use Rattle.isle_types.specs.Environment.{NamedVariant, NamedType, TypeShape, IsShape, MayBeMarked, named_fields, tuple_fields, IsField, IsVariant}
use Rattle.isle_types.specs.Environment.{HaveAllowedSizes, field_count}
use Rattle.isle_types.specs.TypeFaults.{IsTypeOrSize, IsTypeFault}
use Rattle.isle_types.specs.TypeEnvs.{IsShownVariant, IsShownShape, StandsAt}
use Rattle.isle_types.specs.Inside.Readings.{ReadsFields, ReadsTupleFields, ReadsFieldList, ReadsVariant, ReadsVariants, ReadsType}
use Rattle.isle_containers.proofs.Lists.{taken_more, AllZip-weaker}
use Rattle.isle_types.proofs.ShownTypes.{variant_kept}
use Rattle.isle_types.proofs.FieldReadings.{count_more}

-- what follows of a fault
pub reading_then : (Broken Passed Broken' Passed' : Pos → Type 0) → ((pos : Pos) → Broken pos → Broken' pos)
    → ((pos : Pos) → Passed pos → Passed' pos) → (error : Error) → IsTypeOrSize Broken Passed error → IsTypeOrSize Broken' Passed' error
reading_then B P B' P' broken passed (TypeError _ span) fault = broken span.from fault
reading_then B P B' P' broken passed (SizeError _ span) fault = passed span.from fault
reading_then B P B' P' broken passed (ParseError _ _) fault = fault
reading_then B P B' P' broken passed (UnreachableError _ _) fault = fault
reading_then B P B' P' broken passed (OverlapError _ _) fault = fault
reading_then B P B' P' broken passed (ShadowedError _ _) fault = fault

-- a type error where a rule is broken
pub type_fault_reads : (Broken Passed : Pos → Type 0) (error : Error) → IsTypeFault Broken error → IsTypeOrSize Broken Passed error
type_fault_reads B P (TypeError _ span) fault = fault
type_fault_reads B P (SizeError _ span) fault = absurd fault
type_fault_reads B P (ParseError _ _) fault = fault
type_fault_reads B P (UnreachableError _ _) fault = fault
type_fault_reads B P (OverlapError _ _) fault = fault
type_fault_reads B P (ShadowedError _ _) fault = fault

field_names : (known : List (List ℕ)) (trees : List StructFieldTree) (fields : List (List ℕ × ℕ)) → AllZip (IsField known) trees fields
    → map (λ (tree : StructFieldTree). tree.name.0) trees ≡ map (λ (field : List ℕ × ℕ). field.0) fields
field_names known [] [] meant = refl
field_names known [] (field ∷ fields) meant = absurd meant
field_names known (tree ∷ trees) [] meant = absurd meant
field_names known (tree ∷ trees) (field ∷ fields) meant =
    ap (λ n. n ∷ map (λ (t : StructFieldTree). t.name.0) trees) (sym meant.0.name) ∙ ap (λ ns. field.0 ∷ ns) (field_names known trees fields meant.1)

-- named fields as a list of fields
pub struct_list : (known names : List (List ℕ)) (trees : StructFieldTrees) (made : List StructField) → ReadsFields known names trees.fields made
    → AreDistinct (map (λ (tree : StructFieldTree). tree.name.0) trees.fields)
    → ReadsFieldList known names (struct_field_trees trees) (NamedFields (record { fields = made }))
struct_list known names trees made read once = record {
  fields = named_fields read.fields;
  meant = (read.meant, subst AreDistinct (field_names known trees.fields read.fields read.meant) once);
  shown = (read.shown, read.counted);
}

-- fields without names as a list of fields
pub tuple_list : (known names : List (List ℕ)) (trees : TupleFieldTrees) (made : List TupleField) → ReadsTupleFields known trees.fields made
    → ReadsFieldList known names (tuple_field_trees trees) (UnnamedFields (record { fields = made }))
tuple_list known names trees made read = record {
  fields = tuple_fields read.numbers;
  meant = read.meant;
  shown = (read.shown, read.counted);
}

variant_names : (known : List (List ℕ)) (trees : List VariantTree) (variants : List NamedVariant) → AllZip (IsVariant known) trees variants
    → map (λ (tree : VariantTree). tree.name.0) trees ≡ map (λ (variant : NamedVariant). variant.name) variants
variant_names known [] [] meant = refl
variant_names known [] (variant ∷ variants) meant = absurd meant
variant_names known (tree ∷ trees) [] meant = absurd meant
variant_names known (tree ∷ trees) (variant ∷ variants) meant =
    ap (λ n. n ∷ map (λ (t : VariantTree). t.name.0) trees) (sym meant.0.name)
    ∙ ap (λ ns. variant.name ∷ ns) (variant_names known trees variants meant.1)

-- variants that stand once under the names of their trees
pub variants_once : (known : List (List ℕ)) (trees : List VariantTree) (variants : List NamedVariant) → AllZip (IsVariant known) trees variants
    → AreDistinct (map (λ (tree : VariantTree). tree.name.0) trees) → AreDistinct (map (λ (variant : NamedVariant). variant.name) variants)
variants_once known trees variants meant once = subst AreDistinct (variant_names known trees variants meant) once

-- variants, and one more
pub variant_more : (known names more : List (List ℕ)) (type : List ℕ) (trees : List VariantTree) (made : List Variant) (place : ℕ)
    (tree : VariantTree) (variant : Variant) → KeepsNames names more → ReadsVariants known names type (take place trees) made
    → slice_get trees place ≡ Some tree → ReadsVariant known more type tree variant → variant.id.0 ≡ length made
    → ReadsVariants known more type (take (place + 1) trees) (made ++ variant ∷ [])
variant_more known names more type trees made place tree variant keeps read at one id = record {
  variants = read.variants ++ one.variant ∷ [];
  meant = subst (λ ts. AllZip (IsVariant known) ts (read.variants ++ one.variant ∷ [])) (sym (taken_more trees place tree at))
      (all_zipped_more (IsVariant known) (take place trees) read.variants tree one.variant read.meant one.meant);
  shown = all_zipped_more (IsShownVariant more type) read.variants made one.variant variant
      (AllZip-weaker (IsShownVariant names type) (IsShownVariant more type)
      (variant_kept names more type keeps) read.variants made read.shown) one.shown;
  counted = count_more (λ (v : Variant). v.id.0) 0 made variant read.counted (id ∙ sym (zero-add (length made)));
}

allowed_push : (trees : List VariantTree) (tree : VariantTree) → HaveAllowedSizes trees → field_count tree.fields ≤ 255
    → HaveAllowedSizes (trees ++ tree ∷ [])
allowed_push [] tree allowed one = (one, tt)
allowed_push (first ∷ trees) tree allowed one = (allowed.0, allowed_push trees tree allowed.1 one)

-- allowed sizes, and one more
pub allowed_more : (trees : List VariantTree) (place : ℕ) (tree : VariantTree) → HaveAllowedSizes (take place trees)
    → slice_get trees place ≡ Some tree → field_count tree.fields ≤ 255 → HaveAllowedSizes (take (place + 1) trees)
allowed_more trees place tree allowed at one =
    subst HaveAllowedSizes (sym (taken_more trees place tree at)) (allowed_push (take place trees) tree allowed one)

-- a variant with too many fields
pub not_allowed : (trees : List VariantTree) (place : ℕ) (tree : VariantTree) → slice_get trees place ≡ Some tree → 255 < field_count tree.fields
    → HaveAllowedSizes trees → ⊥
not_allowed [] place tree at many allowed = absurd (none-some tree at)
not_allowed (first ∷ trees) zero tree at many allowed =
    let same = ap (λ (t : VariantTree). field_count t.fields) (same_Some first tree at) in omega (arith, same, allowed.0, many)
not_allowed (first ∷ trees) (suc place) tree at many allowed = not_allowed trees place tree at many allowed.1

-- a variant whose name and full name are interned, and whose fields are read
pub variant_read : (known names : List (List ℕ)) (type : List ℕ) (tree : VariantTree) (made : Variant)
    → slice_get names made.name.0 ≡ Some tree.name.0 → slice_get names made.fullname.0 ≡ Some (type ++ codes "." ++ tree.name.0)
    → made.pos ≡ tree.pos → ReadsFieldList known names tree.fields made.fields → ReadsVariant known names type tree made
variant_read known names type tree made name fullname pos read = record {
  variant = record { name = tree.name.0; fields = read.fields; pos = tree.pos };
  meant = record { name = refl; fields = read.meant; pos = refl };
  shown = record { name = name; fullname = fullname; fields = read.shown; pos = pos };
}

-- the type of a definition, of a shape
abbrev pub type_of_shape : TypeTree → TypeShape → NamedType
type_of_shape tree shape = record { name = tree.name.0; is_extern = tree.is_extern; is_nodebug = tree.is_nodebug; shape = shape; pos = tree.pos }

-- a type whose shape is read
pub type_read : (known names : List (List ℕ)) (tree : TypeTree) (shape : TypeShape) (made : KnownType)
    → MayBeMarked tree.ty tree.is_extern tree.is_nodebug → IsShape known tree.ty shape → IsShownShape names (type_of_shape tree shape) shape made
    → StandsAt made (type_of_shape tree shape) → ReadsType known names tree made
type_read known names tree shape made marks meant shown stands = record {
  type = type_of_shape tree shape;
  meant = record { name = refl; is_extern = refl; is_nodebug = refl; marks = marks; shape = meant; pos = refl };
  shown = record { shape = shown; pos = stands };
}
