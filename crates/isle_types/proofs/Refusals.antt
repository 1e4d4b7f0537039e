-- Definitions that are refused make no environment.
use Rattle.std.proofs.Common.{◌≡◌, ℕ, ◌<◌, ◌⊎◌, inl, inr, List, [], ◌∷◌, map, length, Some, None, ap, sym, subst, ◌∙◌, arith, slice_get}
use Rattle.std.proofs.lemmas.Option.{none-some}
use Rattle.std.proofs.lemmas.List.Elements.{All-head}
use Rattle.isle_ast.specs.declared.pos.Pos.{Pos}
use Rattle.isle_ast.specs.declared.ast.Ident.{Ident}
use Rattle.isle_ast.specs.declared.ast.StructField.{StructField}
use Rattle.isle_ast.specs.declared.ast.TupleField.{TupleField}
use Rattle.isle_ast.specs.declared.ast.Fields.{Fields}
use Rattle.isle_ast.specs.declared.ast.Fields.TheVariants.{Unit as no_field_trees, Struct as struct_field_trees, Tuple as tuple_field_trees}
use Rattle.isle_ast.specs.declared.ast.Variant.{Variant}
use Rattle.isle_ast.specs.declared.ast.TypeValue.TheVariants.{Enum, Struct}
use Rattle.isle_ast.specs.declared.ast.«Type».{«Type» as TypeTree}
use Rattle.isle_ast.specs.declared.ast.Def.{Def}
use Rattle.isle_ast.specs.declared.error.Error.{Error}
use Rattle.isle_ast.specs.declared.error.Error.TheVariants.{TypeError, SizeError}
use Rattle.isle_types.specs.Names.{position_of, IsDuplicate}
use Rattle.isle_types.specs.Environment.{FieldList, no_fields, named_fields, tuple_fields, NamedVariant, TypeShape, primitive, enum, struct}
use Rattle.isle_types.specs.Environment.{NamedType, Environment, IsField, IsTupleField, AreFields, IsVariant, IsShape, IsType, IsConstant, Makes}
use Rattle.isle_types.specs.Environment.{HasAllowedSize, AreWithinSizes, type_definitions, constant_definitions, type_names}
use Rattle.isle_types.specs.TypeFaults.{FieldsBreak, field_twice, unknown_field_type, VariantsBreak, variant_twice, variant_fields_break}
use Rattle.isle_types.specs.TypeFaults.{TypeBreaks, marks_not_allowed, variants_break, fields_break, Breaks, name_taken, type_breaks}
use Rattle.isle_types.specs.TypeFaults.{unknown_constant_type, Exceeds, IsTypeFault, IsSizeFault, type_idents}
use Rattle.isle_types.specs.Inside.Readings.{AreTypeFaults, IsLoneSizeFault}
use Rattle.isle_types.proofs.NamePlaces.{place_missing}
use Rattle.isle_types.proofs.Zipped.{zipped_at, zipped_same, mapped_at, each_at, no_duplicate}

module _ (known : List (List ℕ)) where
  -- no field of the fields that are made stands twice
  field_twice_none : (trees : List StructField) (made : FieldList) → AreFields known (struct_field_trees (record { fields = trees })) made
      → (place : ℕ) → IsDuplicate (map (λ (field : StructField). field.name.0) trees) place → ⊥
  field_twice_none trees no_fields meant place duplicate = absurd meant
  field_twice_none trees (tuple_fields numbers) meant place duplicate = absurd meant
  field_twice_none trees (named_fields fields) meant place duplicate =
      let same = zipped_same (IsField known) (λ (field : StructField). field.name.0) (λ (field : List ℕ × ℕ). field.0)
      (λ tree field is. is.name) trees fields meant.0 in
      no_duplicate (map (λ (field : List ℕ × ℕ). field.0) fields) meant.1 place (subst (λ names. IsDuplicate names place) (sym same) duplicate)

  -- the type of each field is known
  field_type_known : (fields : Fields) (made : FieldList) → AreFields known fields made → (place : ℕ) (name : Ident)
      → slice_get (type_idents fields) place ≡ Some name → position_of known name.0 ≡ None → ⊥
  field_type_known no_field_trees made meant place name at missing = none-some name at
  field_type_known (struct_field_trees trees) no_fields meant place name at missing = absurd meant
  field_type_known (struct_field_trees trees) (tuple_fields numbers) meant place name at missing = absurd meant
  field_type_known (struct_field_trees trees) (named_fields fields) meant place name at missing =
      let tree = mapped_at (λ (field : StructField). field.ty) trees.fields place name at in
      let made = zipped_at (IsField known) trees.fields fields meant.0 place tree.0 tree.1 in
      place_missing known name.0 missing made.0.1 (made.2.type ∙ ap (λ (ty : Ident). Some ty.0) tree.2)
  field_type_known (tuple_field_trees trees) no_fields meant place name at missing = absurd meant
  field_type_known (tuple_field_trees trees) (named_fields fields) meant place name at missing = absurd meant
  field_type_known (tuple_field_trees trees) (tuple_fields numbers) meant place name at missing =
      let tree = mapped_at (λ (field : TupleField). field.ty) trees.fields place name at in
      let made = zipped_at (IsTupleField known) trees.fields numbers meant place tree.0 tree.1 in
      place_missing known name.0 missing made.0 (made.2 ∙ ap (λ (ty : Ident). Some ty.0) tree.2)

  -- fields that are made break no rule
  pub fields_keep : (fields : Fields) (made : FieldList) → AreFields known fields made → (pos : Pos) → FieldsBreak known fields pos → ⊥
  fields_keep fields made meant pos (field_twice trees place tree is at duplicate) =
      field_twice_none trees made (subst (λ tree. AreFields known tree made) is meant) place duplicate
  fields_keep fields made meant pos (unknown_field_type place name at missing) = field_type_known fields made meant place name at missing

  -- variants that are made break no rule
  pub variants_keep : (trees : List Variant) (shape : TypeShape) (keyword : Pos) → IsShape known (Enum trees keyword) shape → (pos : Pos)
      → VariantsBreak known trees pos → ⊥
  variants_keep trees (primitive host) keyword meant pos breaks = absurd meant
  variants_keep trees (struct _) keyword meant pos breaks = absurd meant
  variants_keep trees (enum variants) keyword meant pos (variant_twice place variant at duplicate) =
      let same = zipped_same (IsVariant known) (λ (other : Variant). other.name.0) (λ (made : NamedVariant). made.name)
      (λ tree made is. is.name) trees variants meant.0 in
      no_duplicate (map (λ (made : NamedVariant). made.name) variants) meant.1 place (subst (λ names. IsDuplicate names place) (sym same) duplicate)
  variants_keep trees (enum variants) keyword meant pos (variant_fields_break place variant here at breaks) =
      let made = zipped_at (IsVariant known) trees variants meant.0 place variant at in
      fields_keep variant.fields made.0.fields made.2.fields pos breaks

  struct_keeps : (fields : Fields) (shape : TypeShape) (keyword : Pos) → IsShape known (Struct fields keyword) shape → (pos : Pos)
      → FieldsBreak known fields pos → ⊥
  struct_keeps fields (primitive host) keyword meant pos breaks = absurd meant
  struct_keeps fields (enum variants) keyword meant pos breaks = absurd meant
  struct_keeps fields (struct made) keyword meant pos breaks = fields_keep fields made meant pos breaks

  -- a type that is made breaks no rule
  pub type_keeps : (tree : TypeTree) (type : NamedType) → IsType known tree type → (pos : Pos) → TypeBreaks known tree pos → ⊥
  type_keeps tree type made pos (marks_not_allowed refused) = refused made.marks
  type_keeps tree type made pos (variants_break variants keyword here is breaks) =
      variants_keep variants type.shape keyword (subst (λ value. IsShape known value type.shape) is made.shape) pos breaks
  type_keeps tree type made pos (fields_break fields keyword here is breaks) =
      struct_keeps fields type.shape keyword (subst (λ value. IsShape known value type.shape) is made.shape) pos breaks

-- definitions that break a rule make no environment
pub broken_makes_none : (defs : List Def) (pos : Pos) → Breaks defs pos → (e : Environment) → Makes defs e → ⊥
broken_makes_none defs pos (name_taken place tree at duplicate) e makes = no_duplicate (type_names defs) makes.names _ duplicate
broken_makes_none defs pos (type_breaks place tree here at breaks) e makes =
    let made = zipped_at (IsType (type_names defs)) (type_definitions defs) e.types makes.types place tree at in
    type_keeps (type_names defs) tree made.0 made.2 pos breaks
broken_makes_none defs pos (unknown_constant_type place constant at missing) e makes =
    let made = zipped_at (IsConstant (type_names defs)) (constant_definitions defs) e.constants makes.constants place constant at in
    place_missing (type_names defs) constant.1.0 missing made.0.1 made.2.type

-- definitions that exceed a size aren't within sizes
pub exceeding_none : (defs : List Def) (pos : Pos) → Exceeds defs pos → AreWithinSizes defs → ⊥
exceeding_none defs pos exceeds within =
    exceeds.too_large (each_at (λ (tree : TypeTree). HasAllowedSize tree.ty) (type_definitions defs) within exceeds.place exceeds.tree exceeds.among)

type_fault_none : (defs : List Def) (error : Error) → IsTypeFault (Breaks defs) error → (e : Environment) → Makes defs e → ⊥
type_fault_none defs (TypeError message span) fault e makes = broken_makes_none defs span.from fault e makes
type_fault_none defs _ fault e makes = absurd fault

size_fault_none : (defs : List Def) (error : Error) → IsSizeFault (Exceeds defs) error → AreWithinSizes defs → ⊥
size_fault_none defs (SizeError message span) fault within = exceeding_none defs span.from fault within
size_fault_none defs _ fault within = absurd fault

-- definitions that are refused make no environment within sizes
pub refused_makes_none : (defs : List Def) (errors : List Error) → IsLoneSizeFault defs errors
    ⊎ (AreTypeFaults defs errors × (0 < length errors)) → (e : Environment) → Makes defs e → AreWithinSizes defs → ⊥
refused_makes_none defs [] (inl lone) e makes within = absurd lone
refused_makes_none defs (error ∷ []) (inl lone) e makes within = size_fault_none defs error lone within
refused_makes_none defs (error ∷ _ ∷ _) (inl lone) e makes within = absurd lone
refused_makes_none defs [] (inr faults) e makes within = omega (arith, faults.1)
refused_makes_none defs (error ∷ errors) (inr faults) e makes within = type_fault_none defs error
    (All-head (IsTypeFault (Breaks defs)) error errors faults.0) e makes
