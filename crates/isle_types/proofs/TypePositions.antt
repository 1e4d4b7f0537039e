-- Where definitions stand, their faults and their types do.
use Rattle.std.proofs.Common.{◌≡◌, ℕ, zero, suc, ◌<◌, ◌⊎◌, inl, inr, List, [], ◌∷◌, map, length, Some, sym, subst, ◌∙◌, arith, slice_get}
use Rattle.std.specs.List.{All, AllZip}
use Rattle.std.proofs.lemmas.Option.{none-some, same_Some}
use Rattle.std.proofs.lemmas.List.Elements.{All-head, All-tail, All-nil, All-cons, All-append, All-map, All-weaker}
use Rattle.isle_ast.specs.Positions.Files.{SourceFile}
use Rattle.isle_ast.specs.Positions.Printable.{IsPrintablePos}
use Rattle.isle_ast.specs.Errors.{ErrorAt}
use Rattle.isle_ast.specs.Positions.DefPositions.{StructFieldAt, TupleFieldAt, FieldsAt, VariantTreeAt, TypeValueAt}
use Rattle.isle_ast.specs.Positions.DefPositions.{TypeTreeAt, DefAt, IdentAt}
use Rattle.isle_ast.specs.declared.pos.Pos.{Pos}
use Rattle.isle_ast.specs.declared.ast.Ident.{Ident}
use Rattle.isle_ast.specs.declared.ast.StructField.{StructField}
use Rattle.isle_ast.specs.declared.ast.TupleField.{TupleField}
use Rattle.isle_ast.specs.declared.ast.Fields.{Fields}
use Rattle.isle_ast.specs.declared.ast.Fields.TheVariants.{Unit as no_field_trees, Struct as struct_field_trees, Tuple as tuple_field_trees}
use Rattle.isle_ast.specs.declared.ast.Variant.{Variant as VariantTree}
use Rattle.isle_ast.specs.declared.ast.TypeValue.{TypeValue}
use Rattle.isle_ast.specs.declared.ast.TypeValue.TheVariants.{Primitive as primitive_tree, Enum as enum_tree, Struct as struct_tree}
use Rattle.isle_ast.specs.declared.ast.«Type».{«Type» as TypeTree}
use Rattle.isle_ast.specs.declared.ast.Extern.TheVariants.{Constructor as extern_constructor, Extractor as extern_extractor}
use Rattle.isle_ast.specs.declared.ast.Extern.TheVariants.{Const as extern_const}
use Rattle.isle_ast.specs.declared.ast.Def.{Def}
use Rattle.isle_ast.specs.declared.ast.Def.TheVariants.{TypeDef, Extern}
use Rattle.isle_ast.specs.declared.error.Span.{Span}
use Rattle.isle_ast.specs.declared.error.Error.{Error}
use Rattle.isle_ast.specs.declared.error.Error.TheVariants.{TypeError, SizeError}
use Rattle.isle_types.specs.declared.types.Variant.{Variant}
use Rattle.isle_types.specs.declared.types.«Type».{«Type» as KnownType}
use Rattle.isle_types.specs.declared.types.«Type».TheVariants.{Builtin, Primitive, Enum, Struct}
use Rattle.isle_types.specs.TypeTables.{TypeTables}
use Rattle.isle_types.specs.IntTypes.{builtin_types}
use Rattle.isle_types.specs.TypePositions.{VariantAt, TypeAt}
use Rattle.isle_types.specs.Environment.{NamedVariant, TypeShape, primitive, enum, struct, NamedType, Environment, IsVariant, IsShape, IsType}
use Rattle.isle_types.specs.Environment.{Makes, type_definitions, constant_definitions, type_names}
use Rattle.isle_types.specs.TypeFaults.{FieldsBreak, field_twice, unknown_field_type, VariantsBreak, variant_twice, variant_fields_break}
use Rattle.isle_types.specs.TypeFaults.{TypeBreaks, marks_not_allowed, variants_break, fields_break, Breaks, name_taken, type_breaks}
use Rattle.isle_types.specs.TypeFaults.{unknown_constant_type, Exceeds, IsTypeFault, IsSizeFault, type_idents}
use Rattle.isle_types.specs.TypeEnvs.{HasPrintablePositions, Shows, IsShown, IsShownVariant, IsShownShape}
use Rattle.isle_types.specs.Inside.Readings.{AreTypeFaults, IsLoneSizeFault}
use Rattle.isle_types.proofs.Zipped.{mapped_at, all_at}

module _ (At : Pos → Type 0) where
  -- the definitions of types stand where the definitions do
  definitions_at : (defs : List Def) → All (DefAt At) defs → All (TypeTreeAt At) (type_definitions defs)
  definitions_at [] each = All-nil (TypeTreeAt At)
  definitions_at (TypeDef type ∷ defs) each = All-cons (TypeTreeAt At) type (type_definitions defs)
      (All-head (DefAt At) (TypeDef type) defs each) (definitions_at defs (All-tail (DefAt At) (TypeDef type) defs each))
  definitions_at (def ∷ defs) each = definitions_at defs (All-tail (DefAt At) def defs each)

  type_at_place : (defs : List Def) → All (DefAt At) defs → (place : ℕ) (tree : TypeTree) → slice_get (type_definitions defs) place ≡ Some tree
      → TypeTreeAt At tree
  type_at_place defs each = all_at (TypeTreeAt At) (type_definitions defs) (definitions_at defs each)

  -- a constant's type stands there
  constant_at_place : (defs : List Def) → All (DefAt At) defs → (place : ℕ) (constant : Ident × Ident)
      → slice_get (constant_definitions defs) place ≡ Some constant → IdentAt At constant.1
  constant_at_place [] each place constant is = absurd (none-some constant is)
  constant_at_place (Extern (extern_const name type pos) ∷ defs) each zero constant is =
      subst (λ (c : Ident × Ident). IdentAt At c.1) (same_Some (name, type) constant is)
      (let here = All-head (DefAt At) (Extern (extern_const name type pos)) defs each in here.1)
  constant_at_place (Extern (extern_const name type pos) ∷ defs) each (suc place) constant is =
      constant_at_place defs (All-tail (DefAt At) (Extern (extern_const name type pos)) defs each) place constant is
  constant_at_place (Extern (extern_constructor term func pos) ∷ defs) each place constant is =
      constant_at_place defs (All-tail (DefAt At) (Extern (extern_constructor term func pos)) defs each) place constant is
  constant_at_place (Extern (extern_extractor term func pos infallible) ∷ defs) each place constant is =
      constant_at_place defs (All-tail (DefAt At) (Extern (extern_extractor term func pos infallible)) defs each) place constant is
  constant_at_place (def ∷ defs) each place constant is = constant_at_place defs (All-tail (DefAt At) def defs each) place constant is

  -- a field's type stands where the fields do
  field_type_at : (fields : Fields) → FieldsAt At fields → (place : ℕ) (name : Ident) → slice_get (type_idents fields) place ≡ Some name
      → IdentAt At name
  field_type_at no_field_trees at place name is = absurd (none-some name is)
  field_type_at (struct_field_trees trees) at place name is =
      let tree = mapped_at (λ (field : StructField). field.ty) trees.fields place name is in
      subst (IdentAt At) tree.2 (let here = all_at (StructFieldAt At) trees.fields at place tree.0 tree.1 in here.ty)
  field_type_at (tuple_field_trees trees) at place name is =
      let tree = mapped_at (λ (field : TupleField). field.ty) trees.fields place name is in
      subst (IdentAt At) tree.2 (let here = all_at (TupleFieldAt At) trees.fields at place tree.0 tree.1 in here.ty)

  -- where fields break a rule, they stand
  fields_fault_at : (known : List (List ℕ)) (fields : Fields) → FieldsAt At fields → (pos : Pos) → FieldsBreak known fields pos → At pos
  fields_fault_at known fields at pos (field_twice trees place tree is here duplicate) =
      let field = all_at (StructFieldAt At) trees (subst (FieldsAt At) is at) place tree here in field.pos
  fields_fault_at known fields at pos (unknown_field_type place name here missing) = field_type_at fields at place name here

  variants_fault_at : (known : List (List ℕ)) (variants : List VariantTree) → All (VariantTreeAt At) variants → (pos : Pos)
      → VariantsBreak known variants pos → At pos
  variants_fault_at known variants at pos (variant_twice place variant here duplicate) =
      let stands = all_at (VariantTreeAt At) variants at place variant here in stands.pos
  variants_fault_at known variants at pos (variant_fields_break place variant there here breaks) =
      let stands = all_at (VariantTreeAt At) variants at place variant here in fields_fault_at known variant.fields stands.fields pos breaks

  type_fault_at : (known : List (List ℕ)) (tree : TypeTree) → TypeTreeAt At tree → (pos : Pos) → TypeBreaks known tree pos → At pos
  type_fault_at known tree at pos (marks_not_allowed refused) = at.pos
  type_fault_at known tree at pos (variants_break variants keyword there is breaks) =
      let stands = subst (TypeValueAt At) is at.ty in variants_fault_at known variants stands.0 pos breaks
  type_fault_at known tree at pos (fields_break fields keyword there is breaks) =
      let stands = subst (TypeValueAt At) is at.ty in fields_fault_at known fields stands.0 pos breaks

  -- where definitions break a rule, they stand
  pub break_at : (defs : List Def) → All (DefAt At) defs → (pos : Pos) → Breaks defs pos → At pos
  break_at defs each pos (name_taken place tree here duplicate) = let stands = type_at_place defs each place tree here in stands.pos
  break_at defs each pos (type_breaks place tree there here breaks) = type_fault_at (type_names defs) tree
      (type_at_place defs each place tree here) pos breaks
  break_at defs each pos (unknown_constant_type place constant here missing) = constant_at_place defs each place constant here

  -- where definitions exceed a size, they are
  pub excess_at : (defs : List Def) → All (DefAt At) defs → (pos : Pos) → Exceeds defs pos → At pos
  excess_at defs each pos exceeds =
      let stands = type_at_place defs each exceeds.place exceeds.tree exceeds.among in subst At (sym exceeds.here) stands.pos

  one_span : (span : Span) → At span.from → All (λ (s : Span). At s.from) (span ∷ [])
  one_span span at = All-cons (λ (s : Span). At s.from) span [] at (All-nil (λ (s : Span). At s.from))

  type_error_at : (defs : List Def) → All (DefAt At) defs → (error : Error) → IsTypeFault (Breaks defs) error → ErrorAt At error
  type_error_at defs each (TypeError message span) fault = record { named = omega arith; placed = one_span span (break_at defs each span.from fault) }
  type_error_at defs each _ fault = absurd fault

  size_error_at : (defs : List Def) → All (DefAt At) defs → (error : Error) → IsSizeFault (Exceeds defs) error → ErrorAt At error
  size_error_at defs each (SizeError message span) fault = record {
    named = omega arith;
    placed = one_span span
        (excess_at defs each span.from fault);
  }
  size_error_at defs each _ fault = absurd fault

  -- the errors of definitions stand where these do
  pub errors_at : (defs : List Def) (errors : List Error) → All (DefAt At) defs → IsLoneSizeFault defs errors
      ⊎ (AreTypeFaults defs errors × (0 < length errors)) → All (ErrorAt At) errors
  errors_at defs [] each (inl lone) = absurd lone
  errors_at defs (error ∷ []) each (inl lone) = All-cons (ErrorAt At) error [] (size_error_at defs each error lone) (All-nil (ErrorAt At))
  errors_at defs (error ∷ _ ∷ _) each (inl lone) = absurd lone
  errors_at defs errors each (inr faults) = All-weaker (IsTypeFault (Breaks defs)) (ErrorAt At) (type_error_at defs each) errors faults.0

  -- a variant that is shown stands where its definition does
  variants_shown_at : (known names : List (List ℕ)) (type : List ℕ) (trees : List VariantTree) (variants : List NamedVariant)
      (made : List Variant) → All (VariantTreeAt At) trees → AllZip (IsVariant known) trees variants
      → AllZip (IsShownVariant names type) variants made → All (VariantAt At) made
  variants_shown_at known names type trees variants [] at meant shown = All-nil (VariantAt At)
  variants_shown_at known names type trees [] (variant ∷ made) at meant shown = absurd shown
  variants_shown_at known names type [] (named ∷ variants) (variant ∷ made) at meant shown = absurd meant
  variants_shown_at known names type (tree ∷ trees) (named ∷ variants) (variant ∷ made) at meant shown =
      All-cons (VariantAt At) variant made
      (let stands = All-head (VariantTreeAt At) tree trees at in subst At (sym (shown.0.pos ∙ meant.0.pos)) stands.pos)
      (variants_shown_at known names type trees variants made (All-tail (VariantTreeAt At) tree trees at) meant.1 shown.1)

  type_shown_at : (known names : List (List ℕ)) (tree : TypeTree) (type : NamedType) (made : KnownType) → TypeTreeAt At tree
      → IsType known tree type → IsShown names type made → TypeAt At made
  type_shown_at known names tree type (Builtin builtin) at meant shown = tt
  type_shown_at known names tree type (Primitive id name pos) at meant shown = subst At (sym (shown.pos ∙ meant.pos)) at.pos
  type_shown_at known names tree type (Struct name id is_extern is_nodebug fields pos) at meant shown = subst At (sym (shown.pos ∙ meant.pos)) at.pos
  type_shown_at known names tree type (Enum name id is_extern is_nodebug made pos) at meant shown =
      (through tree.ty type.shape at.ty meant.shape shown.shape, subst At (sym (shown.pos ∙ meant.pos)) at.pos)
    where
      through : (value : TypeValue) (shape : TypeShape) → TypeValueAt At value → IsShape known value shape
          → IsShownShape names type shape (Enum name id is_extern is_nodebug made pos) → All (VariantAt At) made
      through value (primitive host) stands is is_shown = absurd is_shown
      through value (struct _) stands is is_shown = absurd is_shown
      through (primitive_tree host keyword) (enum variants) stands is is_shown = absurd is
      through (struct_tree fields keyword) (enum variants) stands is is_shown = absurd is
      through (enum_tree trees keyword)
          (enum variants) stands is is_shown = variants_shown_at known names type.name trees variants made stands.0 is.0 is_shown.1.0

  types_shown_at : (known names : List (List ℕ)) (trees : List TypeTree) (types : List NamedType) (made : List KnownType)
      → All (TypeTreeAt At) trees → AllZip (IsType known) trees types → AllZip (IsShown names) types made → All (TypeAt At) made
  types_shown_at known names trees types [] at meant shown = All-nil (TypeAt At)
  types_shown_at known names trees [] (known_type ∷ made) at meant shown = absurd shown
  types_shown_at known names [] (type ∷ types) (known_type ∷ made) at meant shown = absurd meant
  types_shown_at known names (tree ∷ trees) (type ∷ types) (known_type ∷ made) at meant shown =
      All-cons (TypeAt At) known_type made
      (type_shown_at known names tree type known_type (All-head (TypeTreeAt At) tree trees at) meant.0 shown.0)
      (types_shown_at known names trees types made (All-tail (TypeTreeAt At) tree trees at) meant.1 shown.1)

  -- the types of an environment stand where the definitions do
  pub types_at : (defs : List Def) (env : TypeTables) (e : Environment) → All (DefAt At) defs → Makes defs e → Shows env e → All (TypeAt At) env.types
  types_at defs env e each makes shows =
      subst (All (TypeAt At)) (sym shows.all)
      (All-append (TypeAt At) (map Builtin builtin_types) shows.made
      (All-map (TypeAt At) Builtin builtin_types (λ place d within. tt))
      (types_shown_at (type_names defs) env.names (type_definitions defs) e.types shows.made (definitions_at defs each) makes.types shows.types))

-- the errors of definitions can be printed
pub faults_printable : (files : List SourceFile) (defs : List Def) (errors : List Error) → All (DefAt (IsPrintablePos files)) defs
    → IsLoneSizeFault defs errors ⊎ (AreTypeFaults defs errors × (0 < length errors)) → All (ErrorAt (IsPrintablePos files)) errors
faults_printable files defs errors each faults = errors_at (IsPrintablePos files) defs errors each faults

-- the types that definitions make can be printed
pub made_placed : (files : List SourceFile) (defs : List Def) (env : TypeTables) (e : Environment) → All (DefAt (IsPrintablePos files)) defs
    → Makes defs e → Shows env e → env.errors ≡ [] → HasPrintablePositions files env
made_placed files defs env e each makes shows none = record {
  types = types_at (IsPrintablePos files) defs env e each makes shows;
  errors = subst (All (ErrorAt (IsPrintablePos files))) (sym none) (All-nil (ErrorAt (IsPrintablePos files)));
}
