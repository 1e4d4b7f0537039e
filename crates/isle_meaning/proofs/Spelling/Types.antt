-- Positions decide nothing of what types and constants definitions make.
use Rattle.std.proofs.Common.{◌≡◌, ◌≤◌, ℕ, suc, List, [], ◌∷◌, ◌++◌, map, length, Bool, refl, sym, ◌∙◌, ap, subst}
use Rattle.std.specs.List.{AllZip, AllByRecursion}
use Rattle.std.specs.Option.{option_map}
use Rattle.isle_ast.specs.declared.ast.Ident.{Ident}
use Rattle.isle_ast.specs.declared.ast.StructField.{StructField}
use Rattle.isle_ast.specs.declared.ast.Fields.{Fields}
use Rattle.isle_ast.specs.declared.ast.Fields.TheVariants.{Unit as no_field_trees, Struct as struct_field_trees, Tuple as tuple_field_trees}
use Rattle.isle_ast.specs.declared.ast.Variant.{Variant}
use Rattle.isle_ast.specs.declared.ast.TypeValue.{TypeValue}
use Rattle.isle_ast.specs.declared.ast.TypeValue.TheVariants.{Primitive, Enum, Struct}
use Rattle.isle_ast.specs.declared.ast.«Type».{«Type» as TypeTree}
use Rattle.isle_ast.specs.declared.ast.Extern.{Extern as ExternTree}
use Rattle.isle_ast.specs.declared.ast.Extern.TheVariants.{Constructor as extern_constructor, Extractor as extern_extractor, Const as extern_const}
use Rattle.isle_ast.specs.declared.ast.Def.{Def}
use Rattle.isle_ast.specs.declared.ast.Def.TheVariants.{TypeDef, Decl, Rule, Extractor, Extern, Converter, Pragma, Kept}
use Rattle.isle_ast.specs.Trees.WithoutPos.{ident_without_pos, struct_field_without_pos, tuple_field_without_pos, fields_without_pos}
use Rattle.isle_ast.specs.Trees.WithoutPos.{variant_without_pos, type_value_without_pos, type_without_pos, extern_without_pos, def_without_pos}
use Rattle.isle_types.specs.IntTypes.{builtin_names}
use Rattle.isle_types.specs.Names.{AreDistinct}
use Rattle.isle_types.specs.Environment.{Environment, NamedType, NamedVariant, FieldList, no_fields, named_fields, tuple_fields, TypeShape}
use Rattle.isle_types.specs.Environment.{primitive, enum, struct, as_type, type_definitions, as_external_constant, as_constant}
use Rattle.isle_types.specs.Environment.{constant_definitions, type_names, IsField, IsTupleField, AreFields, IsVariant, IsShape, MayBeMarked}
use Rattle.isle_types.specs.Environment.{IsType, IsConstant, Makes, field_count, HasAllowedSize, AreWithinSizes}
use Rattle.isle_meaning.proofs.Spelling.Bare.{bare_variant, bare_shape, bare_type, bare_types}
use Rattle.isle_meaning.proofs.Spelling.Zips.{filter_mapped, map_same, each_mapped, each_unmapped, zip_mapped, zip_first, zip_first_back, zip_back}

-- a constant's name and its type's
abbrev pub bare_pair : Ident × Ident → Ident × Ident
bare_pair pair = (ident_without_pos pair.0, ident_without_pos pair.1)

type_of_def : (def : Def) → as_type (def_without_pos def) ≡ option_map type_without_pos (as_type def)
type_of_def (TypeDef type) = refl
type_of_def (Decl decl) = refl
type_of_def (Rule rule) = refl
type_of_def (Extractor extractor) = refl
type_of_def (Extern external) = refl
type_of_def (Converter converter) = refl
type_of_def (Pragma pragma) = refl
type_of_def (Kept kept) = refl

external_constant : (external : ExternTree)
    → as_external_constant (extern_without_pos external) ≡ option_map bare_pair (as_external_constant external)
external_constant (extern_constructor term func _) = refl
external_constant (extern_extractor term func _ infallible) = refl
external_constant (extern_const name ty _) = refl

constant_of_def : (def : Def) → as_constant (def_without_pos def) ≡ option_map bare_pair (as_constant def)
constant_of_def (TypeDef type) = refl
constant_of_def (Decl decl) = refl
constant_of_def (Rule rule) = refl
constant_of_def (Extractor extractor) = refl
constant_of_def (Extern external) = external_constant external
constant_of_def (Converter converter) = refl
constant_of_def (Pragma pragma) = refl
constant_of_def (Kept kept) = refl

-- the definitions of types and constants
types_bare : (defs : List Def) → type_definitions (map def_without_pos defs) ≡ map type_without_pos (type_definitions defs)
types_bare defs = filter_mapped def_without_pos as_type as_type type_without_pos type_of_def defs

constants_bare : (defs : List Def) → constant_definitions (map def_without_pos defs) ≡ map bare_pair (constant_definitions defs)
constants_bare defs = filter_mapped def_without_pos as_constant as_constant bare_pair constant_of_def defs

names_bare : (defs : List Def) → type_names (map def_without_pos defs) ≡ type_names defs
names_bare defs =
    ap (λ (l : List TypeTree). builtin_names ++ map (λ (type : TypeTree). type.name.0) l) (types_bare defs)
    ∙ ap (λ (l : List (List ℕ)). builtin_names ++ l)
    (map_same type_without_pos (λ (type : TypeTree). type.name.0) (λ (type : TypeTree). type.name.0) (λ type. refl) (type_definitions defs))

module _ (known : List (List ℕ)) where
  field_there : (tree : StructField) (field : List ℕ × ℕ) → IsField known tree field → IsField known (struct_field_without_pos tree) field
  field_there tree field h = record { name = h.name; type = h.type }

  field_back : (tree : StructField) (field : List ℕ × ℕ) → IsField known (struct_field_without_pos tree) field → IsField known tree field
  field_back tree field h = record { name = h.name; type = h.type }

  fields_there : (tree : Fields) (fields : FieldList) → AreFields known tree fields → AreFields known (fields_without_pos tree) fields
  fields_there no_field_trees no_fields h = h
  fields_there (struct_field_trees trees) (named_fields fields) h =
      (zip_first (IsField known) (IsField known) struct_field_without_pos field_there trees.fields fields h.0, h.1)
  fields_there (tuple_field_trees trees) (tuple_fields numbers) h =
      zip_first (IsTupleField known) (IsTupleField known) tuple_field_without_pos (λ tree n is. is) trees.fields numbers h
  fields_there no_field_trees (named_fields fields) h = absurd h
  fields_there no_field_trees (tuple_fields numbers) h = absurd h
  fields_there (struct_field_trees trees) no_fields h = absurd h
  fields_there (struct_field_trees trees) (tuple_fields numbers) h = absurd h
  fields_there (tuple_field_trees trees) no_fields h = absurd h
  fields_there (tuple_field_trees trees) (named_fields fields) h = absurd h

  fields_back : (tree : Fields) (fields : FieldList) → AreFields known (fields_without_pos tree) fields → AreFields known tree fields
  fields_back no_field_trees no_fields h = h
  fields_back (struct_field_trees trees) (named_fields fields) h =
      (zip_first_back (IsField known) (IsField known) struct_field_without_pos field_back trees.fields fields h.0, h.1)
  fields_back (tuple_field_trees trees) (tuple_fields numbers) h =
      zip_first_back (IsTupleField known) (IsTupleField known) tuple_field_without_pos (λ tree n is. is) trees.fields numbers h
  fields_back no_field_trees (named_fields fields) h = absurd h
  fields_back no_field_trees (tuple_fields numbers) h = absurd h
  fields_back (struct_field_trees trees) no_fields h = absurd h
  fields_back (struct_field_trees trees) (tuple_fields numbers) h = absurd h
  fields_back (tuple_field_trees trees) no_fields h = absurd h
  fields_back (tuple_field_trees trees) (named_fields fields) h = absurd h

  variant_there : (tree : Variant) (variant : NamedVariant) → IsVariant known tree variant
      → IsVariant known (variant_without_pos tree) (bare_variant variant)
  variant_there tree variant h = record { name = h.name; fields = fields_there tree.fields variant.fields h.fields; pos = refl }

  variant_back : (tree : Variant) (variant : NamedVariant) → IsVariant known (variant_without_pos tree) variant
      → (own : NamedVariant) × IsVariant known tree own × (bare_variant own ≡ variant)
  variant_back tree variant h =
      let place = h.pos in (
        record { name = variant.name; fields = variant.fields; pos = tree.pos },
        record { name = h.name; fields = fields_back tree.fields variant.fields h.fields; pos = refl },
        (λ i. record { name = variant.name; fields = variant.fields; pos = sym place i }),
      )

  -- names of variants
  variant_names : (variants : List NamedVariant)
      → map (λ (variant : NamedVariant). variant.name) (map bare_variant variants) ≡ map (λ (variant : NamedVariant). variant.name) variants
  variant_names variants =
      map_same bare_variant (λ (variant : NamedVariant). variant.name) (λ (variant : NamedVariant). variant.name) (λ v. refl) variants

  shape_there : (tree : TypeValue) (shape : TypeShape) → IsShape known tree shape → IsShape known (type_value_without_pos tree) (bare_shape shape)
  shape_there (Primitive host _) (primitive name) h = h
  shape_there (Enum trees _) (enum variants) h = (
    zip_mapped (IsVariant known) (IsVariant known) variant_without_pos bare_variant variant_there trees variants h.0,
    subst AreDistinct (sym (variant_names variants)) h.1,
  )
  shape_there (Struct trees _) (struct members) h = fields_there trees members h
  shape_there (Primitive host _) (enum variants) h = absurd h
  shape_there (Primitive host _) (struct members) h = absurd h
  shape_there (Enum trees _) (primitive name) h = absurd h
  shape_there (Enum trees _) (struct members) h = absurd h
  shape_there (Struct trees _) (primitive name) h = absurd h
  shape_there (Struct trees _) (enum variants) h = absurd h

  shape_back : (tree : TypeValue) (shape : TypeShape) → IsShape known (type_value_without_pos tree) shape
      → (own : TypeShape) × IsShape known tree own × (bare_shape own ≡ shape)
  shape_back (Primitive host _) (primitive name) h = (primitive name, h, refl)
  shape_back (Enum trees _) (enum variants) h =
      let own = zip_back (IsVariant known) (IsVariant known) variant_without_pos bare_variant variant_back trees variants h.0 in
      let names = sym (variant_names (own.0)) ∙ ap (map (λ (variant : NamedVariant). variant.name)) (own.2) in
      (enum (own.0), (own.1, subst AreDistinct (sym names) h.1), ap enum (own.2))
  shape_back (Struct trees _) (struct members) h = (struct members, fields_back trees members h, refl)
  shape_back (Primitive host _) (enum variants) h = absurd h
  shape_back (Primitive host _) (struct members) h = absurd h
  shape_back (Enum trees _) (primitive name) h = absurd h
  shape_back (Enum trees _) (struct members) h = absurd h
  shape_back (Struct trees _) (primitive name) h = absurd h
  shape_back (Struct trees _) (enum variants) h = absurd h

  -- marks
  marks_bare : (tree : TypeValue) (is_extern is_nodebug : Bool)
      → MayBeMarked (type_value_without_pos tree) is_extern is_nodebug ≡ MayBeMarked tree is_extern is_nodebug
  marks_bare (Primitive host _) is_extern is_nodebug = refl
  marks_bare (Enum trees _) is_extern is_nodebug = refl
  marks_bare (Struct trees _) is_extern is_nodebug = refl

  type_there : (tree : TypeTree) (type : NamedType) → IsType known tree type → IsType known (type_without_pos tree) (bare_type type)
  type_there tree type h = record {
    name = h.name;
    is_extern = h.is_extern;
    is_nodebug = h.is_nodebug;
    marks = subst (λ (P : Type 0). P) (sym (marks_bare tree.ty tree.is_extern tree.is_nodebug)) h.marks;
    shape = shape_there tree.ty type.shape h.shape;
    pos = refl;
  }

  type_back : (tree : TypeTree) (type : NamedType) → IsType known (type_without_pos tree) type
      → (own : NamedType) × IsType known tree own × (bare_type own ≡ type)
  type_back tree type h =
      let (shape, is, same) = shape_back tree.ty type.shape h.shape in
      let place = h.pos in (
        record { name = type.name; is_extern = type.is_extern; is_nodebug = type.is_nodebug; shape = shape; pos = tree.pos },
        record {
          name = h.name;
          is_extern = h.is_extern;
          is_nodebug = h.is_nodebug;
          marks = subst (λ (P : Type 0). P) (marks_bare tree.ty tree.is_extern tree.is_nodebug) h.marks;
          shape = is;
          pos = refl;
        },
        (λ i. record {
          name = type.name;
          is_extern = type.is_extern;
          is_nodebug = type.is_nodebug;
          shape = same i;
          pos = sym place i;
        }),
      )

-- what definitions make
pub makes_there : (defs : List Def) (types : Environment) → Makes defs types → Makes (map def_without_pos defs) (bare_types types)
makes_there defs types h =
    let names = names_bare defs in
    record {
      names = subst AreDistinct (sym names) h.names;
      types = subst (λ (known : List (List ℕ)). AllZip (IsType known) (type_definitions (map def_without_pos defs)) (map bare_type types.types))
          (sym names)
          (subst (λ (trees : List TypeTree). AllZip (IsType (type_names defs)) trees (map bare_type types.types)) (sym (types_bare defs))
          (zip_mapped (IsType (type_names defs)) (IsType (type_names defs)) type_without_pos bare_type (type_there (type_names defs))
          (type_definitions defs) types.types h.types));
      constants = subst (λ (known : List (List ℕ)). AllZip (IsConstant known) (constant_definitions (map def_without_pos defs)) types.constants)
          (sym names)
          (subst (λ (trees : List (Ident × Ident)). AllZip (IsConstant (type_names defs)) trees types.constants) (sym (constants_bare defs))
          (zip_first (IsConstant (type_names defs)) (IsConstant (type_names defs)) bare_pair
          (λ tree constant is. record { name = is.name; type = is.type }) (constant_definitions defs) types.constants h.constants));
    }

pub makes_back : (defs : List Def) (types : Environment) → Makes (map def_without_pos defs) types
    → (own : Environment) × Makes defs own × (bare_types own ≡ types)
makes_back defs types h =
    let names = names_bare defs in
    let each : AllZip (IsType (type_names defs)) (map type_without_pos (type_definitions defs)) types.types =
    subst (λ (trees : List TypeTree). AllZip (IsType (type_names defs)) trees types.types) (types_bare defs)
    (subst (λ (known : List (List ℕ)). AllZip (IsType known) (type_definitions (map def_without_pos defs)) types.types) names h.types) in
    let constants : AllZip (IsConstant (type_names defs)) (map bare_pair (constant_definitions defs)) types.constants =
    subst (λ (trees : List (Ident × Ident)). AllZip (IsConstant (type_names defs)) trees types.constants) (constants_bare defs)
    (subst (λ (known : List (List ℕ)). AllZip (IsConstant known) (constant_definitions (map def_without_pos defs)) types.constants) names
    h.constants) in
    let own = zip_back (IsType (type_names defs)) (IsType (type_names defs)) type_without_pos bare_type (type_back (type_names defs))
    (type_definitions defs) types.types each in
    let all = own.2 in (
      record { types = own.0; constants = types.constants },
      record {
        names = subst AreDistinct names h.names;
        types = own.1;
        constants = zip_first_back (IsConstant (type_names defs)) (IsConstant (type_names defs)) bare_pair
            (λ tree constant is. record { name = is.name; type = is.type }) (constant_definitions defs) types.constants constants;
      },
      (λ i. record { types = all i; constants = types.constants }),
    )

-- sizes
pub map_length : {X Y : Type 0} (f : X → Y) (xs : List X) → length (map f xs) ≡ length xs
map_length f [] = refl
map_length f (x ∷ xs) = ap suc (map_length f xs)

count_bare : (tree : Fields) → field_count (fields_without_pos tree) ≡ field_count tree
count_bare no_field_trees = refl
count_bare (struct_field_trees trees) = map_length struct_field_without_pos trees.fields
count_bare (tuple_field_trees trees) = map_length tuple_field_without_pos trees.fields

size_there : (tree : TypeValue) → HasAllowedSize tree → HasAllowedSize (type_value_without_pos tree)
size_there (Primitive host _) h = h
size_there (Enum trees _) h =
    each_mapped (λ (tree : Variant). field_count tree.fields ≤ 255) (λ (tree : Variant). field_count tree.fields ≤ 255) variant_without_pos
    (λ tree few. subst (λ (n : ℕ). n ≤ 255) (sym (count_bare tree.fields)) few) trees h
size_there (Struct trees _) h = subst (λ (n : ℕ). n ≤ 255) (sym (count_bare trees)) h

size_back : (tree : TypeValue) → HasAllowedSize (type_value_without_pos tree) → HasAllowedSize tree
size_back (Primitive host _) h = h
size_back (Enum trees _) h =
    each_unmapped (λ (tree : Variant). field_count tree.fields ≤ 255) (λ (tree : Variant). field_count tree.fields ≤ 255) variant_without_pos
    (λ tree few. subst (λ (n : ℕ). n ≤ 255) (count_bare tree.fields) few) trees h
size_back (Struct trees _) h = subst (λ (n : ℕ). n ≤ 255) (count_bare trees) h

pub within_there : (defs : List Def) → AreWithinSizes defs → AreWithinSizes (map def_without_pos defs)
within_there defs h =
    subst (λ (trees : List TypeTree). AllByRecursion (λ (tree : TypeTree). HasAllowedSize tree.ty) trees) (sym (types_bare defs))
    (each_mapped (λ (tree : TypeTree). HasAllowedSize tree.ty) (λ (tree : TypeTree). HasAllowedSize tree.ty) type_without_pos
    (λ tree few. size_there tree.ty few) (type_definitions defs) h)

pub within_back : (defs : List Def) → AreWithinSizes (map def_without_pos defs) → AreWithinSizes defs
within_back defs h =
    each_unmapped (λ (tree : TypeTree). HasAllowedSize tree.ty) (λ (tree : TypeTree). HasAllowedSize tree.ty) type_without_pos
    (λ tree few. size_back tree.ty few) (type_definitions defs)
    (subst (λ (trees : List TypeTree). AllByRecursion (λ (tree : TypeTree). HasAllowedSize tree.ty) trees) (types_bare defs) h)
