-- What the tables of types say of fields and names is what the definitions say.
use Rattle.std.proofs.Common.{◌≡◌, ℕ, zero, suc, ◌+◌, ◌<◌, List, [], ◌∷◌, ◌++◌, map, length, Option, None, Some, slice_get, unwrap_or, codes}
use Rattle.std.proofs.Common.{refl, ◌∙◌, ap, subst, arith}
use Rattle.std.specs.List.{AllZip}
use Rattle.std.specs.Option.{option_map, option_and_then}
use Rattle.std.proofs.lemmas.List.{length-append}
use Rattle.std.proofs.lemmas.Option.{slice_get-get_or}
use Rattle.isle_types.specs.IntTypes.{builtin_name, builtin_names, builtin_types}
use Rattle.isle_types.specs.declared.types.BuiltinType.{BuiltinType}
use Rattle.isle_types.specs.declared.types.BuiltinType.TheVariants.{Bool as BoolType}
use Rattle.isle_types.specs.declared.types.Variant.{Variant}
use Rattle.isle_types.specs.declared.types.«Type».{«Type» as KnownType}
use Rattle.isle_types.specs.declared.types.«Type».TheVariants.{Builtin, Primitive, Enum as EnumType, Struct as StructType}
use Rattle.isle_types.specs.Environment.{Environment, NamedType, NamedVariant, TypeShape, primitive, enum, struct, constant_in}
use Rattle.isle_types.specs.TypeEnvs.{Shows, IsShown, IsShownShape, IsShownVariant, type_at, type_name, variants_of, type_of_constant}
use Rattle.isle_types.specs.TypeTables.{TypeTables}
use Rattle.isle_types.proofs.Zipped.{zipped_at}
use Rattle.isle_meaning.specs.Facts.{type_shape}
use Rattle.isle_meaning.specs.Facts as facts
use Rattle.isle_rules.proofs.FieldNumbers.{fields_numbers}
use Rattle.isle_rules.proofs.Zipped.{zipped_length}
use Rattle.isle_program.specs.Meanings.{fields_of_variant, variant_types, struct_types}
use Rattle.isle_program.specs.Programs.{number_of}
use Rattle.isle_program.specs.Tables.{fullname_of, variant_name, struct_name}

-- the fields of the variant at a place
variant_fields_agree : (names : List (List ℕ)) (type : List ℕ) (variants : List NamedVariant) (made : List Variant)
    → AllZip (IsShownVariant names type) variants made → (k : ℕ)
    → fields_of_variant (slice_get made k) ≡ facts.fields_of_variant (slice_get variants k)
variant_fields_agree names type [] [] each k = refl
variant_fields_agree names type [] (m ∷ made) each k = absurd each
variant_fields_agree names type (v ∷ variants) [] each k = absurd each
variant_fields_agree names type (v ∷ variants) (m ∷ made) each zero = fields_numbers names v.fields m.fields each.0.fields
variant_fields_agree names type (v ∷ variants) (m ∷ made) each (suc k) = variant_fields_agree names type variants made each.1 k

-- the fields of a type's variant
shape_variants_agree : (names : List (List ℕ)) (type : NamedType) (shape : TypeShape) (made : KnownType) (k : ℕ)
    → IsShownShape names type shape made
    → variant_types (Some made) k ≡ facts.variant_types shape k
shape_variants_agree names type (primitive host) (Primitive id name pos) k shown = refl
shape_variants_agree names type (enum variants) (EnumType name id is_extern is_nodebug made pos) k shown =
    variant_fields_agree names type.name variants made shown.1.0 k
shape_variants_agree names type (struct members) (StructType name id is_extern is_nodebug made pos) k shown = refl
shape_variants_agree names type (primitive host) (Builtin builtin) k shown = absurd shown
shape_variants_agree names type (primitive host) (EnumType name id is_extern is_nodebug made pos) k shown = absurd shown
shape_variants_agree names type (primitive host) (StructType name id is_extern is_nodebug made pos) k shown = absurd shown
shape_variants_agree names type (enum variants) (Builtin builtin) k shown = absurd shown
shape_variants_agree names type (enum variants) (Primitive id name pos) k shown = absurd shown
shape_variants_agree names type (enum variants) (StructType name id is_extern is_nodebug made pos) k shown = absurd shown
shape_variants_agree names type (struct members) (Builtin builtin) k shown = absurd shown
shape_variants_agree names type (struct members) (Primitive id name pos) k shown = absurd shown
shape_variants_agree names type (struct members) (EnumType name id is_extern is_nodebug made pos) k shown = absurd shown

-- the fields of a struct
shape_fields_agree : (names : List (List ℕ)) (type : NamedType) (shape : TypeShape) (made : KnownType) → IsShownShape names type shape made
    → struct_types (Some made) ≡ facts.struct_types shape
shape_fields_agree names type (primitive host) (Primitive id name pos) shown = refl
shape_fields_agree names type (enum variants) (EnumType name id is_extern is_nodebug made pos) shown = refl
shape_fields_agree names type (struct members) (StructType name id is_extern is_nodebug made pos) shown =
    fields_numbers names members made shown.1
shape_fields_agree names type (primitive host) (Builtin builtin) shown = absurd shown
shape_fields_agree names type (primitive host) (EnumType name id is_extern is_nodebug made pos) shown = absurd shown
shape_fields_agree names type (primitive host) (StructType name id is_extern is_nodebug made pos) shown = absurd shown
shape_fields_agree names type (enum variants) (Builtin builtin) shown = absurd shown
shape_fields_agree names type (enum variants) (Primitive id name pos) shown = absurd shown
shape_fields_agree names type (enum variants) (StructType name id is_extern is_nodebug made pos) shown = absurd shown
shape_fields_agree names type (struct members) (Builtin builtin) shown = absurd shown
shape_fields_agree names type (struct members) (Primitive id name pos) shown = absurd shown
shape_fields_agree names type (struct members) (EnumType name id is_extern is_nodebug made pos) shown = absurd shown

-- the shape of the type at a place behind builtin ones
abbrev shape_in : List BuiltinType → List NamedType → ℕ → TypeShape
shape_in builtin types ty =
    unwrap_or (slice_get (map primitive (map builtin_name builtin) ++ map (λ (type : NamedType). type.shape) types) ty) (primitive [])

-- so the fields of each type's variants, and of each struct
variants_agree : (names : List (List ℕ)) (builtin : List BuiltinType) (types : List NamedType) (made : List KnownType)
    → AllZip (IsShown names) types made → (ty k : ℕ)
    → variant_types (slice_get (map Builtin builtin ++ made) ty) k ≡ facts.variant_types (shape_in builtin types ty) k
variants_agree names (b ∷ builtin) types made each zero k = refl
variants_agree names (b ∷ builtin) types made each (suc ty) k = variants_agree names builtin types made each ty k
variants_agree names [] [] [] each ty k = refl
variants_agree names [] [] (m ∷ made) each ty k = absurd each
variants_agree names [] (t ∷ types) [] each ty k = absurd each
variants_agree names [] (t ∷ types) (m ∷ made) each zero k = shape_variants_agree names t t.shape m k each.0.shape
variants_agree names [] (t ∷ types) (m ∷ made) each (suc ty) k = variants_agree names [] types made each.1 ty k

structs_agree : (names : List (List ℕ)) (builtin : List BuiltinType) (types : List NamedType) (made : List KnownType)
    → AllZip (IsShown names) types made → (ty : ℕ)
    → struct_types (slice_get (map Builtin builtin ++ made) ty) ≡ facts.struct_types (shape_in builtin types ty)
structs_agree names (b ∷ builtin) types made each zero = refl
structs_agree names (b ∷ builtin) types made each (suc ty) = structs_agree names builtin types made each ty
structs_agree names [] [] [] each ty = refl
structs_agree names [] [] (m ∷ made) each ty = absurd each
structs_agree names [] (t ∷ types) [] each ty = absurd each
structs_agree names [] (t ∷ types) (m ∷ made) each zero = shape_fields_agree names t t.shape m each.0.shape
structs_agree names [] (t ∷ types) (m ∷ made) each (suc ty) = structs_agree names [] types made each.1 ty

-- an item behind others
behind : {X : Type 0} (xs ys : List X) (n j : ℕ) → n ≡ length xs + j → slice_get (xs ++ ys) n ≡ slice_get ys j
behind {X} [] ys n j is = ap (slice_get ys) (none (length {A = X} []) refl)
  where
    none : (l : ℕ) → l ≡ 0 → n ≡ j
    none l e = omega (arith, is, e)
behind (x ∷ xs) ys zero j is = let long : length (x ∷ xs) ≡ suc (length xs) = refl in absurd (omega (arith, is, long))
behind (x ∷ xs) ys (suc n) j is = let long : length (x ∷ xs) ≡ suc (length xs) = refl in behind xs ys n j (omega (arith, is, long))

-- the name of a variant that is shown
shape_variant : (tyenv : TypeTables) (type : NamedType) (variants : List NamedVariant) (k : ℕ) (variant : NamedVariant) (made : KnownType)
    → IsShownShape tyenv.names type (enum variants) made → slice_get variants k ≡ Some variant
    → fullname_of tyenv (slice_get (variants_of made) k) ≡ type.name ++ codes "." ++ variant.name
shape_variant tyenv type variants k variant (EnumType name id is_extern is_nodebug made pos) shown at =
    let (m, there, is) = zipped_at (IsShownVariant tyenv.names type.name) variants made shown.1.0 k variant at in
    ap (fullname_of tyenv) there ∙ ap (λ (o : Option (List ℕ)). unwrap_or o []) is.fullname
shape_variant tyenv type variants k variant (Builtin builtin) shown at = absurd shown
shape_variant tyenv type variants k variant (Primitive id name pos) shown at = absurd shown
shape_variant tyenv type variants k variant (StructType name id is_extern is_nodebug made pos) shown at = absurd shown

-- the name of a struct that is shown
shape_struct : (tyenv : TypeTables) (type : NamedType) (shape : TypeShape) (made : KnownType) → IsShownShape tyenv.names type shape made
    → (members : _) → shape ≡ struct members → type_name tyenv made ≡ Some type.name
shape_struct tyenv type (struct own) (StructType name id is_extern is_nodebug made pos) shown members is = shown.0.name
shape_struct tyenv type (primitive host) made shown members is = absurd cc
shape_struct tyenv type (enum variants) made shown members is = absurd cc
shape_struct tyenv type (struct own) (Builtin builtin) shown members is = absurd shown
shape_struct tyenv type (struct own) (Primitive id name pos) shown members is = absurd shown
shape_struct tyenv type (struct own) (EnumType name id is_extern is_nodebug made pos) shown members is = absurd shown

module _ (tyenv : TypeTables) (types : Environment) (shows : Shows tyenv types) where
  pub variant_types_agree : (ty k : ℕ) → variant_types (slice_get tyenv.types ty) k ≡ facts.variant_types (type_shape types ty) k
  variant_types_agree ty k =
      ap (λ (l : List KnownType). variant_types (slice_get l ty) k) shows.all
      ∙ variants_agree tyenv.names builtin_types types.types shows.made shows.types ty k

  pub struct_types_agree : (ty : ℕ) → struct_types (slice_get tyenv.types ty) ≡ facts.struct_types (type_shape types ty)
  struct_types_agree ty =
      ap (λ (l : List KnownType). struct_types (slice_get l ty)) shows.all
      ∙ structs_agree tyenv.names builtin_types types.types shows.made shows.types ty

  -- the type of a constant
  pub constants_agree : (name : List ℕ) → option_map number_of (type_of_constant tyenv name) ≡ constant_in types.constants name
  constants_agree name = ap (option_map number_of) (shows.constants name) ∙ back (constant_in types.constants name)
    where
      back : (o : Option ℕ) → option_map number_of (option_map type_at o) ≡ o
      back None = refl
      back (Some ty) = refl

  -- the table's type at a defined type's number
  pub type_there : (place : ℕ) (type : NamedType) → slice_get types.types place ≡ Some type
      → (made : KnownType) × (slice_get tyenv.types (length builtin_names + place) ≡ Some made) × IsShown tyenv.names type made
  type_there place type at =
      let (made, there, is) = zipped_at (IsShown tyenv.names) types.types shows.made shows.types place type at in
      let long : length builtin_names ≡ length (map Builtin builtin_types) = refl in
      let moved = behind (map Builtin builtin_types) shows.made (length builtin_names + place) place (omega (arith, long)) in
      (made, ap (λ (l : List KnownType). slice_get l (length builtin_names + place)) shows.all ∙ moved ∙ there, is)

  -- a variant's name
  pub variant_named : (place : ℕ) (type : NamedType) (variants : List NamedVariant) (k : ℕ) (variant : NamedVariant)
      → slice_get types.types place ≡ Some type → type.shape ≡ enum variants → slice_get variants k ≡ Some variant
      → variant_name tyenv (length builtin_names + place) k ≡ type.name ++ codes "." ++ variant.name
  variant_named place type variants k variant at shape there =
      let (made, stands, is) = type_there place type at in
      let shown = subst (λ (s : TypeShape). IsShownShape tyenv.names type s made) shape is.shape in
      ap (λ (o : Option KnownType). fullname_of tyenv (option_and_then (λ (t : KnownType). slice_get (variants_of t) k) o)) stands
      ∙ shape_variant tyenv type variants k variant made shown there

  -- a struct's name
  pub struct_named : (place : ℕ) (type : NamedType) (members : _) → slice_get types.types place ≡ Some type → type.shape ≡ struct members
      → struct_name tyenv (length builtin_names + place) ≡ type.name
  struct_named place type members at shape =
      let (made, stands, is) = type_there place type at in
      ap (λ (o : Option KnownType). unwrap_or (option_and_then (type_name tyenv) o) []) stands
      ∙ ap (λ (o : Option (List ℕ)). unwrap_or o []) (shape_struct tyenv type type.shape made is.shape members shape)

  -- as many types as are defined behind the builtin ones
  pub type_known : (ty : ℕ) → ty < length builtin_names + length types.types → (made : KnownType) × (slice_get tyenv.types ty ≡ Some made)
  type_known ty below =
      let count = ap length shows.all ∙ length-append (map Builtin builtin_types) shows.made in
      let long : length builtin_names ≡ length (map Builtin builtin_types) = refl in
      let as_many = zipped_length (IsShown tyenv.names) types.types shows.made shows.types in
      (_, slice_get-get_or tyenv.types ty (Builtin BoolType) (omega (arith, below, count, long, as_many)))
