-- The literals and constants of well typed rules are values of their types.
use Rattle.std.proofs.Common.{◌≡◌, ℕ, suc, ◌+◌, ◌-◌, ◌<◌, ◌≤◌, ◌^◌, List, [], ◌∷◌, map, length, Bool, true, false, Option, None, Some, slice_get}
use Rattle.std.proofs.Common.{refl, sym, ◌∙◌, ap, subst, arith, is_some, T, ltb, cond}
use Rattle.std.specs.Prelude.{ℤ, pos, negsuc, FitsSigned, ◌+ℤ◌, ◌≤ℤ◌, if◌then◌else◌}
use Rattle.std.specs.Int.{w128}
use Rattle.std.specs.List.{AllZip}
use Rattle.std.specs.Str.{bytes_eq}
use Rattle.std.specs.Option.{option_map}
use Rattle.std.proofs.lemmas.Bool.{leb-true, le-ltb}
use Rattle.std.proofs.lemmas.Int.{to_z-of_z}
use Rattle.std.proofs.lemmas.List.{length-map, length-append}
use Rattle.std.proofs.lemmas.Option.{same_Some, none-some, slice_get-map, slice_get_within}
use Rattle.isle_ast.specs.declared.ast.Def.{Def}
use Rattle.isle_ast.specs.declared.ast.Ident.{Ident}
use Rattle.isle_types.specs.declared.types.IntType.{IntType}
use Rattle.isle_types.specs.declared.types.IntType.TheVariants.{U8, U16, U32, U64, U128, USize, I8, I16, I32, I64, I128, ISize}
use Rattle.isle_types.specs.declared.types.BuiltinType.{BuiltinType}
use Rattle.isle_types.specs.declared.types.BuiltinType.TheVariants.{Bool as BoolType, Int}
use Rattle.isle_types.specs.declared.types.«Type».{«Type» as KnownType}
use Rattle.isle_types.specs.declared.types.«Type».TheVariants.{Builtin, Primitive, Enum as EnumType, Struct as StructType}
use Rattle.isle_types.specs.IntTypes.{builtin_names, builtin_types, greatest_of, HasNumber}
use Rattle.isle_types.specs.Environment.{Environment, Makes, IsType, IsConstant, type_names, type_definitions, constant_definitions, constant_in}
use Rattle.isle_types.specs.Environment.{NamedType, TypeShape, primitive}
use Rattle.isle_types.specs.TypeTables.{TypeTables}
use Rattle.isle_types.specs.TypeEnvs.{Shows, IsShownShape}
use Rattle.isle_containers.proofs.Lists.{slice_get-kept}
use Rattle.isle_rules.specs.Elaboration.{bool_number, of_integer, of_primitive}
use Rattle.isle_rules.specs.SoundRules.WellTyped.{IsTypedLiteral}
use Rattle.isle_rules.specs.Values.{bool_tree, int_tree, big_tree, const_tree}
use Rattle.isle_meaning.specs.Values.{bool_value, int_value, constant_value}
use Rattle.isle_meaning.specs.ValueTypes.{TypeKind, integer_kind, primitive_kind, IsIntOf, HasConstants}
use Rattle.isle_meaning.specs.GroundValues.{IsValueOf}
use Rattle.isle_rules.specs.Shown.TermTables.{TermTables}
use Rattle.isle_rules.proofs.Zipped.{zipped_length}
use Rattle.isle_program.specs.Tables.{value_facts_by, kind_of_type}
use Rattle.isle_program.specs.Facts.Reach.{is_data_type}
use Rattle.isle_program.proofs.SoundPrograms.TypeTables.{constants_agree, type_there, type_known}

-- a test that is passed
is_passed : (b : Bool) → T b → b ≡ true
is_passed true t = refl
is_passed false t = absurd t

at_most : (n k : ℕ) → pos n ≤ℤ pos k → n ≤ k
at_most n k h = leb-true n k (is_passed _ h.le)

-- a number from 2^127 on is one of `u128` alone
big_type : (int : IntType) (n : ℕ) → 2 ^ 127 ≤ n → pos n ≤ℤ greatest_of int → int ≡ U128
big_type U8 n big h = let low = at_most n (2 ^ 8 - 1) h in absurd (omega (arith, big, low))
big_type U16 n big h = let low = at_most n (2 ^ 16 - 1) h in absurd (omega (arith, big, low))
big_type U32 n big h = let low = at_most n (2 ^ 32 - 1) h in absurd (omega (arith, big, low))
big_type U64 n big h = let low = at_most n (2 ^ 64 - 1) h in absurd (omega (arith, big, low))
big_type U128 n big h = refl
big_type USize n big h = let low = at_most n (2 ^ 64 - 1) h in absurd (omega (arith, big, low))
big_type I8 n big h = let low = at_most n (2 ^ 7 - 1) h in absurd (omega (arith, big, low))
big_type I16 n big h = let low = at_most n (2 ^ 15 - 1) h in absurd (omega (arith, big, low))
big_type I32 n big h = let low = at_most n (2 ^ 31 - 1) h in absurd (omega (arith, big, low))
big_type I64 n big h = let low = at_most n (2 ^ 63 - 1) h in absurd (omega (arith, big, low))
big_type I128 n big h = let low = at_most n (2 ^ 127 - 1) h in absurd (omega (arith, big, low))
big_type ISize n big h = let low = at_most n (2 ^ 63 - 1) h in absurd (omega (arith, big, low))

-- and below 2^128
below_top : (n : ℕ) → pos n ≤ℤ greatest_of U128 → n < 2 ^ 128
below_top n h = let low = at_most n (2 ^ 128 - 1) h in omega (arith, low)

-- the number that a negative one keeps the bits of
bits_number : (m : ℕ) → m < 2 ^ 127 → negsuc m +ℤ pos (2 ^ 128) ≡ pos (2 ^ 128 - suc m)
bits_number m low =
    let test : ltb (2 ^ 128) (suc m) ≡ false = le-ltb (2 ^ 128) (suc m) (omega (arith, low)) in
    ap (λ (b : Bool). cond b (negsuc (suc m - suc (2 ^ 128))) (pos (2 ^ 128 - suc m))) test

-- of a constant's type there is a name
constant_below : (known : List (List ℕ)) (trees : List (Ident × Ident)) (constants : List (List ℕ × ℕ))
    → AllZip (IsConstant known) trees constants
    → (name : List ℕ) (ty : ℕ) → constant_in constants name ≡ Some ty → ty < length known
constant_below known [] [] each name ty e = absurd (none-some ty e)
constant_below known [] (c ∷ constants) each name ty e = absurd each
constant_below known (t ∷ trees) [] each name ty e = absurd each
constant_below known (t ∷ trees) (c ∷ constants) each name ty e =
    go (constant_in constants name) (bytes_eq name c.0) e (constant_below known trees constants each.1 name ty)
  where
    go : (o : Option ℕ) (same : Bool) → (if is_some o then o else (if same then Some c.1 else None)) ≡ Some ty
        → (o ≡ Some ty → ty < length known)
        → ty < length known
    go (Some other) same is later = later is
    go None true is later = subst (λ (n : ℕ). n < length known) (same_Some c.1 ty is) (slice_get_within known c.1 _ each.0.type)
    go None false is later = absurd (none-some ty is)

-- a known type that isn't one of data may have constants
has_constants : (type : KnownType) → is_data_type (Some type) ≡ false → HasConstants (kind_of_type (Some type))
has_constants (Builtin BoolType) e = tt
has_constants (Builtin (Int int)) e = tt
has_constants (Primitive id name at) e = tt
has_constants (EnumType name id is_extern is_nodebug variants at) e = absurd cc
has_constants (StructType name id is_extern is_nodebug members at) e = absurd cc

-- a host's type
primitive_is : (names : List (List ℕ)) (type : NamedType) (shape : TypeShape) (made : KnownType) (host : List ℕ)
    → IsShownShape names type shape made
    → shape ≡ primitive host → kind_of_type (Some made) ≡ primitive_kind
primitive_is names type shape (Primitive id name at) host shown e = refl
primitive_is names type shape (Builtin builtin) host shown e =
    absurd (subst (λ (s : TypeShape). IsShownShape names type s (Builtin builtin)) e shown)
primitive_is names type shape (EnumType name id is_extern is_nodebug variants at) host shown e =
    absurd (subst (λ (s : TypeShape). IsShownShape names type s (EnumType name id is_extern is_nodebug variants at)) e shown)
primitive_is names type shape (StructType name id is_extern is_nodebug members at) host shown e =
    absurd (subst (λ (s : TypeShape). IsShownShape names type s (StructType name id is_extern is_nodebug members at)) e shown)

module _ (tyenv : TypeTables) (env : TermTables) (types : Environment) (shows : Shows tyenv types) where
  -- the kind of a builtin type
  builtin_kind : (ty : ℕ) (builtin : BuiltinType) → slice_get builtin_types ty ≡ Some builtin
      → (value_facts_by tyenv env).kind ty ≡ kind_of_type (Some (Builtin builtin))
  builtin_kind ty builtin at =
      let there = slice_get-map Builtin builtin_types ty ∙ ap (option_map Builtin) at in
      ap kind_of_type (ap (λ (l : List KnownType). slice_get l ty) shows.all
      ∙ slice_get-kept (map Builtin builtin_types) shows.made ty (Builtin builtin) there)

  pub bool_sound : (b : Bool) (ty : ℕ) → ty ≡ bool_number → IsValueOf (value_facts_by tyenv env) (bool_value b) ty
  bool_sound b ty is =
      record { tree = bool_tree b; typed = ap (value_facts_by tyenv env).kind is ∙ builtin_kind bool_number BoolType refl; stands = refl }

  -- an integer as it is
  int_sound : (n : ℤ) (ty : ℕ) (kind : TypeKind) → (value_facts_by tyenv env).kind ty ≡ kind → IsIntOf n kind
      → IsValueOf (value_facts_by tyenv env) (int_value n) ty
  int_sound n ty kind is fits = record { tree = int_tree n; typed = subst (IsIntOf n) (sym is) fits; stands = refl }

  -- an integer from 2^127 on by its bits
  big_sound : (n : ℤ) (ty : ℕ) (int : IntType) → (value_facts_by tyenv env).kind ty ≡ integer_kind int → FitsSigned w128 n
      → HasNumber int (n +ℤ pos (2 ^ 128)) → IsValueOf (value_facts_by tyenv env) (int_value n) ty
  big_sound (pos m) ty int is fits has =
      let large : 2 ^ 127 ≤ m + 2 ^ 128 = omega arith in
      let only = big_type int (m + 2 ^ 128) large has.high in
      let low = below_top (m + 2 ^ 128) (subst (λ (i : IntType). pos (m + 2 ^ 128) ≤ℤ greatest_of i) only has.high) in
      absurd (omega (arith, low))
  big_sound (negsuc m) ty int is fits has =
      let below : m < 2 ^ 127 = fits.sfits in
      let high = subst (λ (z : ℤ). z ≤ℤ greatest_of int) (bits_number m below) has.high in
      let large : 2 ^ 127 ≤ 2 ^ 128 - suc m = omega (arith, below) in
      let only = big_type int (2 ^ 128 - suc m) large high in
      record {
        tree = big_tree (2 ^ 128 - suc m);
        typed = (is ∙ ap integer_kind only, large, (let h : 2 ^ 128 - suc m < 2 ^ 128 = omega (arith, below) in h));
        stands = ap int_value (to_z-of_z w128 (negsuc m) fits);
      }

  pub literal_sound : (n : ℤ) (ty : ℕ) → IsTypedLiteral types ty n → FitsSigned w128 n → IsValueOf (value_facts_by tyenv env) (int_value n) ty
  literal_sound n ty (true, of_integer int at has) fits = big_sound n ty int (builtin_kind ty (Int int) at) fits has
  literal_sound n ty (false, of_integer int at has) fits = int_sound n ty (integer_kind int) (builtin_kind ty (Int int) at) (has, fits)
  literal_sound n ty (big, of_primitive place type host is at shape) fits =
      let (made, there, shown) = type_there tyenv types shows place type at in
      let kind = primitive_is tyenv.names type type.shape made host shown.shape shape in
      int_sound n ty primitive_kind (ap (value_facts_by tyenv env).kind is ∙ ap kind_of_type there ∙ kind) fits

  pub constant_sound : (defs : List Def) → Makes defs types → (name : List ℕ) (ty : ℕ) → constant_in types.constants name ≡ Some ty
      → is_data_type (slice_get tyenv.types ty) ≡ false → IsValueOf (value_facts_by tyenv env) (constant_value name) ty
  constant_sound defs made name ty e free =
      let low = constant_below (type_names defs) (constant_definitions defs) types.constants made.constants name ty e in
      let count = length-append builtin_names (map (λ (t : _). t.name.0) (type_definitions defs)) in
      let listed = length-map (type_definitions defs) (λ t. t.name.0) in
      let as_many = zipped_length (IsType (type_names defs)) (type_definitions defs) types.types made.types in
      let (type, at) = type_known tyenv types shows ty (omega (arith, low, count, listed, as_many)) in
      record {
        tree = const_tree name;
        typed = (
          constants_agree tyenv types shows name ∙ e,
          subst (λ (o : Option KnownType). HasConstants (kind_of_type o)) (sym at)
              (has_constants type (ap is_data_type (sym at) ∙ free)),
        );
        stands = refl;
      }
