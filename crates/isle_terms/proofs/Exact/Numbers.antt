-- Which numbers a type has, as a test.
use Rattle.std.proofs.Common.{◌≡◌, ◌↔◌, ℕ, ◌+◌, ◌-◌, ◌≤◌, ℤ, pos, negsuc, ◌≤ℤ◌, Bool, true, false, T, Option, None, Some, refl, sym, ap}
use Rattle.std.proofs.Common.{◌∙◌, arith, length, slice_get, List, inl, inr}
use Rattle.std.proofs.lemmas.Bool.{false≢true, and_parts, and_from}
use Rattle.std.proofs.lemmas.Option.{none-some, slice_get_past, slice_get_cases}
use Rattle.isle_types.specs.declared.types.IntType.{IntType}
use Rattle.isle_types.specs.declared.types.BuiltinType.{BuiltinType}
use Rattle.isle_types.specs.declared.types.BuiltinType.TheVariants.{Bool as BoolType, Int}
use Rattle.isle_types.specs.IntTypes.{builtin_types, builtin_names, HasNumber, spelt_number}
use Rattle.isle_types.specs.Environment.{Environment, NamedType, TypeShape, primitive, enum, struct}
use Rattle.isle_rules.specs.Elaboration.{IsLiteralOf, of_integer, of_primitive}
use Rattle.isle_terms.specs.Inside.Readings.KnownBy.{is_at_most, int_has_number, is_primitive_shape, defined_has_number, builtin_has_number, type_has_number}

-- a test that is passed, as a type
passed : (b : Bool) → b ≡ true → T b
passed true is = tt
passed false is = absurd (false≢true is)

-- and back
is_passed : (b : Bool) → T b → b ≡ true
is_passed true t = refl
is_passed false t = absurd t

-- the test of the order is exact
at_most : (a b : ℤ) → is_at_most a b ≡ true → a ≤ℤ b
at_most (pos a) (pos b) is = record { le = passed _ is }
at_most (pos a) (negsuc b) is = record { le = passed _ is }
at_most (negsuc a) (pos b) is = record { le = passed _ is }
at_most (negsuc a) (negsuc b) is = record { le = passed _ is }

-- and back
is_at_most_where : (a b : ℤ) → a ≤ℤ b → is_at_most a b ≡ true
is_at_most_where (pos a) (pos b) h = is_passed _ h.le
is_at_most_where (pos a) (negsuc b) h = is_passed _ h.le
is_at_most_where (negsuc a) (pos b) h = is_passed _ h.le
is_at_most_where (negsuc a) (negsuc b) h = is_passed _ h.le

-- an integer type that passes the test has the number
pub int_number_there : (int : IntType) (val : ℤ) (big : Bool) → int_has_number int val big ≡ true → HasNumber int (spelt_number val big)
int_number_there int val big is =
    let both = and_parts _ _ is in record { low = at_most _ _ both.0; high = at_most _ _ both.1 }

-- one that has it passes
pub int_number_found : (int : IntType) (val : ℤ) (big : Bool) → HasNumber int (spelt_number val big) → int_has_number int val big ≡ true
int_number_found int val big h = and_from _ _ (is_at_most_where _ _ h.low) (is_at_most_where _ _ h.high)

-- a shape that passes the test is the host's
primitive_shape : (shape : TypeShape) → is_primitive_shape shape ≡ true → (host : List ℕ) × (shape ≡ primitive host)
primitive_shape (primitive host) is = (host, refl)
primitive_shape (enum variants) is = absurd (false≢true is)
primitive_shape (struct _) is = absurd (false≢true is)

-- a defined type that passes the test is a primitive
defined_there : (option : Option NamedType) → defined_has_number option ≡ true
    → (type : NamedType) × (host : List ℕ) × (option ≡ Some type) × (type.shape ≡ primitive host)
defined_there None is = absurd (false≢true is)
defined_there (Some type) is = let shape = primitive_shape type.shape is in (type, shape.0, refl, shape.1)

-- a number is past the builtin types where none has it
past_builtins : (ty : ℕ) → slice_get builtin_types ty ≡ None → ty ≡ length builtin_names + (ty - length builtin_names)
past_builtins ty none =
    let cases = slice_get_cases builtin_types ty in
    let past : 13 ≤ ty = elim cases.1 [ inl found ↦ absurd (none-some found.0 (sym none ∙ found.2)) | inr far ↦ far.0 ] in
    omega arith

-- what passes the test has the literal, by what stands among the builtin types
builtin_there : (types : Environment) (ty : ℕ) (val : ℤ) (big : Bool) (option : Option BuiltinType) → slice_get builtin_types ty ≡ option
    → builtin_has_number option (defined_has_number (slice_get types.types (ty - length builtin_names))) val big ≡ true
    → IsLiteralOf types ty val big
builtin_there types ty val big None is passes =
    let defined = defined_there (slice_get types.types (ty - length builtin_names)) passes in
    of_primitive (ty - length builtin_names) defined.0 defined.1 (past_builtins ty is) defined.2 defined.3
builtin_there types ty val big (Some BoolType) is passes = absurd (false≢true passes)
builtin_there types ty val big (Some (Int int)) is passes = of_integer int is (int_number_there int val big passes)

-- a type that passes the test has the literal
pub number_there : (types : Environment) (ty : ℕ) (val : ℤ) (big : Bool) → type_has_number types ty val big ≡ true → IsLiteralOf types ty val big
number_there types ty val big passes = builtin_there types ty val big (slice_get builtin_types ty) refl passes

-- a type that has the literal passes the test
pub number_found : (types : Environment) (ty : ℕ) (val : ℤ) (big : Bool) → IsLiteralOf types ty val big → type_has_number types ty val big ≡ true
number_found types ty val big (of_integer int is has) =
    ap (λ o. builtin_has_number o (defined_has_number (slice_get types.types (ty - length builtin_names))) val big) is
    ∙ int_number_found int val big has
number_found types ty val big (of_primitive place type host is stands shape) =
    ap (λ o. builtin_has_number o (defined_has_number (slice_get types.types (ty - length builtin_names))) val big) (beyond ty place is)
    ∙ ap defined_has_number (ap (slice_get types.types) (place_of ty place is) ∙ stands) ∙ ap is_primitive_shape shape
  where
    beyond : (ty place : ℕ) → ty ≡ length builtin_names + place → slice_get builtin_types ty ≡ None
    beyond ty place is = slice_get_past builtin_types ty (omega arith)

    place_of : (ty place : ℕ) → ty ≡ length builtin_names + place → ty - length builtin_names ≡ place
    place_of ty place is = omega arith
