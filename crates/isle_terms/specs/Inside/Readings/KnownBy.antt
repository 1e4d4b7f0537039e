-- What the types, terms and converters of definitions make known of names.
use Rattle.std.specs.Prelude.{ℕ, ◌-◌, ℤ, pos, negsuc, Bool, true, false, Option, None, Some, slice_get, ◌&&◌, leb, length}
use Rattle.std.specs.Option.{option_and_then}
use Rattle.isle_types.specs.declared.types.IntType.{IntType}
use Rattle.isle_types.specs.declared.types.BuiltinType.{BuiltinType}
use Rattle.isle_types.specs.declared.types.BuiltinType.TheVariants.{Bool as BoolType, Int}
use Rattle.isle_types.specs.IntTypes.{builtin_types, builtin_names, least_of, greatest_of, spelt_number}
use Rattle.isle_types.specs.Environment.{Environment, NamedType, TypeShape, primitive, enum, struct, constant_in}
use Rattle.isle_rules.specs.Signatures.{Declared, term_named, converter_in}
use Rattle.isle_rules.specs.Elaboration.{type_named}
use Rattle.isle_terms.specs.Inside.Readings.Outcomes.{Known}

-- whether one integer is at most another
abbrev pub is_at_most : ℤ → ℤ → Bool
is_at_most (pos a) (pos b) = leb a b
is_at_most (pos a) (negsuc b) = false
is_at_most (negsuc a) (pos b) = true
is_at_most (negsuc a) (negsuc b) = leb b a

-- whether an integer type has the number that a literal spells
abbrev pub int_has_number : IntType → ℤ → Bool → Bool
int_has_number int val big = is_at_most (least_of int) (spelt_number val big) && is_at_most (spelt_number val big) (greatest_of int)

-- whether a type of this shape is the host's
abbrev pub is_primitive_shape : TypeShape → Bool
is_primitive_shape (primitive host) = true
is_primitive_shape (enum variants) = false
is_primitive_shape (struct _) = false

-- whether a defined type has integers: a primitive has all
abbrev pub defined_has_number : Option NamedType → Bool
defined_has_number None = false
defined_has_number (Some type) = is_primitive_shape type.shape

-- whether a builtin type, or else a defined one, has the number of a literal
abbrev pub builtin_has_number : Option BuiltinType → (otherwise : Bool) → ℤ → Bool → Bool
builtin_has_number None otherwise val big = otherwise
builtin_has_number (Some BoolType) otherwise val big = false
builtin_has_number (Some (Int int)) otherwise val big = int_has_number int val big

-- whether the type of a number has the number of a literal
abbrev pub type_has_number : Environment → ℕ → ℤ → Bool → Bool
type_has_number types ty val big =
    builtin_has_number (slice_get builtin_types ty) (defined_has_number (slice_get types.types (ty - length builtin_names))) val big

-- what is known of names where these are the types, terms and converters
abbrev pub known_by : Declared → Known
known_by declared = record {
  term_named = λ name. term_named declared name;
  signature = λ number. slice_get declared.terms number;
  type_named = λ name. type_named declared.types name;
  constant = λ name. constant_in declared.types.constants name;
  has_number = λ ty val big. type_has_number declared.types ty val big;
  converter = λ inner outer. option_and_then (term_named declared) (converter_in declared.conversions inner outer);
  expands = declared.expands;
}
