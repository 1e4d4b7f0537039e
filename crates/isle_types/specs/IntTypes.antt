-- The integer types, and which numbers they have.
use Rattle.std.specs.Prelude.{ℕ, ℤ, pos, negsuc, ◌-◌, ◌^◌, ◌+ℤ◌, ◌≤ℤ◌, ◌++◌, Bool, true, false, List, [], ◌∷◌, map, if◌then◌else◌, codes}
use Rattle.std.specs.Fmt.{signed_decimal}
use Rattle.isle_types.specs.declared.types.IntType.{IntType}
use Rattle.isle_types.specs.declared.types.IntType.TheVariants.{U8, U16, U32, U64, U128, USize, I8, I16, I32, I64, I128, ISize}
use Rattle.isle_types.specs.declared.types.BuiltinType.{BuiltinType}
use Rattle.isle_types.specs.declared.types.BuiltinType.TheVariants.{Bool as BoolType, Int}

-- the name of an integer type
abbrev pub int_name : IntType → List ℕ
int_name U8 = codes "u8"
int_name U16 = codes "u16"
int_name U32 = codes "u32"
int_name U64 = codes "u64"
int_name U128 = codes "u128"
int_name USize = codes "usize"
int_name I8 = codes "i8"
int_name I16 = codes "i16"
int_name I32 = codes "i32"
int_name I64 = codes "i64"
int_name I128 = codes "i128"
int_name ISize = codes "isize"

-- whether an integer type has negative numbers
abbrev pub has_sign : IntType → Bool
has_sign U8 = false
has_sign U16 = false
has_sign U32 = false
has_sign U64 = false
has_sign U128 = false
has_sign USize = false
has_sign I8 = true
has_sign I16 = true
has_sign I32 = true
has_sign I64 = true
has_sign I128 = true
has_sign ISize = true

-- how many bits an integer type has
abbrev pub bits_of : IntType → ℕ
bits_of U8 = 8
bits_of U16 = 16
bits_of U32 = 32
bits_of U64 = 64
bits_of U128 = 128
bits_of USize = 64
bits_of I8 = 8
bits_of I16 = 16
bits_of I32 = 32
bits_of I64 = 64
bits_of I128 = 128
bits_of ISize = 64

-- the least number of an integer type
abbrev pub least_of : IntType → ℤ
least_of ty = if has_sign ty then negsuc (2 ^ (bits_of ty - 1) - 1) else pos 0

-- the greatest number of an integer type
abbrev pub greatest_of : IntType → ℤ
greatest_of ty = if has_sign ty then pos (2 ^ (bits_of ty - 1) - 1) else pos (2 ^ bits_of ty - 1)

-- the least and the greatest number, as they are told
abbrev pub bounds_text : IntType → List ℕ
bounds_text ty = signed_decimal (least_of ty) ++ (codes " to " ++ signed_decimal (greatest_of ty))

-- an integer type has a number
pub record HasNumber (ty : IntType) (n : ℤ) : Type 0 where
  pub low : least_of ty ≤ℤ n
  pub high : n ≤ℤ greatest_of ty

-- the number that a literal spells: `val` itself, or the one from 2^127 on of which `val` keeps the 128 bits
abbrev pub spelt_number : ℤ → Bool → ℤ
spelt_number val big = if big then val +ℤ pos (2 ^ 128) else val

-- the name of a builtin type
abbrev pub builtin_name : BuiltinType → List ℕ
builtin_name BoolType = codes "bool"
builtin_name (Int int) = int_name int

-- the builtin types, each at the place of its id
abbrev pub builtin_types : List BuiltinType
builtin_types = BoolType ∷ Int U8 ∷ Int U16 ∷ Int U32 ∷ Int U64 ∷ Int U128 ∷ Int USize ∷ Int I8 ∷ Int I16 ∷ Int I32 ∷ Int I64 ∷ Int I128 ∷ Int
    ISize ∷ []

-- their names
abbrev pub builtin_names : List (List ℕ)
builtin_names = map builtin_name builtin_types

-- the place of an integer type among the builtin ones, of which `bool` is the first
abbrev pub int_place : IntType → ℕ
int_place U8 = 1
int_place U16 = 2
int_place U32 = 3
int_place U64 = 4
int_place U128 = 5
int_place USize = 6
int_place I8 = 7
int_place I16 = 8
int_place I32 = 9
int_place I64 = 10
int_place I128 = 11
int_place ISize = 12

abbrev pub builtin_place : BuiltinType → ℕ
builtin_place BoolType = 0
builtin_place (Int int) = int_place int
