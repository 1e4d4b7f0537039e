-- The integers of 8 bits.
use Rattle.std.proofs.Common.{ℤ, pos, negsuc, ◌≤ℤ◌, List, arith, Contains}
use Rattle.std.proofs.lemmas.Int.{ints}
use Rattle.isle_types.specs.declared.ids.TypeId.{TypeId}
use Rattle.isle_types.specs.declared.types.IntType.TheVariants.{U8, I8}
use Rattle.isle_types.specs.IntTypes.{HasNumber}
use Rattle.isle_blocks.specs.declared.constraint.Constraint.{Constraint}
use Rattle.isle_blocks.specs.declared.constraint.Constraint.TheVariants as tests
use Rattle.isle_coverage.specs.Inside.Complete.{HaveNumbers, HaveSigned}

-- each number of `u8` is there
pub unsigned_there : (ty : TypeId) (all : List Constraint) (n : ℤ) → HaveNumbers 256 ty all → HasNumber U8 n → Contains all (tests.ConstInt n ty)
unsigned_there ty all (pos k) there number = let high : pos k ≤ℤ pos 255 = number.high in there k (grind (arith, ints))
unsigned_there ty all (negsuc k) there number = let low : pos 0 ≤ℤ negsuc k = number.low in absurd (grind (arith, ints))

-- and each of `i8`
pub signed_there : (ty : TypeId) (all : List Constraint) (n : ℤ) → HaveSigned ty all → HasNumber I8 n → Contains all (tests.ConstInt n ty)
signed_there ty all (pos k) there number = let high : pos k ≤ℤ pos 127 = number.high in there.numbers k (grind (arith, ints))
signed_there ty all (negsuc k) there number = let low : negsuc 127 ≤ℤ negsuc k = number.low in there.negatives k (grind (arith, ints))
