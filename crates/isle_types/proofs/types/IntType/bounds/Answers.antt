use Rattle.std.proofs.Common.{inl, inr, refl}
use Rattle.std.specs.Fmt.{digits}
use Rattle.isle_types.proofs.types.IntType.bounds.Goals as goal

pub returns-in-U8 : goal.returns-in-U8
unfolding digits
returns-in-U8 c = rw c.in-U8.is refl

pub returns-in-U16 : goal.returns-in-U16
unfolding digits
returns-in-U16 c = rw c.in-U16.is refl

pub returns-in-U32 : goal.returns-in-U32
unfolding digits
returns-in-U32 c = rw c.in-U32.is refl

pub returns-in-U64 : goal.returns-in-U64
unfolding digits
returns-in-U64 c = elim c.in-U64.is [
  | inl e ↦ rw e refl
  | inr e ↦ rw e refl
]

pub returns-in-U128 : goal.returns-in-U128
unfolding digits
returns-in-U128 c = rw c.in-U128.is refl

pub returns-in-I8 : goal.returns-in-I8
unfolding digits
returns-in-I8 c = rw c.in-I8.is refl

pub returns-in-I16 : goal.returns-in-I16
unfolding digits
returns-in-I16 c = rw c.in-I16.is refl

pub returns-in-I32 : goal.returns-in-I32
unfolding digits
returns-in-I32 c = rw c.in-I32.is refl

pub returns-in-I64 : goal.returns-in-I64
unfolding digits
returns-in-I64 c = elim c.in-I64.is [
  | inl e ↦ rw e refl
  | inr e ↦ rw e refl
]

pub returns-in-I128 : goal.returns-in-I128
unfolding digits
returns-in-I128 c = rw c.in-I128.is refl
