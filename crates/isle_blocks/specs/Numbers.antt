-- Numbers that stand for fields and for sites.
use Rattle.std.specs.Prelude.{◌≤◌, ℕ, OkIff, Result}
use Rattle.isle_blocks.specs.declared.ids.TupleIndex.{TupleIndex}
use Rattle.isle_blocks.specs.declared.ids.BindingId.{BindingId}

-- the place of a field is a number up to 255, and no other number is one
abbrev pub IsTupleIndexOf : {E : Type 0} → ℕ → Result TupleIndex E → Type 0
IsTupleIndexOf number result = OkIff result (number ≤ 255) (record { 0 = number })

-- the number of a site is a number up to 65,535, and no other number is one
abbrev pub IsBindingIdOf : {E : Type 0} → ℕ → Result BindingId E → Type 0
IsBindingIdOf number result = OkIff result (number ≤ 65535) (record { 0 = number })
