-- Tests by the values that pass them.
use Rattle.std.specs.Prelude.{◌==◌, Bool, true, false, Option, Some, None}
use Rattle.isle_types.specs.declared.ids.TypeId.{TypeId}
use Rattle.isle_blocks.specs.declared.constraint.Constraint.{Constraint}
use Rattle.isle_blocks.specs.declared.constraint.Constraint.TheVariants as tests

-- a test by the values that pass it: of a number or a truth value, whatever its type
abbrev pub plain_test : Constraint → Constraint
plain_test (tests.Variant ty variant fields) = tests.Variant ty variant fields
plain_test (tests.Struct ty fields) = tests.Struct ty fields
plain_test (tests.ConstBool val ty) = tests.ConstBool val (record { 0 = 0 })
plain_test (tests.ConstInt val ty) = tests.ConstInt val (record { 0 = 0 })
plain_test (tests.ConstPrim val) = tests.ConstPrim val
plain_test tests.Some = tests.Some

-- the type of which a test is, where the test says so
abbrev pub typed_test : Constraint → Option TypeId
typed_test (tests.Variant ty variant fields) = Some ty
typed_test (tests.Struct ty fields) = Some ty
typed_test (tests.ConstBool val ty) = Some ty
typed_test (tests.ConstInt val ty) = Some ty
typed_test (tests.ConstPrim val) = None
typed_test tests.Some = None

-- whether only one value passes a test: a constant, or data without fields
abbrev pub is_single_test : Constraint → Bool
is_single_test (tests.Variant ty variant fields) = fields.0 == 0
is_single_test (tests.Struct ty fields) = fields.0 == 0
is_single_test (tests.ConstBool val ty) = true
is_single_test (tests.ConstInt val ty) = true
is_single_test (tests.ConstPrim val) = true
is_single_test tests.Some = false
