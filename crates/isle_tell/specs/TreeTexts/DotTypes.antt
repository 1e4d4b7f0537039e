-- The types of sites that tests of variants and structs tell.
use Rattle.std.specs.Prelude.{List, Option, None, Some, length, replicate, slice_set}
use Rattle.std.specs.List.{fold}
use Rattle.std.specs.Option.{option_map_or}
use Rattle.isle_types.specs.declared.ids.TypeId.{TypeId}
use Rattle.isle_blocks.specs.declared.binding.Binding.{Binding}
use Rattle.isle_blocks.specs.declared.constraint.Constraint.{Constraint}
use Rattle.isle_blocks.specs.declared.constraint.Constraint.TheVariants as tests
use Rattle.isle_blocks.specs.declared.ids.BindingId.{BindingId}
use Rattle.isle_blocks.specs.declared.rule.Rule.{Rule}

-- the type whose variant or fields a test asks for
abbrev pub type_asked : Constraint → Option TypeId
type_asked (tests.Variant ty variant fields) = Some ty
type_asked (tests.Struct ty fields) = Some ty
type_asked (tests.ConstBool val ty) = None
type_asked (tests.ConstInt val ty) = None
type_asked (tests.ConstPrim val) = None
type_asked tests.Some = None

-- the types of sites, each at its site's number, with that which one more test tells
abbrev pub with_test : List (Option TypeId) → BindingId × Constraint → List (Option TypeId)
with_test types entry = option_map_or (λ (ty : TypeId). slice_set types entry.0.0 (Some ty)) (type_asked entry.1) types

-- with those that one more rule tells
abbrev pub with_rule : List (Option TypeId) → Rule → List (Option TypeId)
with_rule types rule = fold with_test types rule.constraints

-- the types that rules tell of these sites
abbrev pub types_told : List Binding → List Rule → List (Option TypeId)
types_told sites rules = fold with_rule (replicate (length sites) None) rules
