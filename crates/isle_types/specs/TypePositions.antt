-- The positions in types.
use Rattle.std.specs.Prelude.{All}
use Rattle.isle_ast.specs.declared.pos.Pos.{Pos}
use Rattle.isle_types.specs.declared.types.Variant.{Variant}
use Rattle.isle_types.specs.declared.types.«Type».{«Type» as KnownType}
use Rattle.isle_types.specs.declared.types.«Type».TheVariants.{Builtin, Primitive, Enum, Struct}

-- a variant stands at such a position
abbrev pub VariantAt : (Pos → Type 0) → Variant → Type 0
VariantAt At variant = At variant.pos

-- a type and its variants stand at such positions, unless it needs no definition
abbrev pub TypeAt : (Pos → Type 0) → KnownType → Type 0
TypeAt At (Builtin _) = Unit {0}
TypeAt At (Primitive _ _ pos) = At pos
TypeAt At (Enum _ _ _ _ variants pos) = All (VariantAt At) variants × At pos
TypeAt At (Struct _ _ _ _ _ pos) = At pos
