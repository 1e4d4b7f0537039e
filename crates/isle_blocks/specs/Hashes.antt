-- What is hashed of sites and tests: the kind, by its place among the kinds, then the fields in order.
use Rattle.std.specs.Prelude.{◌++◌, ℕ, List, pos}
use Rattle.std.specs.Hash as hash
use Rattle.isle_blocks.specs.declared.ids.BindingId.{BindingId}
use Rattle.isle_blocks.specs.declared.binding.Binding.{Binding}
use Rattle.isle_blocks.specs.declared.binding.Binding.TheVariants as sites
use Rattle.isle_blocks.specs.declared.constraint.Constraint.{Constraint}
use Rattle.isle_blocks.specs.declared.constraint.Constraint.TheVariants as tests

-- what is hashed of a kind
abbrev pub kind_hash : ℕ → List (List ℕ)
kind_hash place = hash.isize (pos place)

-- what is hashed of a list of sites, by their numbers: how many there are, then each
abbrev pub parts_hash : List BindingId → List (List ℕ)
parts_hash = hash.slice (λ (part : BindingId). hash.u16 part.0)

-- what is hashed of a site
abbrev pub binding_hash : Binding → List (List ℕ)
binding_hash (sites.ConstBool val ty) = kind_hash 0 ++ hash.bool val ++ hash.usize ty.0
binding_hash (sites.ConstInt val ty) = kind_hash 1 ++ hash.i128 val ++ hash.usize ty.0
binding_hash (sites.ConstPrim val) = kind_hash 2 ++ hash.usize val.0
binding_hash (sites.Argument index) = kind_hash 3 ++ hash.u8 index.0
binding_hash (sites.Extractor term parameter) = kind_hash 4 ++ hash.usize term.0 ++ hash.u16 parameter.0
binding_hash (sites.Constructor term parameters instance) =
    kind_hash 5 ++ hash.usize term.0 ++ parts_hash parameters ++ hash.u32 instance
binding_hash (sites.Iterator source) = kind_hash 6 ++ hash.u16 source.0
binding_hash (sites.MakeVariant ty variant fields) = kind_hash 7 ++ hash.usize ty.0 ++ hash.usize variant.0 ++ parts_hash fields
binding_hash (sites.MatchVariant source variant field) = kind_hash 8 ++ hash.u16 source.0 ++ hash.usize variant.0 ++ hash.u8 field.0
binding_hash (sites.MakeStruct ty fields) = kind_hash 9 ++ hash.usize ty.0 ++ parts_hash fields
binding_hash (sites.ExtractStruct source field) = kind_hash 10 ++ hash.u16 source.0 ++ hash.u8 field.0
binding_hash (sites.MakeSome inner) = kind_hash 11 ++ hash.u16 inner.0
binding_hash (sites.MatchSome source) = kind_hash 12 ++ hash.u16 source.0
binding_hash (sites.MatchTuple source field) = kind_hash 13 ++ hash.u16 source.0 ++ hash.u8 field.0

-- what is hashed of a test
abbrev pub constraint_hash : Constraint → List (List ℕ)
constraint_hash (tests.Variant ty variant fields) = kind_hash 0 ++ hash.usize ty.0 ++ hash.usize variant.0 ++ hash.u8 fields.0
constraint_hash (tests.Struct ty fields) = kind_hash 1 ++ hash.usize ty.0 ++ hash.u8 fields.0
constraint_hash (tests.ConstBool val ty) = kind_hash 2 ++ hash.bool val ++ hash.usize ty.0
constraint_hash (tests.ConstInt val ty) = kind_hash 3 ++ hash.i128 val ++ hash.usize ty.0
constraint_hash (tests.ConstPrim val) = kind_hash 4 ++ hash.usize val.0
constraint_hash tests.Some = kind_hash 5
