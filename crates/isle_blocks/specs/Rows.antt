-- Sites and tests of the code as those of the rules' meaning: constants by their names, all else by number.
use Rattle.std.specs.Prelude.{◌≡◌, ℕ, List, map}
use Rattle.isle_types.specs.declared.ids.Sym.{Sym}
use Rattle.isle_meaning.specs.Numbered.{Row, bool_row, int_row, prim_row, argument_row, extractor_row, constructor_row, iterator_row}
use Rattle.isle_meaning.specs.Numbered.{make_variant_row, match_variant_row, make_struct_row, extract_struct_row, make_some_row}
use Rattle.isle_meaning.specs.Numbered.{match_some_row, match_tuple_row}
use Rattle.isle_meaning.specs.Demands as meaning
use Rattle.isle_blocks.specs.declared.ids.BindingId.{BindingId}
use Rattle.isle_blocks.specs.declared.binding.Binding.{Binding}
use Rattle.isle_blocks.specs.declared.binding.Binding.TheVariants as sites
use Rattle.isle_blocks.specs.declared.constraint.Constraint.{Constraint}
use Rattle.isle_blocks.specs.declared.constraint.Constraint.TheVariants as tests

-- no two symbols have one name
abbrev pub IsInjective : (Sym → List ℕ) → Type 0
IsInjective name = (a b : Sym) → name a ≡ name b → a ≡ b

abbrev pub numbers_of : List BindingId → List ℕ
numbers_of ids = map (λ (id : BindingId). id.0) ids

-- the entry of a site
abbrev pub row_of : (Sym → List ℕ) → Binding → Row
row_of name (sites.ConstBool val ty) = bool_row val ty.0
row_of name (sites.ConstInt val ty) = int_row val ty.0
row_of name (sites.ConstPrim val) = prim_row (name val)
row_of name (sites.Argument index) = argument_row index.0
row_of name (sites.Extractor term parameter) = extractor_row term.0 parameter.0
row_of name (sites.Constructor term parameters instance) = constructor_row term.0 (numbers_of parameters) instance
row_of name (sites.Iterator source) = iterator_row source.0
row_of name (sites.MakeVariant ty variant fields) = make_variant_row ty.0 variant.0 (numbers_of fields)
row_of name (sites.MatchVariant source variant field) = match_variant_row source.0 variant.0 field.0
row_of name (sites.MakeStruct ty fields) = make_struct_row ty.0 (numbers_of fields)
row_of name (sites.ExtractStruct source field) = extract_struct_row source.0 field.0
row_of name (sites.MakeSome inner) = make_some_row inner.0
row_of name (sites.MatchSome source) = match_some_row source.0
row_of name (sites.MatchTuple source field) = match_tuple_row source.0 field.0

-- the constraint that a test is
abbrev pub test_of : (Sym → List ℕ) → Constraint → meaning.Constraint
test_of name (tests.Variant ty variant fields) = meaning.variant_constraint ty.0 variant.0 fields.0
test_of name (tests.Struct ty fields) = meaning.struct_constraint ty.0 fields.0
test_of name (tests.ConstBool val ty) = meaning.bool_constraint val ty.0
test_of name (tests.ConstInt val ty) = meaning.int_constraint val ty.0
test_of name (tests.ConstPrim val) = meaning.prim_constraint (name val)
test_of name tests.Some = meaning.some_constraint

-- a table's rows
abbrev pub rows_of : (Sym → List ℕ) → List Binding → List Row
rows_of name sites = map (row_of name) sites

-- the recorded constraints, and the recorded equalities
abbrev pub constraints_of : (Sym → List ℕ) → List (BindingId × Constraint) → List (ℕ × meaning.Constraint)
constraints_of name has = map (λ (p : BindingId × Constraint). (p.0.0, test_of name p.1)) has

abbrev pub pairs_of : List (BindingId × BindingId) → List (ℕ × ℕ)
pairs_of same = map (λ (p : BindingId × BindingId). (p.0.0, p.1.0)) same
