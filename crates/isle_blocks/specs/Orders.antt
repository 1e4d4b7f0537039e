-- How sites and tests are ordered: by kind, then by their fields, the first that differ deciding.
use Rattle.std.specs.Prelude.{ℕ, List, nat_eq, if◌then◌else◌}
use Rattle.std.specs.Ordering.{nat_cmp, int_cmp, bool_cmp, ordering_then}
use Rattle.std.specs.Cmp.Lexicographic.{slice_cmp}
use Rattle.std.specs.declared.cmp.Ordering.{Ordering}
use Rattle.std.specs.declared.cmp.Ordering.TheVariants.{Equal}
use Rattle.isle_blocks.specs.declared.ids.BindingId.{BindingId}
use Rattle.isle_blocks.specs.declared.binding.Binding.{Binding}
use Rattle.isle_blocks.specs.declared.binding.Binding.TheVariants as sites
use Rattle.isle_blocks.specs.declared.constraint.Constraint.{Constraint}
use Rattle.isle_blocks.specs.declared.constraint.Constraint.TheVariants as tests

-- the place of a site's kind among the kinds
abbrev pub binding_kind : Binding → ℕ
binding_kind (sites.ConstBool val ty) = 0
binding_kind (sites.ConstInt val ty) = 1
binding_kind (sites.ConstPrim val) = 2
binding_kind (sites.Argument index) = 3
binding_kind (sites.Extractor term parameter) = 4
binding_kind (sites.Constructor term parameters instance) = 5
binding_kind (sites.Iterator source) = 6
binding_kind (sites.MakeVariant ty variant fields) = 7
binding_kind (sites.MatchVariant source variant field) = 8
binding_kind (sites.MakeStruct ty fields) = 9
binding_kind (sites.ExtractStruct source field) = 10
binding_kind (sites.MakeSome inner) = 11
binding_kind (sites.MatchSome source) = 12
binding_kind (sites.MatchTuple source field) = 13

-- numbers of sites in order, a list before what goes on from it
abbrev pub parts_order : List BindingId → List BindingId → Ordering
parts_order = slice_cmp (λ (a : BindingId) (b : BindingId). nat_cmp a.0 b.0)

-- the order of the fields of two sites of one kind
abbrev pub binding_fields : Binding → Binding → Ordering
binding_fields (sites.ConstBool a s) (sites.ConstBool b t) = ordering_then (bool_cmp a b) (nat_cmp s.0 t.0)
binding_fields (sites.ConstInt a s) (sites.ConstInt b t) = ordering_then (int_cmp a b) (nat_cmp s.0 t.0)
binding_fields (sites.ConstPrim a) (sites.ConstPrim b) = nat_cmp a.0 b.0
binding_fields (sites.Argument a) (sites.Argument b) = nat_cmp a.0 b.0
binding_fields (sites.Extractor s a) (sites.Extractor t b) = ordering_then (nat_cmp s.0 t.0) (nat_cmp a.0 b.0)
binding_fields (sites.Constructor s cs i) (sites.Constructor t ds j) =
    ordering_then (ordering_then (nat_cmp s.0 t.0) (parts_order cs ds)) (nat_cmp i j)
binding_fields (sites.Iterator a) (sites.Iterator b) = nat_cmp a.0 b.0
binding_fields (sites.MakeVariant s v cs) (sites.MakeVariant t w ds) =
    ordering_then (ordering_then (nat_cmp s.0 t.0) (nat_cmp v.0 w.0)) (parts_order cs ds)
binding_fields (sites.MatchVariant a v f) (sites.MatchVariant b w g) =
    ordering_then (ordering_then (nat_cmp a.0 b.0) (nat_cmp v.0 w.0)) (nat_cmp f.0 g.0)
binding_fields (sites.MakeStruct s cs) (sites.MakeStruct t ds) = ordering_then (nat_cmp s.0 t.0) (parts_order cs ds)
binding_fields (sites.ExtractStruct a f) (sites.ExtractStruct b g) = ordering_then (nat_cmp a.0 b.0) (nat_cmp f.0 g.0)
binding_fields (sites.MakeSome a) (sites.MakeSome b) = nat_cmp a.0 b.0
binding_fields (sites.MatchSome a) (sites.MatchSome b) = nat_cmp a.0 b.0
binding_fields (sites.MatchTuple a f) (sites.MatchTuple b g) = ordering_then (nat_cmp a.0 b.0) (nat_cmp f.0 g.0)
binding_fields _ _ = Equal

-- the order of two sites
abbrev pub binding_order : Binding → Binding → Ordering
binding_order a b =
    if nat_eq (binding_kind a) (binding_kind b) then binding_fields a b else nat_cmp (binding_kind a) (binding_kind b)

-- the place of a test's kind among the kinds
abbrev pub constraint_kind : Constraint → ℕ
constraint_kind (tests.Variant ty variant fields) = 0
constraint_kind (tests.Struct ty fields) = 1
constraint_kind (tests.ConstBool val ty) = 2
constraint_kind (tests.ConstInt val ty) = 3
constraint_kind (tests.ConstPrim val) = 4
constraint_kind tests.Some = 5

-- the order of the fields of two tests of one kind
abbrev pub constraint_fields : Constraint → Constraint → Ordering
constraint_fields (tests.Variant s v f) (tests.Variant t w g) =
    ordering_then (ordering_then (nat_cmp s.0 t.0) (nat_cmp v.0 w.0)) (nat_cmp f.0 g.0)
constraint_fields (tests.Struct s f) (tests.Struct t g) = ordering_then (nat_cmp s.0 t.0) (nat_cmp f.0 g.0)
constraint_fields (tests.ConstBool a s) (tests.ConstBool b t) = ordering_then (bool_cmp a b) (nat_cmp s.0 t.0)
constraint_fields (tests.ConstInt a s) (tests.ConstInt b t) = ordering_then (int_cmp a b) (nat_cmp s.0 t.0)
constraint_fields (tests.ConstPrim a) (tests.ConstPrim b) = nat_cmp a.0 b.0
constraint_fields _ _ = Equal

-- the order of two tests
abbrev pub constraint_order : Constraint → Constraint → Ordering
constraint_order a b =
    if nat_eq (constraint_kind a) (constraint_kind b) then constraint_fields a b else nat_cmp (constraint_kind a) (constraint_kind b)
