use Rattle.std.proofs.Common.{rules, ◌≡◌, ◌<◌, ℕ, Bool, List, Option, Some, None, inl, inr, length, get_or, slice_get, refl, sym, ap, subst, ◌∙◌, arith}
use Rattle.std.specs.Option.{IsSome, option_and_then}
use Rattle.std.proofs.lemmas.Bool.{cases_lt}
use Rattle.std.proofs.lemmas.Option.{slice_get_past, slice_get_read}
use Rattle.isle_ast.specs.declared.pos.Pos.{Pos}
use Rattle.isle_types.specs.declared.ids.Sym.{Sym}
use Rattle.isle_types.specs.declared.ids.TypeId.{TypeId}
use Rattle.isle_types.specs.declared.types.Variant.{Variant}
use Rattle.isle_types.specs.declared.types.«Type».{«Type» as KnownType}
use Rattle.isle_types.specs.declared.types.«Type».TheVariants.{Builtin, Primitive, Enum, Struct}
use Rattle.isle_types.specs.TypeTables.{TypeTables}
use Rattle.isle_types.specs.TypeEnvs.{variants_of, variant_of}
use Rattle.isle_types.proofs.env.TypeEnv.get_variant.Goals as goal

-- where an element is read, its place is in the list
read_within : {X : Type 0} (xs : List X) (i : ℕ) → IsSome (slice_get xs i) → i < length xs
read_within xs i some = elim (cases_lt i (length xs)) [
  | inl below ↦ below
  | inr past ↦ let none = subst IsSome (slice_get_past xs i past) some in let no : ⊥ = search rules in absurd no
]

some_before : {A B : Type 0} (f : A → Option B) (found : Option A) → IsSome (option_and_then f found) → IsSome found
some_before f None some = some
some_before f (Some x) some = refl

-- a variant of a type
abbrev variant_in : ℕ → KnownType → Option Variant
variant_in place type = slice_get (variants_of type) place

-- the type that has the variant is read
type_read : (types : List KnownType) (id place variant : ℕ) (type : KnownType) → place ≡ id → type ≡ get_or types place type
    → IsSome (option_and_then (variant_in variant) (slice_get types id)) → slice_get types id ≡ Some type
type_read types id place variant type same is some =
    let below = subst (λ n. n < length types) (sym same) (read_within types id (some_before (variant_in variant) (slice_get types id) some)) in
    ap (slice_get types) (sym same) ∙ slice_get_read types (length types) place type refl below is

-- and is an enum
is_enum : (type : KnownType) (variant : ℕ) → IsSome (variant_in variant type)
    → ((name : Sym) (id : TypeId) (is_extern is_nodebug : Bool) (variants : List Variant) (pos : Pos)
    → type ≡ Enum name id is_extern is_nodebug variants pos → ⊥) → ⊥
is_enum (Builtin builtin) variant some none = search rules
is_enum (Primitive id name pos) variant some none = search rules
is_enum (Enum name id is_extern is_nodebug variants pos) variant some none = none name id is_extern is_nodebug variants pos refl
is_enum (Struct name id is_extern is_nodebug fields pos) variant some none = search rules

pub index-requires-2 : goal.index-requires-2
index-requires-2 c =
    let types = c.self.inside.types in
    let some = subst (λ (env : TypeTables). IsSome (variant_of env c.args.ty c.args.variant)) (sym c.self.view_is) c.requires in
    let below = read_within types.items c.args.ty.0 (some_before (variant_in c.args.variant.0) (slice_get types.items c.args.ty.0) some) in
    omega (arith, types.ok.0)

pub unreachable-requires : goal.unreachable-requires
unreachable-requires c =
    let types = c.self.inside.types.items in
    let some = subst (λ (env : TypeTables). IsSome (variant_of env c.args.ty c.args.variant)) (sym c.self.view_is) c.requires in
    let read = type_read types c.args.ty.0 c.index.result c.args.variant.0 c.index-2.result.now c.index.ensures c.index-2.ensures some in
    is_enum c.index-2.result.now c.args.variant.0
    (subst (λ found. IsSome (option_and_then (variant_in c.args.variant.0) found)) read some) c.in_default.not-Enum

pub bounds-as_slice-index : goal.bounds-as_slice-index
bounds-as_slice-index c =
    let types = c.self.inside.types.items in
    let place = c.args.variant.0 in
    let some = subst (λ (env : TypeTables). IsSome (variant_of env c.args.ty c.args.variant)) (sym c.self.view_is) c.requires in
    let read = type_read types c.args.ty.0 c.index.result place c.index-2.result.now c.index.ensures c.index-2.ensures some in
    let here = subst (λ found. IsSome (option_and_then (variant_in place) found)) read some in
    let same = ap variants_of c.in-Enum.is ∙ sym c.as_slice.ensures in
    let below = read_within c.as_slice.result.now place (subst (λ variants. IsSome (slice_get variants place)) same here) in
    omega (arith, c.index-in-Enum.ensures)

pub returns : goal.returns
returns c =
    let types = c.self.inside.types.items in
    let variants = c.as_slice.result.now in
    let place = c.args.variant.0 in
    let some = subst (λ (env : TypeTables). IsSome (variant_of env c.args.ty c.args.variant)) (sym c.self.view_is) c.requires in
    let read = type_read types c.args.ty.0 c.index.result place c.index-2.result.now c.index.ensures c.index-2.ensures some in
    let here = subst (λ found. IsSome (option_and_then (variant_in place) found)) read some in
    let same = ap variants_of c.in-Enum.is ∙ sym c.as_slice.ensures in
    let below = read_within variants place (subst (λ variants. IsSome (slice_get variants place)) same here) in
    let found = slice_get_read variants (length variants) c.index-in-Enum.result c.index-as_slice-index.result refl
    (subst (λ n. n < length variants) (sym c.index-in-Enum.ensures) below) c.index-as_slice-index.is in
    sym (ap (λ (env : TypeTables). variant_of env c.args.ty c.args.variant) (sym c.self.view_is)
    ∙ ap (option_and_then (variant_in place)) read ∙ ap (λ variants. slice_get variants place) same
    ∙ ap (slice_get variants) (sym c.index-in-Enum.ensures) ∙ found)
