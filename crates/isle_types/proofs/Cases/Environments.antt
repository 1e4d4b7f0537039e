-- Worked cases: which environment definitions make, or that they make none.
use Rattle.std.proofs.Common.{◌≡◌, ℕ, zero, suc, ◌<◌, Bool, true, false, List, [], ◌∷◌, Option, Some, None, is_some, if◌then◌else◌, refl, ap, sym}
use Rattle.std.proofs.Common.{subst, ◌∙◌, arith, slice_get, get_or, codes}
use Rattle.std.specs.List.{Contains}
use Rattle.std.proofs.lemmas.Bool.{false≢true}
use Rattle.std.proofs.lemmas.Option.{none-some, same_Some}
use Rattle.isle_ast.specs.declared.pos.Pos.{Pos}
use Rattle.isle_ast.specs.declared.ast.Ident.{Ident}
use Rattle.isle_ast.specs.declared.ast.Fields.TheVariants.{Unit as no_field_trees, Tuple as tuple_field_trees}
use Rattle.isle_ast.specs.declared.ast.Variant.{Variant}
use Rattle.isle_ast.specs.declared.ast.TypeValue.{TypeValue}
use Rattle.isle_ast.specs.declared.ast.TypeValue.TheVariants.{Primitive, Enum, Struct}
use Rattle.isle_ast.specs.declared.ast.«Type».{«Type» as TypeTree}
use Rattle.isle_ast.specs.declared.ast.Extern.TheVariants.{Const as extern_const}
use Rattle.isle_ast.specs.declared.ast.Def.{Def}
use Rattle.isle_ast.specs.declared.ast.Def.TheVariants.{TypeDef, Extern}
use Rattle.isle_types.specs.Names.{position_of, AreDistinct}
use Rattle.isle_types.specs.Environment.{FieldList, no_fields, named_fields, tuple_fields, NamedVariant, TypeShape, primitive, enum, struct}
use Rattle.isle_types.specs.Environment.{NamedType, Environment, Makes, constant_in, numbers_in, type_names, IsInhabited, builtin_inhabited}
use Rattle.isle_types.specs.Environment.{primitive_inhabited, struct_inhabited, variant_inhabited, AreInhabited, none_inhabited, more_inhabited}
use Rattle.isle_types.specs.TypeFaults.{VariantsBreak, variant_twice, marks_not_allowed, variants_break, Breaks, name_taken, type_breaks}
use Rattle.isle_types.proofs.NamePlaces.{place_missing}
use Rattle.isle_types.proofs.Refusals.{broken_makes_none}
use Rattle.isle_types.proofs.OneEnvironment.{one_environment}

-- no name of a list stands later in it again
abbrev are_distinct : List (List ℕ) → Bool
are_distinct [] = true
are_distinct (name ∷ names) = if is_some (position_of names name) then false else are_distinct names

once_front : (first : List ℕ) (names : List (List ℕ)) → position_of names first ≡ None → AreDistinct names → (name : List ℕ) (i j : ℕ)
    → slice_get (first ∷ names) i ≡ Some name → slice_get (first ∷ names) j ≡ Some name → i ≡ j
once_front first names missing once name zero zero at_i at_j = refl
once_front first names missing once name zero (suc j) at_i at_j = absurd (place_missing names first missing j (at_j ∙ sym at_i))
once_front first names missing once name (suc i) zero at_i at_j = absurd (place_missing names first missing i (at_i ∙ sym at_j))
once_front first names missing once name (suc i) (suc j) at_i at_j = ap suc (once name i j at_i at_j)

both_tests : (found : Option ℕ) (others : Bool) → (if is_some found then false else others) ≡ true → (found ≡ None) × (others ≡ true)
both_tests None others is = (refl, is)
both_tests (Some place) others is = absurd (cc is)

-- distinct names stand once
distinct_once : (names : List (List ℕ)) → are_distinct names ≡ true → AreDistinct names
distinct_once [] distinct = λ name i j at_i at_j. absurd (none-some name at_i)
distinct_once (first ∷ names) distinct =
    let parts = both_tests (position_of names first) (are_distinct names) distinct in
    once_front first names parts.0 (distinct_once names parts.1)

abbrev at : ℕ → Pos
at offset = record { file = 0; offset = offset }

abbrev here : Pos
here = at 0

abbrev name : List ℕ → Ident
name text = (text, here)

abbrev variant_at : ℕ → Variant
variant_at offset = record { name = (codes "V", at offset); fields = no_field_trees; pos = at offset }

abbrev marked_type : List ℕ → Bool → Bool → TypeValue → TypeTree
marked_type text is_extern is_nodebug value = record { name = name text; is_extern = is_extern; is_nodebug = is_nodebug; ty = value; pos = here }

abbrev type_tree : List ℕ → TypeValue → TypeTree
type_tree text value = marked_type text false false value

abbrev type_named : List ℕ → TypeShape → NamedType
type_named text shape = record { name = text; is_extern = false; is_nodebug = false; shape = shape; pos = here }

-- `(type A (struct B)) (type B (primitive B))`: a type may be named before its definition
abbrev struct_of_later : List Def
struct_of_later =
    TypeDef (type_tree (codes "A") (Struct
    (tuple_field_trees (record { fields = record { index = 0; ty = name (codes "B"); pos = here } ∷ [] })) here))
    ∷ TypeDef (type_tree (codes "B") (Primitive (name (codes "B")) here))
    ∷ []

pub struct_of_later_makes : Makes struct_of_later
    (record {
      types = type_named (codes "A") (struct (tuple_fields (14 ∷ []))) ∷ type_named (codes "B")
          (primitive (codes "B")) ∷ [];
      constants = [];
    })
struct_of_later_makes = record {
  names = distinct_once (type_names struct_of_later) refl;
  types = (
    record { name = refl; is_extern = refl; is_nodebug = refl; marks = λ _. refl; shape = (refl, tt); pos = refl },
    (record { name = refl; is_extern = refl; is_nodebug = refl; marks = (refl, refl); shape = refl; pos = refl }, tt),
  );
  constants = tt;
}

-- `(extern const $C bool) (extern const $C u8)`: of two constants of one name the last is meant
abbrev constants_of_one_name : List Def
constants_of_one_name =
    Extern (extern_const (name (codes "C")) (name (codes "bool")) here)
    ∷ Extern (extern_const (name (codes "C")) (name (codes "u8")) here)
    ∷ []

abbrev two_constants : Environment
two_constants = record { types = []; constants = (codes "C", 0) ∷ (codes "C", 1) ∷ [] }

pub constants_of_one_name_make : Makes constants_of_one_name two_constants
constants_of_one_name_make = record {
  names = distinct_once (type_names constants_of_one_name) refl;
  types = tt;
  constants = (record { name = refl; type = refl }, (record { name = refl; type = refl }, tt));
}

pub last_constant_counts : (e : Environment) → Makes constants_of_one_name e → constant_in e.constants (codes "C") ≡ Some 1
last_constant_counts e makes =
    ap (λ (made : Environment). constant_in made.constants (codes "C"))
    (one_environment constants_of_one_name e two_constants makes constants_of_one_name_make)

-- `(type A extern nodebug (struct))`: a type has one mark at most
abbrev both_marks : TypeTree
both_marks = marked_type (codes "A") true true (Struct no_field_trees here)

pub both_marks_break : Breaks (TypeDef both_marks ∷ []) here
both_marks_break = type_breaks 0 both_marks here refl (marks_not_allowed (λ allowed. false≢true (sym (allowed refl))))

pub both_marks_refused : (e : Environment) → Makes (TypeDef both_marks ∷ []) e → ⊥
both_marks_refused e makes = broken_makes_none (TypeDef both_marks ∷ []) here both_marks_break e makes

-- `(type u8 (primitive u8))`: the name of a builtin type is taken
abbrev builtin_again : TypeTree
builtin_again = type_tree (codes "u8") (Primitive (name (codes "u8")) here)

pub builtin_again_breaks : Breaks (TypeDef builtin_again ∷ []) here
builtin_again_breaks = name_taken 0 builtin_again refl (record { item = codes "u8"; earlier = 1; before = omega arith; first = refl; second = refl })

pub builtin_again_refused : (e : Environment) → Makes (TypeDef builtin_again ∷ []) e → ⊥
builtin_again_refused e makes = broken_makes_none (TypeDef builtin_again ∷ []) here builtin_again_breaks e makes

-- `(type A (enum V V))`: two variants have one name, and the second is at fault
abbrev two_variants : List Variant
two_variants = variant_at 14 ∷ variant_at 16 ∷ []

abbrev variant_again : TypeTree
variant_again = type_tree (codes "A") (Enum two_variants here)

second_variant_breaks : VariantsBreak (type_names (TypeDef variant_again ∷ [])) two_variants (at 16)
second_variant_breaks = variant_twice 1 (variant_at 16) refl
    (record { item = codes "V"; earlier = 0; before = omega arith; first = refl; second = refl })

pub variant_again_breaks : Breaks (TypeDef variant_again ∷ []) (at 16)
variant_again_breaks = type_breaks 0 variant_again (at 16) refl (variants_break two_variants here (at 16) refl second_variant_breaks)

pub variant_again_refused : (e : Environment) → Makes (TypeDef variant_again ∷ []) e → ⊥
variant_again_refused e makes = broken_makes_none (TypeDef variant_again ∷ []) (at 16) variant_again_breaks e makes

abbrev variant_named : List ℕ → FieldList → NamedVariant
variant_named text fields = record { name = text; fields = fields; pos = here }

-- an environment of one enum, which is type 13
abbrev enum_alone : List NamedVariant → Environment
enum_alone variants = record { types = type_named (codes "N") (enum variants) ∷ []; constants = [] }

-- `(type N (enum Z (S (p N))))` has values, `Z` to begin with
abbrev numbers : List NamedVariant
numbers = variant_named (codes "Z") no_fields ∷ variant_named (codes "S") (named_fields ((codes "p", 13) ∷ [])) ∷ []

pub numbers_inhabited : IsInhabited (enum_alone numbers) 13
numbers_inhabited = variant_inhabited 0 (type_named (codes "N") (enum numbers)) numbers (variant_named (codes "Z") no_fields) refl refl
    (0, omega arith, refl) none_inhabited

-- `(type N (enum (S (p N))))` has none
abbrev only_larger : List NamedVariant
only_larger = variant_named (codes "S") (named_fields ((codes "p", 13) ∷ [])) ∷ []

the_one_variant : (variant : NamedVariant) (place : ℕ) → place < 1 → get_or only_larger place variant ≡ variant → numbers_in variant.fields ≡ 13 ∷ []
the_one_variant variant zero below is = sym (ap (λ (v : NamedVariant). numbers_in v.fields) is)
the_one_variant variant (suc place) below is = absurd (omega (arith, below))

mutual
  no_value : (number : ℕ) → IsInhabited (enum_alone only_larger) number → number ≡ 13 → ⊥
  no_value _ (builtin_inhabited number below) is = omega (arith, below, is)
  no_value _ (primitive_inhabited zero type host at shape) is = absurd (cc (ap (λ (t : NamedType). t.shape) (same_Some _ type at), shape))
  no_value _ (primitive_inhabited (suc place) type host at shape) is = none-some type at
  no_value _ (struct_inhabited zero type _ at shape below) is = absurd (cc (ap (λ (t : NamedType). t.shape) (same_Some _ type at), shape))
  no_value _ (struct_inhabited (suc place) type _ at shape below) is = none-some type at
  no_value _ (variant_inhabited zero type variants variant at shape among below) is =
      let same : variants ≡ only_larger = cc (ap (λ (t : NamedType). t.shape) (same_Some _ type at), shape) in
      let only = subst (λ vs. Contains vs variant) same among in
      no_values (numbers_in variant.fields) below (the_one_variant variant only.0 only.1 only.2)
  no_value _ (variant_inhabited (suc place) type variants variant at shape among below) is = none-some type at

  no_values : (numbers : List ℕ) → AreInhabited (enum_alone only_larger) numbers → numbers ≡ 13 ∷ [] → ⊥
  no_values [] none_inhabited is = absurd (cc is)
  no_values _ (more_inhabited number numbers first others) is = no_value number first (cc is)

pub only_larger_uninhabited : IsInhabited (enum_alone only_larger) 13 → ⊥
only_larger_uninhabited inhabited = no_value 13 inhabited refl
