-- What tables make known of names is what the definitions that they show make known.
use Rattle.std.proofs.Common.{◌≡◌, ℕ, zero, suc, ◌-◌, ℤ, Bool, List, [], ◌∷◌, ◌++◌, map, Option, None, Some, refl, sym, ap, ◌∙◌, arith, length}
use Rattle.std.proofs.Common.{slice_get, option_map}
use Rattle.std.specs.List.{AllZip}
use Rattle.std.proofs.lemmas.Option.{slice_get-map}
use Rattle.isle_types.specs.declared.ids.TypeId.{TypeId}
use Rattle.isle_types.specs.declared.ids.TermId.{TermId}
use Rattle.isle_types.specs.declared.types.BuiltinType.{BuiltinType}
use Rattle.isle_types.specs.declared.types.BuiltinType.TheVariants.{Bool as BoolType, Int}
use Rattle.isle_types.specs.declared.types.«Type».{«Type» as KnownType}
use Rattle.isle_types.specs.declared.types.«Type».TheVariants.{Builtin, Primitive, Enum as EnumType, Struct as StructType}
use Rattle.isle_types.specs.IntTypes.{builtin_types}
use Rattle.isle_types.specs.Environment.{Environment, NamedType, TypeShape, primitive, enum, struct}
use Rattle.isle_types.specs.TypeTables.{TypeTables}
use Rattle.isle_types.specs.TypeEnvs.{IsShownShape, IsShown, Shows, type_at}
use Rattle.isle_rules.specs.Signatures.{Declared}
use Rattle.isle_terms.specs.Inside.Readings.KnownBy.{is_primitive_shape, defined_has_number, builtin_has_number, type_has_number, known_by}
use Rattle.isle_rules.specs.Shown.TermTables.{TermTables}
use Rattle.isle_rules.specs.Shown.ShownTerms.{term_shown, term_at, ShowsDeclared}
use Rattle.isle_terms.specs.Inside.Shown.KnownNames.{known_has_number, known_of}

-- the number of a term is that of its id
term_numbered : (found : Option TermId) (option : Option ℕ) → found ≡ option_map term_at option → option_map (λ (id : TermId). id.0) found ≡ option
term_numbered found None is = ap (option_map (λ (id : TermId). id.0)) is
term_numbered found (Some number) is = ap (option_map (λ (id : TermId). id.0)) is

-- the number of a type is that of its id
type_numbered : (found : Option TypeId) (option : Option ℕ) → found ≡ option_map type_at option → option_map (λ (ty : TypeId). ty.0) found ≡ option
type_numbered found None is = ap (option_map (λ (ty : TypeId). ty.0)) is
type_numbered found (Some number) is = ap (option_map (λ (ty : TypeId). ty.0)) is

-- a defined type has integers where its shape is the host's
shape_has_number : (names : List (List ℕ)) (type : NamedType) (shape : TypeShape) (made : KnownType) (val : ℤ) (big : Bool)
    → IsShownShape names type shape made → known_has_number (Some made) val big ≡ is_primitive_shape shape
shape_has_number names type (primitive host) (Primitive id name pos) val big shown = refl
shape_has_number names type (enum variants) (EnumType name id is_extern is_nodebug made pos) val big shown = refl
shape_has_number names type (struct _) (StructType name id is_extern is_nodebug made pos) val big shown = refl
shape_has_number names type (primitive host) (Builtin builtin) val big shown = absurd shown
shape_has_number names type (primitive host) (EnumType name id is_extern is_nodebug made pos) val big shown = absurd shown
shape_has_number names type (primitive host) (StructType name id is_extern is_nodebug made pos) val big shown = absurd shown
shape_has_number names type (enum variants) (Builtin builtin) val big shown = absurd shown
shape_has_number names type (enum variants) (Primitive id name pos) val big shown = absurd shown
shape_has_number names type (enum variants) (StructType name id is_extern is_nodebug made pos) val big shown = absurd shown
shape_has_number names type (struct _) (Builtin builtin) val big shown = absurd shown
shape_has_number names type (struct _) (Primitive id name pos) val big shown = absurd shown
shape_has_number names type (struct _) (EnumType name id is_extern is_nodebug made pos) val big shown = absurd shown

-- so it is of the defined type at a place
defined_same : (names : List (List ℕ)) (types : List NamedType) (made : List KnownType) (place : ℕ) (val : ℤ) (big : Bool)
    → AllZip (IsShown names) types made → known_has_number (slice_get made place) val big ≡ defined_has_number (slice_get types place)
defined_same names [] [] place val big shown = refl
defined_same names [] (first ∷ made) place val big shown = absurd shown
defined_same names (type ∷ types) [] place val big shown = absurd shown
defined_same names (type ∷ types) (first ∷ made) zero val big shown = shape_has_number names type type.shape first val big shown.0.shape
defined_same names (type ∷ types) (first ∷ made) (suc place) val big shown = defined_same names types made place val big shown.1

-- a builtin type has the same literals
builtin_same : (builtin : BuiltinType) (otherwise : Bool) (val : ℤ) (big : Bool)
    → known_has_number (Some (Builtin builtin)) val big ≡ builtin_has_number (Some builtin) otherwise val big
builtin_same BoolType otherwise val big = refl
builtin_same (Int int) otherwise val big = refl

-- the builtin types stand before the defined ones
after_builtins : (builtins : List BuiltinType) (made : List KnownType) (ty : ℕ) (val : ℤ) (big : Bool)
    → known_has_number (slice_get (map Builtin builtins ++ made) ty) val big
    ≡ builtin_has_number (slice_get builtins ty) (known_has_number (slice_get made (ty - length builtins)) val big) val big
after_builtins [] made ty val big = ap (λ place. known_has_number (slice_get made place) val big) (omega arith)
after_builtins (builtin ∷ builtins) made zero val big = builtin_same builtin _ val big
after_builtins (builtin ∷ builtins) made (suc ty) val big =
    let place : ty - length builtins ≡ suc ty - length (builtin ∷ builtins) = omega arith in
    after_builtins builtins made ty val big
    ∙ ap (λ z. builtin_has_number (slice_get builtins ty) (known_has_number (slice_get made z) val big) val big) place

-- a type of the tables has the literals that the type of its number has
number_same : (tyenv : TypeTables) (types : Environment) (ty : ℕ) (val : ℤ) (big : Bool) → Shows tyenv types
    → known_has_number (slice_get tyenv.types ty) val big ≡ type_has_number types ty val big
number_same tyenv types ty val big shows =
    ap (λ z. known_has_number (slice_get z ty) val big) shows.all ∙ after_builtins builtin_types shows.made ty val big
    ∙ ap (λ z. builtin_has_number (slice_get builtin_types ty) z val big)
    (defined_same tyenv.names types.types shows.made (ty - length builtin_types) val big shows.types)

-- what tables make known is what the definitions that they show make known
pub known_same : (tyenv : TypeTables) (env : TermTables) (declared : Declared) → ShowsDeclared tyenv env declared
    → known_of tyenv env ≡ known_by declared
known_same tyenv env declared shows = λ i. record {
  term_named = λ name. term_numbered _ _ (shows.named name) i;
  signature = λ number. (sym (slice_get-map (term_shown tyenv.names) env.terms number) ∙ ap (λ z. slice_get z number) shows.terms) i;
  type_named = λ name. type_numbered _ _ (shows.types.named name) i;
  constant = λ name. type_numbered _ _ (shows.types.constants name) i;
  has_number = λ ty val big. number_same tyenv declared.types ty val big shows.types i;
  converter = λ inner outer. term_numbered _ _ (shows.converters inner outer) i;
  expands = shows.expands i;
}
