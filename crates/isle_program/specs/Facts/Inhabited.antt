-- Which types have values.
use Rattle.std.specs.Prelude.{◌≡◌, ◌<◌, ℕ, Bool, true, false, List, [], ◌∷◌, map, length, Some, slice_get, slice_index_or, slice_set, Contains}
use Rattle.std.specs.List.{list_any, list_all}
use Rattle.isle_types.specs.declared.ids.TypeId.{TypeId}
use Rattle.isle_types.specs.declared.types.Variant.{Variant}
use Rattle.isle_types.specs.declared.types.«Type».{«Type» as KnownType}
use Rattle.isle_types.specs.declared.types.«Type».TheVariants.{Builtin, Primitive, Enum as EnumType, Struct as StructType}
use Rattle.isle_types.specs.Types.{field_types}
use Rattle.isle_blocks.specs.Inside.Building.Contents.{Marked}
use Rattle.isle_program.specs.Inside.Facts.Spreading.{unmarked}

-- the lists of fields of which a value of a type can be made, by the fields' types: a builtin value and one of the host of no fields,
-- a struct of its own, and an enum of those of any of its variants
abbrev pub fields_for : KnownType → List (List TypeId)
fields_for (Builtin builtin) = [] ∷ []
fields_for (Primitive id name at) = [] ∷ []
fields_for (EnumType name id is_extern is_nodebug variants at) = map (λ (variant : Variant). field_types variant.fields) variants
fields_for (StructType name id is_extern is_nodebug fields at) = field_types fields ∷ []

mutual
  -- a type has a value where its fields have values, for some of the lists of fields of which one is made
  pub data IsInhabited (types : List KnownType) : ℕ → Type 0 where
    has_value : {n : ℕ} (type : KnownType) (fields : List TypeId) → slice_get types n ≡ Some type → Contains (fields_for type) fields
        → AreInhabited types fields → IsInhabited types n

  -- each type of a list has a value
  pub data AreInhabited (types : List KnownType) : List TypeId → Type 0 where
    no_values : AreInhabited types []
    more_values : {type : TypeId} {others : List TypeId} → IsInhabited types type.0 → AreInhabited types others → AreInhabited types (type ∷ others)

-- each type has a value
abbrev pub AreAllInhabited : List KnownType → Type 0
AreAllInhabited types = (n : ℕ) → n < length types → IsInhabited types n

-- the mark of a type
abbrev pub mark_of : List Bool → TypeId → Bool
mark_of marks type = slice_index_or marks type.0 false

-- whether a value of a type can be made of values of marked types
abbrev pub can_be_made : List Bool → KnownType → Bool
can_be_made marks type = list_any (list_all (mark_of marks)) (fields_for type)

-- the types whose values can be made are marked up to a place
abbrev pub AreClosedBelow : ℕ → List KnownType → List Bool → Type 0
AreClosedBelow end types marks = (n : ℕ) (type : KnownType) → n < end → slice_get types n ≡ Some type → can_be_made marks type ≡ true → Marked marks n

-- marked types have values
abbrev pub AreSound : List KnownType → List Bool → Type 0
AreSound types marks = (n : ℕ) → Marked marks n → IsInhabited types n

-- types before a place are marked whose values can be made of those of marked types, if there are any
pub record MarksBelow (end : ℕ) (types : List KnownType) (marks new : List Bool) (changed : Bool) : Type 0 where
  pub fits : length new ≡ length marks
  pub sound : AreSound types marks → AreSound types new
  pub fewer : changed ≡ true → unmarked new < unmarked marks
  pub same : changed ≡ false → new ≡ marks
  pub closed : changed ≡ false → AreClosedBelow end types new

-- a type is marked if it isn't and a value of it can be made of values of marked types
pub record MarksOne (place : ℕ) (types : List KnownType) (marks new : List Bool) (marked : Bool) : Type 0 where
  pub one : marked ≡ true → (type : KnownType) × (slice_get types place ≡ Some type) × (can_be_made marks type ≡ true)
      × (slice_index_or marks place false ≡ false) × (new ≡ slice_set marks place true)
  pub none : marked ≡ false → (new ≡ marks) × ((type : KnownType) → slice_get types place ≡ Some type → can_be_made marks type ≡ true
      → Marked marks place)
