-- A type each of whose values holds another has none; with a variant of no fields it has one.
use Rattle.std.proofs.Common.{◌≡◌, ℕ, zero, suc, false, List, [], ◌∷◌, refl, sym, subst, inl, inr, arith}
use Rattle.std.specs.Prelude.{Contains}
use Rattle.std.proofs.lemmas.Option.{same_Some}
use Rattle.isle_ast.specs.declared.pos.Pos.{Pos}
use Rattle.isle_types.specs.declared.ids.TypeId.{TypeId}
use Rattle.isle_types.specs.declared.types.Fields.{Fields}
use Rattle.isle_types.specs.declared.types.Fields.TheVariants.{Unit as NoFields, Tuple as UnnamedFields}
use Rattle.isle_types.specs.declared.types.Variant.{Variant}
use Rattle.isle_types.specs.declared.types.«Type».{«Type» as KnownType}
use Rattle.isle_types.specs.declared.types.«Type».TheVariants.{Enum as EnumType}
use Rattle.isle_blocks.proofs.Building.Walking.{cons_cases, cons_here, none_there}
use Rattle.isle_program.specs.Facts.Inhabited.{fields_for, IsInhabited, AreInhabited, has_value, no_values, more_values}

abbrev itself : TypeId
itself = record { 0 = 0 }

abbrev start : Pos
start = record { file = 0; offset = 0 }

abbrev variant_of : Fields → Variant
variant_of fields = record { name = record { 0 = 0 }; fullname = record { 0 = 0 }; id = record { 0 = 0 }; fields = fields; pos = start }

abbrev type_of : List Variant → KnownType
type_of variants = EnumType (record { 0 = 0 }) itself false false variants start

-- a variant of one field, of the type itself
abbrev more : Variant
more = variant_of (UnnamedFields (record { fields = record { id = record { 0 = 0 }; ty = itself } ∷ [] }))

abbrev endless : List KnownType
endless = type_of (more ∷ []) ∷ []

mutual
  no_value : (n : ℕ) → IsInhabited endless n → ⊥
  no_value zero (has_value type fields at among all) =
      let is : type_of (more ∷ []) ≡ type = same_Some (type_of (more ∷ [])) type at in
      no_value_among fields all (elim (cons_cases (itself ∷ []) [] fields (subst (λ (t : KnownType). Contains (fields_for t) fields) (sym is)
      among)) [
        | inl same ↦ subst (λ (l : List TypeId). Contains l itself) same (cons_here itself [])
        | inr never ↦ none_there fields never
      ])
  no_value (suc n) (has_value type fields at among all) = absurd cc

  no_value_among : (fields : List TypeId) → AreInhabited endless fields → Contains fields itself → ⊥
  no_value_among fields no_values among = none_there itself among
  no_value_among fields (more_values {type} {others} one many) among = no_value type.0 one

abbrev lists : List KnownType
lists = type_of (more ∷ variant_of NoFields ∷ []) ∷ []

a_value : IsInhabited lists 0
a_value = has_value (type_of (more ∷ variant_of NoFields ∷ [])) [] refl (1, omega arith, refl) no_values
