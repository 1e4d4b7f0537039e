-- Values in a store: each node once, by the number of its place.
use Rattle.std.specs.Prelude.{◌≡◌, ℕ, List, [], ◌∷◌, ◌++◌, Some, slice_get}
use Rattle.isle_types.specs.TypeEnvs.{type_at}
use Rattle.isle_meaning.specs.Values.{Value, Values, bool_value, int_value, constant_value, opaque_value, made_variant, made_struct}
use Rattle.isle_meaning.specs.Values.{no_values, more_values}
use Rattle.isle_calls.specs.declared.store.Stored.{Stored}
use Rattle.isle_calls.specs.declared.store.Stored.TheVariants.{Bool, Int, Const, Opaque, Variant, Struct}
use Rattle.isle_program.specs.Tables.{variant_at}

-- the number stands for the value
abbrev mutual
  pub Stands : List Stored → Value → ℕ → Type 0
  Stands stored (bool_value b) n = slice_get stored n ≡ Some (Bool b)
  Stands stored (int_value i) n = slice_get stored n ≡ Some (Int i)
  Stands stored (constant_value name) n = slice_get stored n ≡ Some (Const name)
  Stands stored (opaque_value o) n = slice_get stored n ≡ Some (Opaque o)
  Stands stored (made_variant ty k vs) n =
      (fields : List ℕ) × (slice_get stored n ≡ Some (Variant (type_at ty) (variant_at k) fields)) × StandEach stored vs fields
  Stands stored (made_struct ty vs) n = (fields : List ℕ) × (slice_get stored n ≡ Some (Struct (type_at ty) fields))
      × StandEach stored vs fields

  -- each number stands for the value at its place
  pub StandEach : List Stored → Values → List ℕ → Type 0
  StandEach stored no_values [] = Unit {0}
  StandEach stored no_values (n ∷ ns) = ⊥
  StandEach stored (more_values v vs) [] = ⊥
  StandEach stored (more_values v vs) (n ∷ ns) = Stands stored v n × StandEach stored vs ns

-- nothing is lost, and nothing moves
pub record Extends (old new : List Stored) : Type 0 where
  pub more : List Stored
  pub joined : new ≡ old ++ more
