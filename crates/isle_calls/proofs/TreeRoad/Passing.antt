-- When values pass tests, by their nodes.
use Rattle.std.proofs.Common.{◌≡◌, ◌↔◌, ℕ, suc, Bool, List, [], ◌∷◌, Some, length, slice_get, refl, sym, ap, subst, ◌∙◌, IsTrue}
use Rattle.isle_types.specs.declared.ids.TypeId.{TypeId}
use Rattle.isle_types.specs.declared.ids.VariantId.{VariantId}
use Rattle.isle_types.specs.TypeEnvs.{type_at}
use Rattle.isle_meaning.specs.Demands.{variant_constraint, struct_constraint}
use Rattle.isle_meaning.specs.Held.{held_value}
use Rattle.isle_meaning.specs.Held.{Meets}
use Rattle.isle_meaning.specs.Values.{Value, Values, no_values, more_values, made_variant, made_struct, count}
use Rattle.isle_calls.specs.declared.store.Stored.{Stored}
use Rattle.isle_calls.specs.declared.store.Stored.TheVariants.{Variant, Struct}
use Rattle.isle_calls.specs.Stores.Values.{Stands, StandEach}
use Rattle.isle_program.specs.Tables.{variant_at}
use Rattle.isle_calls.proofs.Stores.Values.{stands_one, variant_stands, struct_stands}

-- there are as many numbers as values
stand_count : (stored : List Stored) (vs : Values) (ns : List ℕ) → StandEach stored vs ns → count vs ≡ length ns
stand_count stored no_values [] each = refl
stand_count stored no_values (n ∷ ns) each = absurd each
stand_count stored (more_values v vs) [] each = absurd each
stand_count stored (more_values v vs) (n ∷ ns) each = ap suc (stand_count stored vs ns each.1)

module _ (stored : List Stored) (v : Value) (n : ℕ) (node : Stored) (there : slice_get stored n ≡ Some node)
    (stands : Stands stored v n) (b : Bool) where
  -- a variant with so many fields
  pub variant_passes : (ty : TypeId) (k : VariantId) (fields : ℕ)
      → IsTrue b ↔ ((numbers : List ℕ) × (node ≡ Variant ty k numbers) × (length numbers ≡ fields))
      → IsTrue b ↔ Meets (variant_constraint ty.0 k.0 fields) (held_value v)
  variant_passes ty k fields decided = (
    λ t. (let (numbers, is, size) = decided.0 t in
        let (vs, each, same) = variant_stands stored v n ty k numbers (there ∙ ap (λ (x : Stored). Some x) is) stands in
        (vs, ap held_value same, stand_count stored vs numbers each ∙ size)),
    λ m. (let (vs, e, size) = m in
        let same : v ≡ made_variant ty.0 k.0 vs = cc in
        let (numbers, is, each) = subst (λ (w : Value). Stands stored w n) same stands in
        let q : node ≡ Variant (type_at ty.0) (variant_at k.0) numbers = cc in
        decided.1 (numbers, q, sym (stand_count stored vs numbers each) ∙ size)),
  )

  -- a struct with so many fields
  pub struct_passes : (ty : TypeId) (fields : ℕ) → IsTrue b ↔ ((numbers : List ℕ) × (node ≡ Struct ty numbers) × (length numbers ≡ fields))
      → IsTrue b ↔ Meets (struct_constraint ty.0 fields) (held_value v)
  struct_passes ty fields decided = (
    λ t. (let (numbers, is, size) = decided.0 t in
        let (vs, each, same) = struct_stands stored v n ty numbers (there ∙ ap (λ (x : Stored). Some x) is) stands in
        (vs, ap held_value same, stand_count stored vs numbers each ∙ size)),
    λ m. (let (vs, e, size) = m in
        let same : v ≡ made_struct ty.0 vs = cc in
        let (numbers, is, each) = subst (λ (w : Value). Stands stored w n) same stands in
        let q : node ≡ Struct (type_at ty.0) numbers = cc in
        decided.1 (numbers, q, sym (stand_count stored vs numbers each) ∙ size)),
  )

  -- a value without fields, whose node this is
  pub leaf_passes : (w : Value) (leaf : Stored) → (slice_get stored n ≡ Some leaf → Stands stored w n)
      → (Stands stored w n → slice_get stored n ≡ Some leaf) → IsTrue b ↔ (node ≡ leaf) → IsTrue b ↔ (held_value v ≡ held_value w)
  leaf_passes w leaf to from decided = (
    λ t. ap held_value (stands_one stored v w n stands (to (there ∙ ap (λ (x : Stored). Some x) (decided.0 t)))),
    λ e. (let same : v ≡ w = cc in
        let at : slice_get stored n ≡ Some leaf = from (subst (λ (x : Value). Stands stored x n) same stands) in
        let q : node ≡ leaf = cc in decided.1 q),
  )
