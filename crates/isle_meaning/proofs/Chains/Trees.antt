-- One value of a type has one tree.
use Rattle.std.proofs.Common.{◌≡◌, ◌⊎◌, inl, inr, ◌≤◌, ◌<◌, ◌^◌, ℕ, ℤ, pos, negsuc, List, [], ◌∷◌, Option, Some, None, refl, sym, ◌∙◌}
use Rattle.std.proofs.Common.{ap, subst, arith}
use Rattle.std.specs.Prelude.{FitsSigned}
use Rattle.std.specs.Int.{w128, cast_signed, cast_unsigned}
use Rattle.std.proofs.lemmas.Int.{ints, of_z-to_z, to_z_pos}
use Rattle.isle_types.specs.IntTypes.{HasNumber}
use Rattle.isle_types.specs.declared.types.IntType.TheVariants.{U128}
use Rattle.isle_rules.specs.Values.{ValueTree, ValueTrees, bool_tree, int_tree, big_tree}
use Rattle.isle_rules.specs.Values.{const_tree, opaque_tree, data_tree, no_trees}
use Rattle.isle_rules.specs.Values.{more_trees}
use Rattle.isle_meaning.specs.Facts.{TermShape, variant_shape, struct_shape, declared_shape}
use Rattle.isle_meaning.specs.Values.{Value, Values, bool_value, int_value, constant_value, opaque_value, made_variant, made_struct}
use Rattle.isle_meaning.specs.ValueTypes.{TypeKind, IsIntOf, IsBigOf, IsOfType, AreOfTypes}
use Rattle.isle_meaning.specs.GroundValues.{type_of_data, data_of_shape, value_of, values_of}
use Rattle.isle_meaning.specs.Worlds.{CheckedProgram}
use Rattle.isle_meaning.specs.SoundPrograms.{HasSoundData}
use Rattle.isle_meaning.specs.Laws.Calls.{TreesAreOne}

-- a variant or a struct
abbrev IsData : Value → Type 0
IsData (bool_value b) = ⊥
IsData (int_value n) = ⊥
IsData (constant_value name) = ⊥
IsData (opaque_value n) = ⊥
IsData (made_variant ty k vs) = Unit {0}
IsData (made_struct ty vs) = Unit {0}

-- the value of data is one
data_is_data : (shape : Option TermShape) (ty : ℕ) (vs : Values) → IsData (data_of_shape shape ty vs)
data_is_data None ty vs = tt
data_is_data (Some (variant_shape k)) ty vs = tt
data_is_data (Some struct_shape) ty vs = tt
data_is_data (Some declared_shape) ty vs = tt

-- the value of data isn't one of these others
not_data : (shape : Option TermShape) (ty : ℕ) (vs : Values) (v : Value) → (IsData v → ⊥) → data_of_shape shape ty vs ≡ v → ⊥
not_data shape ty vs v n e = n (subst IsData e (data_is_data shape ty vs))

-- 128 bits are of one number
bits_are_one : (m n : ℕ) → m < 2 ^ 128 → n < 2 ^ 128 → cast_signed w128 m ≡ cast_signed w128 n → m ≡ n
bits_are_one m n h k e = sym (of_z-to_z w128 m h) ∙ (ap (cast_unsigned w128) e ∙ of_z-to_z w128 n k)

-- a number of `u128` below 2^127 isn't one from 2^127 on
small_not_big : (n : ℤ) (m : ℕ) → HasNumber U128 n → FitsSigned w128 n → 2 ^ 127 ≤ m → m < 2 ^ 128 → n ≡ cast_signed w128 m → ⊥
small_not_big (pos k) m h f low high e =
    let small : k < 2 ^ 127 = omega (arith, ints, f.sfits) in
    let same : k ≡ m = bits_are_one k m (omega arith) high (to_z_pos w128 k small ∙ e) in
    omega arith
small_not_big (negsuc k) m h f low high e = absurd (omega (arith, ints, h.low))

-- an integer of a kind isn't a big one of it
int_not_big : (kind : TypeKind) (n : ℤ) (m : ℕ) → IsIntOf n kind → IsBigOf m kind → n ≡ cast_signed w128 m → ⊥
int_not_big kind n m i b e =
    let j : HasNumber U128 n × FitsSigned w128 n = subst (λ (k : TypeKind). IsIntOf n k) (b.0) i in
    small_not_big n m (j.0) (j.1) (b.1) (b.2) e

module _ (p : CheckedProgram) (sound : HasSoundData p) where
  -- the shape and the type that a name has
  record Shaped (name : List ℕ) (ty : ℕ) (types : List ℕ) (vs : Values) (v : Value) : Type 0 where
    shape : TermShape
    named : p.values.shape_named name ≡ Some shape
    value : data_of_shape (Some shape) ty vs ≡ v

  -- data of one type and value is of one name, and its fields are equal
  record SameData (name other : List ℕ) (vs ws : Values) : Type 0 where
    name_is : name ≡ other
    fields : vs ≡ ws

  -- the value of data by its shape
  data_value_is : (name : List ℕ) (ty : ℕ) (types : List ℕ) (vs : Values) (shape : TermShape) → p.values.data_named name ≡ Some (ty, types)
      → p.values.shape_named name ≡ Some shape
      → data_of_shape (p.values.shape_named name) (type_of_data (p.values.data_named name)) vs ≡ data_of_shape (Some shape) ty vs
  data_value_is name ty types vs shape d s = rw (d, s) refl

  -- equal data has one name, and equal fields
  same_data : (name other : List ℕ) (ty : ℕ) (types others : List ℕ) (vs ws : Values) → p.values.data_named name ≡ Some (ty, types)
      → p.values.data_named other ≡ Some (ty, others)
      → data_of_shape (p.values.shape_named name) (type_of_data (p.values.data_named name)) vs
      ≡ data_of_shape (p.values.shape_named other) (type_of_data (p.values.data_named other)) ws → SameData name other vs ws
  same_data name other ty types others vs ws d o e = go (sound.shaped name ty types d) (sound.shaped other ty others o)
    where
      go : ((k : ℕ) × (p.values.shape_named name ≡ Some (variant_shape k))) ⊎ (p.values.shape_named name ≡ Some struct_shape)
          → ((k : ℕ) × (p.values.shape_named other ≡ Some (variant_shape k))) ⊎ (p.values.shape_named other ≡ Some struct_shape)
          → SameData name other vs ws
      go (inl x) (inl y) =
          let q : made_variant ty (x.0) vs ≡ made_variant ty (y.0) ws =
          sym (data_value_is name ty types vs (variant_shape (x.0)) d (x.1))
          ∙ (e ∙ data_value_is other ty others ws (variant_shape (y.0)) o (y.1)) in
          let k : y.0 ≡ x.0 = cc in
          record {
            name_is = sound.one_name name other (variant_shape (x.0)) ty types others (x.1)
                (y.1 ∙ ap (λ (k : ℕ). Some (variant_shape k)) k) d o;
            fields = cc;
          }
      go (inl x) (inr y) = absurd (let q : made_variant ty (x.0) vs ≡ made_struct ty ws =
          sym (data_value_is name ty types vs (variant_shape (x.0)) d (x.1))
          ∙ (e ∙ data_value_is other ty others ws struct_shape o y) in cc)
      go (inr x) (inl y) = absurd (let q : made_struct ty vs ≡ made_variant ty (y.0) ws =
          sym (data_value_is name ty types vs struct_shape d x)
          ∙ (e ∙ data_value_is other ty others ws (variant_shape (y.0)) o (y.1)) in cc)
      go (inr x) (inr y) =
          let q : made_struct ty vs ≡ made_struct ty ws =
          sym (data_value_is name ty types vs struct_shape d x) ∙ (e ∙ data_value_is other ty others ws struct_shape o y) in
          record { name_is = sound.one_name name other struct_shape ty types others x y d o; fields = cc }

  mutual
    -- One value of a type has one tree.
    pub trees_are_one : (a b : ValueTree) (ty : ℕ) → IsOfType p.values a ty → IsOfType p.values b ty
        → value_of p.values a ≡ value_of p.values b → a ≡ b
    trees_are_one (bool_tree a) (bool_tree b) ty h k e = cc
    trees_are_one (bool_tree a) (int_tree b) ty h k e = absurd cc
    trees_are_one (bool_tree a) (big_tree b) ty h k e = absurd cc
    trees_are_one (bool_tree a) (const_tree b) ty h k e = absurd cc
    trees_are_one (bool_tree a) (opaque_tree b) ty h k e = absurd cc
    trees_are_one (bool_tree a) (data_tree b bs) ty h k e = absurd (not_data _ _ _ _ (λ x. x) (sym e))
    trees_are_one (int_tree a) (bool_tree b) ty h k e = absurd cc
    trees_are_one (int_tree a) (int_tree b) ty h k e = cc
    trees_are_one (int_tree a) (big_tree b) ty h k e = absurd (int_not_big (p.values.kind ty) a b h k cc)
    trees_are_one (int_tree a) (const_tree b) ty h k e = absurd cc
    trees_are_one (int_tree a) (opaque_tree b) ty h k e = absurd cc
    trees_are_one (int_tree a) (data_tree b bs) ty h k e = absurd (not_data _ _ _ _ (λ x. x) (sym e))
    trees_are_one (big_tree a) (bool_tree b) ty h k e = absurd cc
    trees_are_one (big_tree a) (int_tree b) ty h k e = absurd (int_not_big (p.values.kind ty) b a k h cc)
    trees_are_one (big_tree a) (big_tree b) ty h k e = ap big_tree (bits_are_one a b (h.2) (k.2) cc)
    trees_are_one (big_tree a) (const_tree b) ty h k e = absurd cc
    trees_are_one (big_tree a) (opaque_tree b) ty h k e = absurd cc
    trees_are_one (big_tree a) (data_tree b bs) ty h k e = absurd (not_data _ _ _ _ (λ x. x) (sym e))
    trees_are_one (const_tree a) (bool_tree b) ty h k e = absurd cc
    trees_are_one (const_tree a) (int_tree b) ty h k e = absurd cc
    trees_are_one (const_tree a) (big_tree b) ty h k e = absurd cc
    trees_are_one (const_tree a) (const_tree b) ty h k e = cc
    trees_are_one (const_tree a) (opaque_tree b) ty h k e = absurd cc
    trees_are_one (const_tree a) (data_tree b bs) ty h k e = absurd (not_data _ _ _ _ (λ x. x) (sym e))
    trees_are_one (opaque_tree a) (bool_tree b) ty h k e = absurd cc
    trees_are_one (opaque_tree a) (int_tree b) ty h k e = absurd cc
    trees_are_one (opaque_tree a) (big_tree b) ty h k e = absurd cc
    trees_are_one (opaque_tree a) (const_tree b) ty h k e = absurd cc
    trees_are_one (opaque_tree a) (opaque_tree b) ty h k e = cc
    trees_are_one (opaque_tree a) (data_tree b bs) ty h k e = absurd (not_data _ _ _ _ (λ x. x) (sym e))
    trees_are_one (data_tree a xs) (bool_tree b) ty h k e = absurd (not_data _ _ _ _ (λ x. x) e)
    trees_are_one (data_tree a xs) (int_tree b) ty h k e = absurd (not_data _ _ _ _ (λ x. x) e)
    trees_are_one (data_tree a xs) (big_tree b) ty h k e = absurd (not_data _ _ _ _ (λ x. x) e)
    trees_are_one (data_tree a xs) (const_tree b) ty h k e = absurd (not_data _ _ _ _ (λ x. x) e)
    trees_are_one (data_tree a xs) (opaque_tree b) ty h k e = absurd (not_data _ _ _ _ (λ x. x) e)
    trees_are_one (data_tree a xs) (data_tree b ys) ty h k e =
        let same = same_data a b ty (h.0) (k.0) (values_of p.values xs) (values_of p.values ys) (h.1) (k.1) e in
        let d : Some (ty, k.0) ≡ Some (ty, h.0) = sym (k.1) ∙ (ap p.values.data_named (sym (same.name_is)) ∙ h.1) in
        let both : (ty, k.0) ≡ (ty, h.0) = cc in
        let t : k.0 ≡ h.0 = ap (λ (x : ℕ × List ℕ). x.1) both in
        let its = all_trees_are_one xs ys (h.0) (h.2) (subst (AreOfTypes p.values ys) t (k.2)) (same.fields) in
        ap (λ (n : List ℕ). data_tree n xs) (same.name_is) ∙ ap (data_tree b) its

    -- so have values of types
    pub all_trees_are_one : (xs ys : ValueTrees) (types : List ℕ) → AreOfTypes p.values xs types → AreOfTypes p.values ys types
        → values_of p.values xs ≡ values_of p.values ys → xs ≡ ys
    all_trees_are_one no_trees no_trees [] h k e = refl
    all_trees_are_one no_trees (more_trees b ys) [] h k e = absurd k
    all_trees_are_one (more_trees a xs) ys [] h k e = absurd h
    all_trees_are_one no_trees ys (ty ∷ types) h k e = absurd h
    all_trees_are_one (more_trees a xs) no_trees (ty ∷ types) h k e = absurd k
    all_trees_are_one (more_trees a xs) (more_trees b ys) (ty ∷ types) h k e =
        let first = trees_are_one a b ty (h.0) (k.0) cc in
        let rest = all_trees_are_one xs ys types (h.1) (k.1) cc in
        ap (λ (t : ValueTree). more_trees t xs) first ∙ ap (more_trees b) rest

-- One value of a type has one tree.
pub one_tree : TreesAreOne
one_tree p sound a b ty h k e = trees_are_one p sound a b ty h k e
