-- Values of types: what they are made of.
use Rattle.std.proofs.Common.{◌≡◌, inl, inr, ℕ, List, [], ◌∷◌, Option, Some, None, refl, ◌∙◌, ap, subst}
use Rattle.isle_rules.specs.Values.{ValueTree, ValueTrees, bool_tree, int_tree, big_tree}
use Rattle.isle_rules.specs.Values.{const_tree, opaque_tree, data_tree, no_trees}
use Rattle.isle_rules.specs.Values.{more_trees}
use Rattle.isle_meaning.specs.Facts.{TermShape, variant_shape, struct_shape, declared_shape}
use Rattle.isle_meaning.specs.Values.{Value, Values, made_variant, made_struct, no_values, more_values}
use Rattle.isle_meaning.specs.ValueTypes.{ValueFacts, IsOfType, AreOfTypes}
use Rattle.isle_meaning.specs.GroundValues.{IsValueOf, AreValuesOf, value_of, values_of, data_of_shape}
use Rattle.isle_meaning.specs.Worlds.{CheckedProgram}
use Rattle.isle_meaning.specs.SoundPrograms.{HasSoundData}

-- no values are of no types
pub none_typed : (facts : ValueFacts) → AreValuesOf facts no_values []
none_typed facts = record { trees = no_trees; typed = tt; stand = refl }

-- a value before values
pub more_values_typed : (facts : ValueFacts) (v : Value) (vs : Values) (u : ℕ) (us : List ℕ) → IsValueOf facts v u → AreValuesOf facts vs us
    → AreValuesOf facts (more_values v vs) (u ∷ us)
more_values_typed facts v vs u us h k = record {
  trees = more_trees (h.tree) (k.trees);
  typed = (h.typed, k.typed);
  stand = rw (h.stands, k.stand) refl;
}

parted : (facts : ValueFacts) (v : Value) (vs : Values) (u : ℕ) (us : List ℕ) (trees : ValueTrees) → AreOfTypes facts trees (u ∷ us)
    → values_of facts trees ≡ more_values v vs → IsValueOf facts v u × AreValuesOf facts vs us
parted facts v vs u us no_trees t e = absurd t
parted facts v vs u us (more_trees x xs) t e =
    (record { tree = x; typed = t.0; stands = cc }, record { trees = xs; typed = t.1; stand = cc })

-- the first is of the first type, the others are of the others
pub values_parted : (facts : ValueFacts) (v : Value) (vs : Values) (u : ℕ) (us : List ℕ) → AreValuesOf facts (more_values v vs) (u ∷ us)
    → IsValueOf facts v u × AreValuesOf facts vs us
values_parted facts v vs u us h = parted facts v vs u us (h.trees) (h.typed) (h.stand)

module _ (p : CheckedProgram) (data_sound : HasSoundData p) where
  -- a made variant is of its type
  pub variant_made : (t k : ℕ) (vs : Values) → p.terms.shape t ≡ variant_shape k
      → AreValuesOf p.values vs (p.terms.variant_fields (p.terms.type_of t) k)
      → IsValueOf p.values (made_variant (p.terms.type_of t) k vs) (p.terms.type_of t)
  variant_made t k vs e h =
      let (name, shaped, fielded) = data_sound.variant_name t k e in
      record { tree = data_tree name (h.trees); typed = (_, fielded, h.typed); stands = rw (shaped, fielded, h.stand) refl }

  -- so is a made struct
  pub struct_made : (t : ℕ) (vs : Values) → p.terms.shape t ≡ struct_shape
      → AreValuesOf p.values vs (p.terms.struct_fields (p.terms.type_of t))
      → IsValueOf p.values (made_struct (p.terms.type_of t) vs) (p.terms.type_of t)
  struct_made t vs e h =
      let (name, shaped, fielded) = data_sound.struct_name t e in
      record { tree = data_tree name (h.trees); typed = (_, fielded, h.typed); stands = rw (shaped, fielded, h.stand) refl }

  variant_data : (ty k : ℕ) (vs : Values) (u : ℕ) (name : List ℕ) (fields : ValueTrees) (types : List ℕ) (shape : Option TermShape) (of : ℕ)
      → p.values.shape_named name ≡ shape → p.values.data_named name ≡ Some (u, types) → AreOfTypes p.values fields types
      → data_of_shape shape of (values_of p.values fields) ≡ made_variant ty k vs → AreValuesOf p.values vs (p.terms.variant_fields u k)
  variant_data ty k vs u name fields types None of s d t e = absurd cc
  variant_data ty k vs u name fields types (Some (variant_shape j)) of s d t e =
      let same : j ≡ k = cc in
      let its : types ≡ p.terms.variant_fields u k = data_sound.variant_fields name j u types s d ∙ ap (p.terms.variant_fields u) same in
      record { trees = fields; typed = subst (AreOfTypes p.values fields) its t; stand = cc }
  variant_data ty k vs u name fields types (Some struct_shape) of s d t e = absurd cc
  variant_data ty k vs u name fields types (Some declared_shape) of s d t e = absurd cc

  variant_tree : (ty k : ℕ) (vs : Values) (u : ℕ) (tree : ValueTree) → IsOfType p.values tree u
      → value_of p.values tree ≡ made_variant ty k vs → AreValuesOf p.values vs (p.terms.variant_fields u k)
  variant_tree ty k vs u (bool_tree b) t e = absurd cc
  variant_tree ty k vs u (int_tree n) t e = absurd cc
  variant_tree ty k vs u (big_tree n) t e = absurd cc
  variant_tree ty k vs u (const_tree name) t e = absurd cc
  variant_tree ty k vs u (opaque_tree n) t e = absurd cc
  variant_tree ty k vs u (data_tree name fields) t e =
      variant_data ty k vs u name fields (t.0) (p.values.shape_named name) _ refl (t.1) (t.2) e

  -- the fields of a variant of a type are of its fields' types
  pub variant_opened : (ty k : ℕ) (vs : Values) (u : ℕ) → IsValueOf p.values (made_variant ty k vs) u
      → AreValuesOf p.values vs (p.terms.variant_fields u k)
  variant_opened ty k vs u h = variant_tree ty k vs u (h.tree) (h.typed) (h.stands)

  struct_data : (ty : ℕ) (vs : Values) (u : ℕ) (name : List ℕ) (fields : ValueTrees) (types : List ℕ) (shape : Option TermShape) (of : ℕ)
      → p.values.shape_named name ≡ shape → p.values.data_named name ≡ Some (u, types) → AreOfTypes p.values fields types
      → data_of_shape shape of (values_of p.values fields) ≡ made_struct ty vs → AreValuesOf p.values vs (p.terms.struct_fields u)
  struct_data ty vs u name fields types None of s d t e = absurd (elim (data_sound.shaped name u types d) [
    | inl h ↦ (let q : p.values.shape_named name ≡ Some (variant_shape (h.0)) = h.1 in cc)
    | inr h ↦ cc
  ])
  struct_data ty vs u name fields types (Some (variant_shape j)) of s d t e = absurd cc
  struct_data ty vs u name fields types (Some struct_shape) of s d t e =
      let its : types ≡ p.terms.struct_fields u = data_sound.struct_fields name u types s d in
      record { trees = fields; typed = subst (AreOfTypes p.values fields) its t; stand = cc }
  struct_data ty vs u name fields types (Some declared_shape) of s d t e = absurd (elim (data_sound.shaped name u types d) [
    | inl h ↦ (let q : p.values.shape_named name ≡ Some (variant_shape (h.0)) = h.1 in cc)
    | inr h ↦ cc
  ])

  struct_tree : (ty : ℕ) (vs : Values) (u : ℕ) (tree : ValueTree) → IsOfType p.values tree u
      → value_of p.values tree ≡ made_struct ty vs → AreValuesOf p.values vs (p.terms.struct_fields u)
  struct_tree ty vs u (bool_tree b) t e = absurd cc
  struct_tree ty vs u (int_tree n) t e = absurd cc
  struct_tree ty vs u (big_tree n) t e = absurd cc
  struct_tree ty vs u (const_tree name) t e = absurd cc
  struct_tree ty vs u (opaque_tree n) t e = absurd cc
  struct_tree ty vs u (data_tree name fields) t e =
      struct_data ty vs u name fields (t.0) (p.values.shape_named name) _ refl (t.1) (t.2) e

  -- the fields of a struct of a type are of its fields' types
  pub struct_opened : (ty : ℕ) (vs : Values) (u : ℕ) → IsValueOf p.values (made_struct ty vs) u
      → AreValuesOf p.values vs (p.terms.struct_fields u)
  struct_opened ty vs u h = struct_tree ty vs u (h.tree) (h.typed) (h.stands)
