-- Which values are of a type.
use Rattle.std.specs.Prelude.{◌≡◌, ◌<◌, ◌≤◌, ◌^◌, ℕ, ℤ, List, [], ◌∷◌, Option, Some, FitsSigned}
use Rattle.std.specs.Int.{w128}
use Rattle.isle_types.specs.declared.types.IntType.{IntType}
use Rattle.isle_types.specs.declared.types.IntType.TheVariants.{U128}
use Rattle.isle_types.specs.IntTypes.{HasNumber}
use Rattle.isle_meaning.specs.Facts.{TermShape}
use Rattle.isle_rules.specs.Values.{ValueTree, ValueTrees, bool_tree, int_tree, big_tree, const_tree, opaque_tree, data_tree, no_trees, more_trees}

-- what kind of values a type has
pub data TypeKind : Type 0 where
  truth_kind : TypeKind
  integer_kind : IntType → TypeKind
  primitive_kind : TypeKind
  data_kind : TypeKind
  no_kind : TypeKind

-- what values need to know of types, by number: the kind of each; the type of a named constant; of a variant, by its full name,
-- or a struct, its type and those of its fields, and which of both it is
pub record ValueFacts : Type 0 where
  pub kind : ℕ → TypeKind
  pub constant : List ℕ → Option ℕ
  pub data_named : List ℕ → Option (ℕ × List ℕ)
  pub shape_named : List ℕ → Option TermShape

-- an integer of a kind: in the range of an integer type, or any of a primitive one, from -2^127 to 2^127 - 1
abbrev pub IsIntOf : ℤ → TypeKind → Type 0
IsIntOf n truth_kind = ⊥
IsIntOf n (integer_kind int) = HasNumber int n × FitsSigned w128 n
IsIntOf n primitive_kind = FitsSigned w128 n
IsIntOf n data_kind = ⊥
IsIntOf n no_kind = ⊥

-- a number from 2^127 on is one of `u128` alone
abbrev pub IsBigOf : ℕ → TypeKind → Type 0
IsBigOf n kind = (kind ≡ integer_kind U128) × (2 ^ 127 ≤ n) × (n < 2 ^ 128)

-- a constant is of the builtin or primitive type that its declaration names
abbrev pub HasConstants : TypeKind → Type 0
HasConstants truth_kind = Unit {0}
HasConstants (integer_kind int) = Unit {0}
HasConstants primitive_kind = Unit {0}
HasConstants data_kind = ⊥
HasConstants no_kind = ⊥

-- A value is of a type.
abbrev mutual
  pub IsOfType : ValueFacts → ValueTree → ℕ → Type 0
  IsOfType facts (bool_tree b) ty = facts.kind ty ≡ truth_kind
  IsOfType facts (int_tree n) ty = IsIntOf n (facts.kind ty)
  IsOfType facts (big_tree n) ty = IsBigOf n (facts.kind ty)
  IsOfType facts (const_tree name) ty = (facts.constant name ≡ Some ty) × HasConstants (facts.kind ty)
  IsOfType facts (opaque_tree n) ty = (facts.kind ty ≡ primitive_kind) × (n < 2 ^ 64)
  IsOfType facts (data_tree name fields) ty = (types : List ℕ) × (facts.data_named name ≡ Some (ty, types)) × AreOfTypes facts fields types

  pub AreOfTypes : ValueFacts → ValueTrees → List ℕ → Type 0
  AreOfTypes facts no_trees [] = Unit {0}
  AreOfTypes facts no_trees (ty ∷ types) = ⊥
  AreOfTypes facts (more_trees v vs) [] = ⊥
  AreOfTypes facts (more_trees v vs) (ty ∷ types) = IsOfType facts v ty × AreOfTypes facts vs types
