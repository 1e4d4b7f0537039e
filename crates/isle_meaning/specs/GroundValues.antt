-- The values that ground values stand for: data is a variant of an enum, by the numbers of both, or a struct, and an integer from
-- 2^127 on, which is of `u128` alone, is the one of its 128 bits.
use Rattle.std.specs.Prelude.{◌≡◌, ℕ, List, Option, Some, None}
use Rattle.std.specs.Int.{w128, cast_signed}
use Rattle.isle_rules.specs.Values.{ValueTree, ValueTrees, bool_tree, int_tree, big_tree}
use Rattle.isle_rules.specs.Values.{const_tree, opaque_tree, data_tree, no_trees}
use Rattle.isle_rules.specs.Values.{more_trees}
use Rattle.isle_meaning.specs.Facts.{TermShape, variant_shape, struct_shape, declared_shape}
use Rattle.isle_meaning.specs.Values.{Value, Values, bool_value, int_value, constant_value, opaque_value, made_variant, made_struct}
use Rattle.isle_meaning.specs.Values.{no_values, more_values}
use Rattle.isle_meaning.specs.ValueTypes.{ValueFacts, IsOfType, AreOfTypes}

-- the type of data; 0 where no data has this name
abbrev pub type_of_data : Option (ℕ × List ℕ) → ℕ
type_of_data None = 0
type_of_data (Some made) = made.0

-- data of this shape and type; a struct where no data has its name
abbrev pub data_of_shape : Option TermShape → ℕ → Values → Value
data_of_shape None ty vs = made_struct ty vs
data_of_shape (Some (variant_shape k)) ty vs = made_variant ty k vs
data_of_shape (Some struct_shape) ty vs = made_struct ty vs
data_of_shape (Some declared_shape) ty vs = made_struct ty vs

-- the value of a tree, and the values of trees
abbrev mutual
  pub value_of : ValueFacts → ValueTree → Value
  value_of facts (bool_tree b) = bool_value b
  value_of facts (int_tree n) = int_value n
  value_of facts (big_tree n) = int_value (cast_signed w128 n)
  value_of facts (const_tree name) = constant_value name
  value_of facts (opaque_tree n) = opaque_value n
  value_of facts (data_tree name fields) = data_of_shape (facts.shape_named name) (type_of_data (facts.data_named name)) (values_of facts fields)

  pub values_of : ValueFacts → ValueTrees → Values
  values_of facts no_trees = no_values
  values_of facts (more_trees v vs) = more_values (value_of facts v) (values_of facts vs)

-- a value is of a type: it is that of a tree of the type
pub record IsValueOf (facts : ValueFacts) (v : Value) (ty : ℕ) : Type 0 where
  pub tree : ValueTree
  pub typed : IsOfType facts tree ty
  pub stands : value_of facts tree ≡ v

-- values are of types, one each
pub record AreValuesOf (facts : ValueFacts) (vs : Values) (types : List ℕ) : Type 0 where
  pub trees : ValueTrees
  pub typed : AreOfTypes facts trees types
  pub stand : values_of facts trees ≡ vs
