-- Values as they are read at a type: at a primitive type a number from 2^127 on is the integer of its 128 bits.
use Rattle.std.specs.Prelude.{◌≡◌, ℕ, List, [], ◌∷◌, Option, Some, None}
use Rattle.std.specs.Int.{w128, cast_signed}
use Rattle.isle_syntax.specs.declared.lexer.Token.{Token}
use Rattle.isle_rules.specs.Values.{ValueTree, ValueTrees, bool_tree, int_tree, big_tree, const_tree, opaque_tree, data_tree, no_trees, more_trees}
use Rattle.isle_meaning.specs.ValueTypes.{TypeKind, ValueFacts, IsOfType, truth_kind, integer_kind, primitive_kind, data_kind, no_kind}
use Rattle.isle_values.specs.Values.Tokens.{SpellValue}

-- a number from 2^127 on, read at a kind of type
abbrev pub settled_number : ℕ → TypeKind → ValueTree
settled_number n truth_kind = big_tree n
settled_number n (integer_kind int) = big_tree n
settled_number n primitive_kind = int_tree (cast_signed w128 n)
settled_number n data_kind = big_tree n
settled_number n no_kind = big_tree n

-- the types of the fields of data; none where no data has this name
abbrev pub field_types : Option (ℕ × List ℕ) → List ℕ
field_types None = []
field_types (Some made) = made.1

-- a value, read at a type, and values, read at types one each; those that are left over stay as they are
abbrev mutual
  pub settled : ValueFacts → ValueTree → ℕ → ValueTree
  settled facts (bool_tree b) ty = bool_tree b
  settled facts (int_tree n) ty = int_tree n
  settled facts (big_tree n) ty = settled_number n (facts.kind ty)
  settled facts (const_tree name) ty = const_tree name
  settled facts (opaque_tree n) ty = opaque_tree n
  settled facts (data_tree name fields) ty = data_tree name (settled_all facts fields (field_types (facts.data_named name)))

  pub settled_all : ValueFacts → ValueTrees → List ℕ → ValueTrees
  settled_all facts no_trees types = no_trees
  settled_all facts (more_trees v vs) [] = more_trees v vs
  settled_all facts (more_trees v vs) (ty ∷ types) = more_trees (settled facts v ty) (settled_all facts vs types)

-- tokens spell a value of a type: a value that they spell, read at the type, is this one
abbrev pub SpellTyped : ValueFacts → List Token → ValueTree → ℕ → Type 0
SpellTyped facts tokens v ty = (spelt : ValueTree) × SpellValue tokens spelt × (settled facts spelt ty ≡ v) × IsOfType facts v ty
