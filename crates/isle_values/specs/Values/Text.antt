-- What is printed of a value.
use Rattle.std.specs.Prelude.{◌≡◌, ◌+◌, ℕ, List, [], ◌∷◌, ◌++◌, if◌then◌else◌, codes}
use Rattle.std.specs.Fmt.{decimal, signed_decimal}
use Rattle.isle_rules.specs.Values.{ValueTree, ValueTrees, bool_tree, int_tree, big_tree, const_tree, opaque_tree, data_tree, no_trees}
use Rattle.isle_rules.specs.Values.{more_trees}
use Rattle.isle_values.specs.declared.values.Node.{Node}
use Rattle.isle_values.specs.declared.values.Node.TheVariants.{Bool, Int, Big, Const, Opaque, Data}

-- numbers in decimal, a constant behind `$`, an opaque value behind `v`, data in parentheses with their fields
abbrev mutual
  pub value_text : ValueTree → List ℕ
  value_text (bool_tree b) = if b then codes "true" else codes "false"
  value_text (int_tree n) = signed_decimal n
  value_text (big_tree n) = decimal n
  value_text (const_tree name) = codes "$" ++ name
  value_text (opaque_tree n) = codes "v" ++ decimal n
  value_text (data_tree name fields) = codes "(" ++ (name ++ (fields_text fields ++ codes ")"))

  -- a space before each field
  pub fields_text : ValueTrees → List ℕ
  fields_text no_trees = []
  fields_text (more_trees v vs) = codes " " ++ (value_text v ++ fields_text vs)

-- what is written of a node: data is left open
abbrev pub node_text : Node → List ℕ
node_text (Bool b) = if b then codes "true" else codes "false"
node_text (Int n) = signed_decimal n
node_text (Big n) = decimal n
node_text (Const name) = codes "$" ++ name
node_text (Opaque n) = codes "v" ++ decimal n
node_text (Data name fields nodes) = codes "(" ++ name

-- the place where data ends whose node stands before a place
abbrev pub end_of : ℕ → Node → List ℕ
end_of after (Bool b) = []
end_of after (Int n) = []
end_of after (Big n) = []
end_of after (Const name) = []
end_of after (Opaque n) = []
end_of after (Data name fields nodes) = (after + nodes) ∷ []

-- the places at the end that are this one are taken off, with a parenthesis for each
pub data Closes (at : ℕ) : List ℕ → List ℕ → List ℕ → Type 0 where
  none_ends : {ends : List ℕ} → ((before : List ℕ) → ends ≡ before ++ at ∷ [] → ⊥) → Closes at ends ends []
  one_ends : {ends rest closed : List ℕ} → Closes at ends rest closed → Closes at (ends ++ at ∷ []) rest (codes ")" ++ closed)
