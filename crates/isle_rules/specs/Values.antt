-- Ground values: finite trees, of which different ones are never equal.
use Rattle.std.specs.Prelude.{ℕ, ℤ, Bool, List, [], ◌∷◌}

mutual
  pub data ValueTree : Type 0 where
    bool_tree : Bool → ValueTree
    int_tree : ℤ → ValueTree
    big_tree : ℕ → ValueTree
    const_tree : List ℕ → ValueTree
    opaque_tree : ℕ → ValueTree
    data_tree : List ℕ → ValueTrees → ValueTree

  pub data ValueTrees : Type 0 where
    no_trees : ValueTrees
    more_trees : ValueTree → ValueTrees → ValueTrees

-- the fields of a list
abbrev pub value_list : List ValueTree → ValueTrees
value_list [] = no_trees
value_list (v ∷ vs) = more_trees v (value_list vs)
