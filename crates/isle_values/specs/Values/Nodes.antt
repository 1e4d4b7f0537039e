-- Values laid out node by node, each before its fields.
use Rattle.std.specs.Prelude.{ℕ, suc, zero, ◌+◌, false, List, [], ◌∷◌, ◌++◌}
use Rattle.isle_rules.specs.Values.{ValueTree, ValueTrees, bool_tree, int_tree, big_tree, const_tree, opaque_tree, data_tree, no_trees, more_trees}
use Rattle.isle_values.specs.declared.values.Node.{Node}
use Rattle.isle_values.specs.declared.values.Node.TheVariants.{Bool, Int, Big, Const, Opaque, Data}

-- how many values
abbrev pub count_of : ValueTrees → ℕ
count_of no_trees = 0
count_of (more_trees v vs) = suc (count_of vs)

-- values behind others
abbrev pub joined : ValueTrees → ValueTrees → ValueTrees
joined no_trees ws = ws
joined (more_trees v vs) ws = more_trees v (joined vs ws)

-- how many nodes a value has, and values have in all
abbrev mutual
  pub size_of : ValueTree → ℕ
  size_of (bool_tree b) = 1
  size_of (int_tree n) = 1
  size_of (big_tree n) = 1
  size_of (const_tree name) = 1
  size_of (opaque_tree n) = 1
  size_of (data_tree name fields) = suc (sizes_of fields)

  pub sizes_of : ValueTrees → ℕ
  sizes_of no_trees = 0
  sizes_of (more_trees v vs) = size_of v + sizes_of vs

-- the nodes of a value, and of values
abbrev mutual
  pub nodes_of : ValueTree → List Node
  nodes_of (bool_tree b) = Bool b ∷ []
  nodes_of (int_tree n) = Int n ∷ []
  nodes_of (big_tree n) = Big n ∷ []
  nodes_of (const_tree name) = Const name ∷ []
  nodes_of (opaque_tree n) = Opaque n ∷ []
  nodes_of (data_tree name fields) = Data name (count_of fields) (sizes_of fields) ∷ nodes_all fields

  pub nodes_all : ValueTrees → List Node
  nodes_all no_trees = []
  nodes_all (more_trees v vs) = nodes_of v ++ nodes_all vs

-- the first so many of some values, and the others
abbrev pub first_values : ℕ → ValueTrees → ValueTrees
first_values zero vs = no_trees
first_values (suc n) no_trees = no_trees
first_values (suc n) (more_trees v vs) = more_trees v (first_values n vs)

abbrev pub later_values : ℕ → ValueTrees → ValueTrees
later_values zero vs = vs
later_values (suc n) no_trees = no_trees
later_values (suc n) (more_trees v vs) = later_values n vs

-- a node before the values that its fields are among
abbrev pub put : Node → ValueTrees → ValueTrees
put (Bool b) vs = more_trees (bool_tree b) vs
put (Int n) vs = more_trees (int_tree n) vs
put (Big n) vs = more_trees (big_tree n) vs
put (Const name) vs = more_trees (const_tree name) vs
put (Opaque n) vs = more_trees (opaque_tree n) vs
put (Data name fields nodes) vs = more_trees (data_tree name (first_values fields vs)) (later_values fields vs)

-- the values that nodes stand for
abbrev pub values_in : List Node → ValueTrees
values_in [] = no_trees
values_in (node ∷ nodes) = put node (values_in nodes)

-- the first value
abbrev pub head_value : ValueTrees → ValueTree
head_value no_trees = bool_tree false
head_value (more_trees v vs) = v

-- the value that nodes stand for
abbrev pub value_in : List Node → ValueTree
value_in nodes = head_value (values_in nodes)

-- how many nodes follow it that belong to it
abbrev pub nodes_below : Node → ℕ
nodes_below (Bool b) = 0
nodes_below (Int n) = 0
nodes_below (Big n) = 0
nodes_below (Const name) = 0
nodes_below (Opaque n) = 0
nodes_below (Data name fields nodes) = nodes
