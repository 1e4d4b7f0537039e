-- Values that are laid out from the last to the first.
use Rattle.std.specs.Prelude.{◌≡◌, ℕ, List, [], ◌∷◌, reverse}
use Rattle.isle_rules.specs.Values.{ValueTrees, no_trees, more_trees}
use Rattle.isle_values.specs.declared.values.Node.{Node}
use Rattle.isle_values.specs.declared.values.Node.TheVariants.{Bool, Int, Big, Const, Opaque, Data}
use Rattle.isle_values.specs.Values.Nodes.{sizes_of, nodes_all, values_in}

-- for each value, how many nodes those behind it have in all
abbrev pub sizes_behind : ValueTrees → List ℕ
sizes_behind no_trees = []
sizes_behind (more_trees v vs) = sizes_of vs ∷ sizes_behind vs

-- the nodes, from the last to the first, are those of values, with these counts of the nodes behind each, from the last value to the first
pub record AreLaid (nodes : List Node) (behind : List ℕ) : Type 0 where
  pub laid : reverse nodes ≡ nodes_all (values_in (reverse nodes))
  pub counted : reverse behind ≡ sizes_behind (values_in (reverse nodes))

-- a node is a value of its own
abbrev pub IsLeaf : Node → Type 0
IsLeaf (Bool b) = Unit {0}
IsLeaf (Int n) = Unit {0}
IsLeaf (Big n) = Unit {0}
IsLeaf (Const name) = Unit {0}
IsLeaf (Opaque n) = Unit {0}
IsLeaf (Data name fields nodes) = ⊥
