-- The values that a program can hold.
use Rattle.std.specs.Prelude.{FitsSigned}
use Rattle.std.specs.Int.{w128}
use Rattle.std.specs.Str.{IsUtf8}
use Rattle.isle_rules.specs.Values.{ValueTree, ValueTrees, bool_tree, int_tree, big_tree, const_tree, opaque_tree, data_tree, no_trees, more_trees}
use Rattle.isle_values.specs.declared.values.Node.{Node}
use Rattle.isle_values.specs.declared.values.Node.TheVariants.{Bool, Int, Big, Const, Opaque, Data}

-- integers have 128 bits, and names are text
abbrev mutual
  pub IsHeld : ValueTree → Type 0
  IsHeld (bool_tree b) = Unit {0}
  IsHeld (int_tree n) = FitsSigned w128 n
  IsHeld (big_tree n) = Unit {0}
  IsHeld (const_tree name) = IsUtf8 name
  IsHeld (opaque_tree n) = Unit {0}
  IsHeld (data_tree name fields) = IsUtf8 name × AreHeld fields

  pub AreHeld : ValueTrees → Type 0
  AreHeld no_trees = Unit {0}
  AreHeld (more_trees v vs) = IsHeld v × AreHeld vs

-- the same of a node
abbrev pub IsHeldNode : Node → Type 0
IsHeldNode (Bool b) = Unit {0}
IsHeldNode (Int n) = FitsSigned w128 n
IsHeldNode (Big n) = Unit {0}
IsHeldNode (Const name) = IsUtf8 name
IsHeldNode (Opaque n) = Unit {0}
IsHeldNode (Data name fields nodes) = IsUtf8 name
