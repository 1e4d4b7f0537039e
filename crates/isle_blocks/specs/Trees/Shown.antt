-- Blocks as contracts see them: the tree, and what its returns return.
use Rattle.std.specs.Prelude.{ℕ, List, [], Option, None, Some}
use Rattle.std.specs.List.{filter_map}
use Rattle.isle_ast.specs.declared.pos.Pos.{Pos}
use Rattle.isle_trees.specs.Tree.{Steps, Arms}
use Rattle.isle_blocks.specs.declared.constraint.Constraint.{Constraint}
use Rattle.isle_blocks.specs.declared.serializer.node.Node.{Node}
use Rattle.isle_blocks.specs.declared.serializer.node.Node.TheVariants as nodes
use Rattle.isle_blocks.specs.Trees.Nodes.{first_steps, read}

-- a return: the rule's number in its rule set, its place in the source, and the site of its result
pub record Returned : Type 0 where
  pub rule : ℕ
  pub pos : Pos
  pub result : ℕ

-- the steps of a block, with sites by number, and all its returns, in order
pub record BlockShown : Type 0 where
  pub tree : Steps Constraint
  pub returns : List Returned

-- arms of a match in a block, and all returns of the block
pub record ArmsShown : Type 0 where
  pub arms : Arms Constraint
  pub returns : List Returned

-- what a node returns, if it is a return
abbrev pub return_of : Node → Option Returned
return_of nodes.End = None
return_of nodes.NoArm = None
return_of (nodes.Match binds source) = None
return_of (nodes.Equal binds a b) = None
return_of (nodes.Loop binds result) = None
return_of (nodes.Return binds rule pos result) = Some (record { rule = rule; pos = pos; result = result.0 })
return_of (nodes.Arm constraint bindings) = None

-- the returns of a block, in order
abbrev pub returns_of : List Node → List Returned
returns_of nodes = filter_map return_of nodes

-- a block of nodes
abbrev pub block_of : List Node → BlockShown
block_of nodes = record { tree = first_steps (read nodes []); returns = returns_of nodes }
