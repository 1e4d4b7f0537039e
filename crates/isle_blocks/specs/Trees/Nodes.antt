-- Blocks as their nodes show them. A node stands before its parts, so nodes are read from the last one on.
use Rattle.std.specs.Prelude.{ℕ, List, [], ◌∷◌, Option, map}
use Rattle.std.specs.Option.{option_map}
use Rattle.isle_trees.specs.Tree.{Steps, done, «match», equal, loop, give, Arms, no_arm, arm}
use Rattle.isle_blocks.specs.declared.ids.BindingId.{BindingId}
use Rattle.isle_blocks.specs.declared.constraint.Constraint.{Constraint}
use Rattle.isle_blocks.specs.declared.serializer.node.Node.{Node}
use Rattle.isle_blocks.specs.declared.serializer.node.Node.TheVariants as nodes
use Rattle.isle_blocks.specs.Rows.{numbers_of}

-- what a stretch of nodes stands for: a list of steps, or the arms of a match
pub data Piece : Type 0 where
  steps_piece : Steps Constraint → Piece
  arms_piece : Arms Constraint → Piece

-- the first piece's steps, none where it has none
abbrev pub first_steps : List Piece → Steps Constraint
first_steps [] = done
first_steps (steps_piece t ∷ pieces) = t
first_steps (arms_piece a ∷ pieces) = done

-- the first piece's arms, none where it has none
abbrev pub first_arms : List Piece → Arms Constraint
first_arms [] = no_arm
first_arms (steps_piece t ∷ pieces) = no_arm
first_arms (arms_piece a ∷ pieces) = a

-- the pieces after the first one
abbrev pub later : List Piece → List Piece
later [] = []
later (piece ∷ pieces) = pieces

-- the sites that a test binds, by number
abbrev pub fields_of : List (Option BindingId) → List (Option ℕ)
fields_of bindings = map (option_map (λ (id : BindingId). id.0)) bindings

-- a return takes the steps after it
abbrev pub given : List ℕ → ℕ → List Piece → List Piece
given binds rule pieces = steps_piece (give binds rule (first_steps pieces)) ∷ later pieces

-- a node takes its parts from the pieces behind it, and stands for one piece with them
abbrev pub put : Node → List Piece → List Piece
put nodes.End pieces = steps_piece done ∷ pieces
put nodes.NoArm pieces = arms_piece no_arm ∷ pieces
put (nodes.Match binds source) pieces =
    steps_piece («match» (numbers_of binds) source.0 (first_arms pieces) (first_steps (later pieces))) ∷ later (later pieces)
put (nodes.Equal binds a b) pieces =
    steps_piece (equal (numbers_of binds) a.0 b.0 (first_steps pieces) (first_steps (later pieces))) ∷ later (later pieces)
put (nodes.Loop binds result) pieces =
    steps_piece (loop (numbers_of binds) result.0 (first_steps pieces) (first_steps (later pieces))) ∷ later (later pieces)
put (nodes.Return binds rule pos result) pieces = given (numbers_of binds) rule pieces
put (nodes.Arm constraint bindings) pieces =
    arms_piece (arm constraint (fields_of bindings) (first_steps pieces) (first_arms (later pieces))) ∷ later (later pieces)

-- the pieces that nodes stand for, with those behind them
abbrev pub read : List Node → List Piece → List Piece
read [] pieces = pieces
read (node ∷ nodes) pieces = put node (read nodes pieces)
