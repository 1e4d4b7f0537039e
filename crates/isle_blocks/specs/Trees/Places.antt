-- Places in a block, and what is read there.
use Rattle.std.specs.Prelude.{List, ℕ, [], drop}
use Rattle.isle_blocks.specs.declared.serializer.block.Place.{Place}
use Rattle.isle_blocks.specs.Trees.Nodes.{Piece, first_steps, first_arms, read}
use Rattle.isle_blocks.specs.Trees.Shown.{Returned, BlockShown, ArmsShown, returns_of}
use Rattle.isle_blocks.specs.declared.serializer.node.Node.{Node}

-- the pieces from a place on
abbrev pub here : List Node → ℕ → List Piece
here nodes at = read (drop at nodes) []

-- the pieces from a place on
abbrev pub pieces_at : Place → List Piece
pieces_at place = here place.nodes.now place.at

-- the returns of the block that a place is in
abbrev pub returns_around : Place → List Returned
returns_around place = returns_of place.nodes.now

-- the steps from a place on
abbrev pub steps_at : Place → BlockShown
steps_at place = record { tree = first_steps (pieces_at place); returns = returns_around place }

-- the arms from a place on
abbrev pub arms_at : Place → ArmsShown
arms_at place = record { arms = first_arms (pieces_at place); returns = returns_around place }
