-- What appending nodes does to the pieces that they stand for.
use Rattle.std.proofs.Common.{◌≡◌, ℕ, List, [], ◌∷◌, ◌++◌, refl, ap}
use Rattle.isle_ast.specs.declared.pos.Pos.{Pos}
use Rattle.isle_blocks.specs.declared.ids.BindingId.{BindingId}
use Rattle.isle_blocks.specs.declared.serializer.node.Node.{Node}
use Rattle.isle_blocks.specs.declared.serializer.node.Node.TheVariants as nodes
use Rattle.isle_blocks.specs.Rows.{numbers_of}
use Rattle.isle_blocks.specs.Trees.Nodes.{Piece, given, put, read}

-- nodes take their parts from those behind them
pub read-append : (xs ys : List Node) (pieces : List Piece) → read (xs ++ ys) pieces ≡ read xs (read ys pieces)
read-append [] ys pieces = refl
read-append (x ∷ xs) ys pieces = ap (put x) (read-append xs ys pieces)
