-- A text laid out with its comments and its numbers as they are written, in reading order.
-- The tokens of a text, wherever they stand in it.
pub mod TokenValues
-- The pieces of a text: its tokens as they are written, and its comments without the white space at their lines' ends.
pub mod Pieces
-- Which lists of pieces stay on one line.
pub mod Rows
-- The white space between pieces, and the text that pieces are laid out as.
pub mod LaidOut
-- How lists of pieces stand on one line.
pub mod OneLine
-- What it is to keep a text.
pub mod Keeps
-- White space at the ends of lines, newlines in a row, and the newline at the end.
pub mod LineEnds
