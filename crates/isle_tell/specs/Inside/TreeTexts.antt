-- What is still to be printed of a tree.
pub mod Parts
-- What is still to be drawn of a tree.
pub mod DotParts
