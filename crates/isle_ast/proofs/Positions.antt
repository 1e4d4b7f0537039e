-- Lemmas on positions, orders and lines, in reading order.
-- Positions and names are ordered by their fields, and level exactly where they are the same.
pub mod Orders
-- The starts of a text's lines rise, and those up to an offset are as many as the newlines below it.
pub mod LineStarts
-- The positions in lists of trees, and positions of one kind that are positions of another.
pub mod TreePositions
