-- Files, lines and positions, in reading order.
-- Source files as contracts see them.
pub mod Files
-- Where the lines of a text start, and on which line and in which column an offset stands.
pub mod Lines
-- Where a position lies.
pub mod Printable
-- How positions and names are ordered.
pub mod Orders
-- The positions in definitions.
pub mod DefPositions
