-- What changes from a text to another, in reading order.
-- The lines of a text.
pub mod Lines
-- Which lines of two texts stay, are removed or are added.
pub mod Scripts
-- The hunks of a unified diff.
pub mod Hunks
-- What it is to be a unified diff.
pub mod Diffs
