-- Lemmas on unified diffs, in reading order.
-- A slice from an index on.
pub mod Slices
-- The lines of a text, taken off one by one.
pub mod LinesOf
-- Scripts, block by block.
pub mod ScriptsOf
-- Which lines are shown.
pub mod Shown
-- A script without changes.
pub mod Unchanged
-- A line is shown exactly where a change is within three lines of it.
pub mod Near
