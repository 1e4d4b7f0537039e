-- The road over trees: what its calls and frames are.
-- What sites hold, by the numbers of values.
pub mod Holdings
-- What is bound, by site.
pub mod Bounds
-- What a machine reads and makes.
pub mod Reading
-- Calls of the road, as far as they have come.
pub mod Frames
