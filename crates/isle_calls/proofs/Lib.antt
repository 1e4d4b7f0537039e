-- What stands at places of lists.
pub mod Places
-- Values in a store.
pub mod Stores
-- Calls of terms, whichever road answers them.
pub mod OpenCalls
-- The plain road.
pub mod PlainRoad
-- The road over trees.
pub mod TreeRoad
