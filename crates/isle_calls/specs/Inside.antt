-- Values in a store.
pub mod Stores
-- Calls of terms, whichever road answers them.
pub mod Calls
-- The plain road: rules tried one by one.
pub mod Plain
-- The road over trees: a call walks the tree of its term.
pub mod Blocks
