-- Calls of terms, whichever road answers them.
pub mod Calls
-- Values in a store.
pub mod Stores
-- What a call on the plain road tells.
pub mod PlainCalls
-- What a call tells that walks the tree of its term.
pub mod TreeCalls
-- What no public contract cites.
pub mod Inside
