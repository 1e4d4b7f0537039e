-- The sorted table of a store.
pub mod Tables
-- Values in a store.
pub mod Values
