-- In which order a query is checked.
pub mod Queries
-- Values and their texts.
pub mod Values
-- Table worlds and their texts.
pub mod Worlds
-- What no public contract cites.
pub mod Inside
