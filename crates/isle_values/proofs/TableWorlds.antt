-- Tokens spell one entry.
pub mod EntryParts
-- The keys of a world's table stand for calls.
pub mod Keys
-- How a table world's text is refused.
pub mod Refusals
-- A table of entries that grows.
pub mod Tables
