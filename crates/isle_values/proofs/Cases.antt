-- Worked cases.
-- The text, the tokens and the nodes of a value, and lists that close.
pub mod ValueForms
-- Numbers from 2^127 on, read at types.
pub mod SettledNumbers
-- Entries of worlds.
pub mod WorldEntries
