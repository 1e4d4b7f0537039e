-- Worked cases.

-- The numbers of a set's members, and their order.
pub mod NumberedSets
