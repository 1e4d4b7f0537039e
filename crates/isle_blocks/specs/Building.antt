-- The table that a rule's visit leaves.
pub mod Standing
-- The names of symbols, and what definitions make of a rule.
pub mod Naming
