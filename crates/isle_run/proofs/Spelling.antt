-- How definitions are spelt and split into files means nothing.
-- Faults.
pub mod Faults
-- Whole lists of texts.
pub mod Whole
-- Formatted files.
pub mod Formatting
-- Files that are laid out with their comments.
pub mod Keeping
-- Texts whose rules stand in another order.
pub mod Ordered
