-- How definitions are spelt means nothing.
pub mod Spelling
-- What calls of compiled programs mean.
pub mod Chains
-- Calls by trees, and by rules.
pub mod Blocks
-- Names in compiled programs are spelt as names.
pub mod Naming
-- Calls of covered terms, and calls that no rule matches.
pub mod Covering
