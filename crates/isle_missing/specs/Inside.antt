-- Rules as lists of demands, and what is left of them.
pub mod Rows
-- What facts say of rules and of tests.
pub mod Facts
-- The facts that are so where each site passes the test that a table has for it.
pub mod Tables
-- What the rounds of a search say.
pub mod Rounds
