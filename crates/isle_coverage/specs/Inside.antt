-- Tests by the values that pass them.
pub mod Tests
-- Tests at their numbers.
pub mod Tables
-- Tests of which each value of a type passes one.
pub mod Complete
-- Rules by what they demand.
pub mod Rows
-- What is known of the tests of sites.
pub mod Sites
-- Rule sets by the numbers of their sites and tests.
pub mod Numbered
-- The tests of types.
pub mod Types
-- Rules that demand less.
pub mod Less
-- What is told of numbered rules.
pub mod Judging
-- Marks of terms that some term reaches.
pub mod Reached
