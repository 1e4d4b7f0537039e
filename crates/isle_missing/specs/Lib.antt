-- What is known of the tests of sites.
pub mod Sites
-- What rules demand, and in which worlds demands hold.
pub mod Demands
-- What facts say.
pub mod Facts
-- Which facts can be so.
pub mod Possible
-- What is told of rules.
pub mod Search
-- Worked cases.
pub mod Sample
-- How numbered rules stand for the rules of a tree.
pub mod Trees
-- What no public contract cites.
pub mod Inside
