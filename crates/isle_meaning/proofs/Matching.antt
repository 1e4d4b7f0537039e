-- Sites, demands and matching of typed rules.
-- Values are equal or not.
pub mod Deciding
-- What follows from demands that hold.
pub mod Closing
-- What is got, held and named.
pub mod Basics
-- Words give what their sites hold.
pub mod Written
-- What is written out reads what its expression reads.
pub mod Scoping
-- A site is known where its calls are answered.
pub mod Known
-- What is known stays so after more answers to impure calls.
pub mod Later
-- Contents of what a word asks.
pub mod Contents
-- The sites of the parts of a pattern.
pub mod Children
-- Where patterns fit, their demands hold.
pub mod Forward
-- Where demands hold, patterns fit.
pub mod Backward
-- Demands of typed rules are of the types of their sites.
pub mod Sorting
-- The laws on matching.
pub mod Whole
-- Equalities of a site with itself; what faults mean for matching.
pub mod Leaving
-- What follows where demands hold, equalities of a site with itself aside.
pub mod Proper
-- Recorded numbers say the demands.
pub mod Numbering
-- Fields and contents are made by tests.
pub mod Testing
-- A visit of a right side gives its site and its calls.
pub mod Visited
-- Fields of what is demanded are needed.
pub mod Needing
-- Elaborated rules are as the laws ask.
pub mod Bridging
-- The terms of variants and structs take exactly their fields.
pub mod MadeFields
-- No term is `multi` and partial.
pub mod OneAnswer
