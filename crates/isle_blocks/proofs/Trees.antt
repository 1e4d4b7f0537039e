-- Pieces of a block, and where they end.
pub mod Ending
-- What the nodes of a block return.
pub mod Returns
-- What appending nodes does to the pieces that they stand for.
pub mod Laying
-- Rule sets as what trees speak of.
-- What is read of a rule set.
pub mod Reading
-- The order of tests.
pub mod Order
-- A tree can be built of each rule set.
pub mod Buildable
-- Tests and what is held are compared exactly.
pub mod Exact
-- Numbers of a table stand for their trees.
pub mod Standing
-- Rule sets are well made.
pub mod WellMade
-- The fields of tests are listed.
pub mod Listed
-- What tests ask has its tests, and no impure call.
pub mod Asked
-- Impure calls stand before what is made of them.
pub mod Effects
-- What a rule has, has its tests.
pub mod Used
-- What sites hold is as trees ask.
pub mod Answered
-- Answers keep to fields and calls.
pub mod Respected
-- What the code looks up.
pub mod Found
-- Rules match as the typed rules do.
pub mod Matched
-- Walks choose as the typed rules do.
pub mod Chosen
-- The rule sets of definitions.
pub mod Defined
-- The rule sets of any terms are well made.
pub mod Elaborated
-- Rule sets of `multi` terms, whose walks answer bags.
pub mod Bags
-- Worked cases.
mod Cases
-- A list of sites is gone over, some of which are marked already.
pub mod Marked
-- What is marked from step to step.
pub mod Marking
-- The best test of all that rules have.
pub mod Considered
-- What makes a site, by the rule that opens it.
pub mod Opened
-- What is known, as the code's lists keep it.
pub mod Known
-- A list in rows, read and set at a place.
pub mod Tables
-- Sites by their numbers, as lists of them change.
pub mod Binding
-- What is still to be laid out.
pub mod Working
-- What laying out a node does to what is still to be laid out.
pub mod Moving
-- What rules of a set test, listed by rule and by site.
pub mod Indexed
-- Which rule opens a site: the first whose test makes it.
pub mod Openers
-- Which want makes a site, and where the sites of fields stand.
pub mod Fields
-- What a step of the builder finds where the best test is known.
pub mod Stepping
-- A tree that rules build does not depend on what constants are called.
pub mod Named
-- What is promised of a rule set's tree.
pub mod Promised
-- What more is promised of it.
pub mod Promises
-- What the tree of a term's rule set owes to the term's rules.
pub mod TermTrees
