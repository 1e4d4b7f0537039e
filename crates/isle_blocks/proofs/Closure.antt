-- The closure of demands.
-- Numbers and the sites that they stand for.
pub mod Trees
-- One merge of two classes.
pub mod Merge
-- How many numbers pass a test.
pub mod Count
-- What is recorded, as demands.
pub mod Demands
-- What the loop over the pending pairs keeps.
pub mod Progress
-- Classes where nothing is to be made equal.
pub mod Alone
-- Lists of pairs under a push and a pop, and own tests.
pub mod Pairs
-- Like fields under a test.
pub mod Likes
-- A closed state has all that is derived.
pub mod Quotient
-- Marking sites after their children.
pub mod Loops
-- A list of a site, in the lists of all sites, under a write.
pub mod Lists
-- The sites that representatives represent, when two classes are joined.
pub mod Members
-- Sites that are still to be looked at, and sites that wait for an unmarked child.
pub mod Marking
-- Adding a missing field.
pub mod Growth
-- A missing field is added, or has no room.
pub mod Full
-- Fields that are added site by site are in order.
pub mod FieldOrder
-- Sites keep their numbers in a longer table.
pub mod Longer
-- What is merged in the grown table.
pub mod Sound
-- All that follows is seen in a closed table.
pub mod Least
-- The closure from its parts.
pub mod Whole
-- What a visit leaves is ready to be closed.
pub mod Ready
-- The closure of demands says the same as they do.
pub mod Laws
