-- Worked cases.
-- What numbers are written as.
pub mod Decimals
-- Lines of sites, tests and trees.
pub mod TreeTexts
-- A tree that is its set's in every way, and one that isn't.
pub mod SetTrees
-- The whole text of a set of one rule, and what isn't its text.
pub mod SetTexts
-- The lines of a rule that has all kinds of them.
pub mod RuleTexts
