-- A pattern stands for one thing at most, whatever the levels.
pub mod Determined
-- So does an expression, and a list of conditions.
pub mod DeterminedExprs
-- A rule stands for one typed rule at most.
pub mod RuleLaws
-- Definitions make one environment of terms at most.
pub mod OneTermEnvironment
-- Visits of typed rules.
pub mod Visiting
-- The reading of patterns and expressions, step by step.
pub mod Steps
-- Every typed rule is well typed, and keeps scopes.
pub mod Sound
-- Lists related in pairs, and items that count up.
pub mod Zipped
-- The numbers of the types of fields.
pub mod FieldNumbers
-- A name occurs where it has a place.
pub mod AmongNames
-- What stands in a list after a write.
pub mod SetLists
-- How many arguments a template needs.
pub mod Needs
