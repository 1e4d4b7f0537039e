-- The tests of one site in rules, in order.
pub mod FaultKeys
-- What a rule's visit gathers.
pub mod Building
-- Tables of entries.
pub mod RowTables
-- A rule's own sites moved into its rule set's table.
pub mod MovedSites
-- Classes of sites while demands are closed.
pub mod ClosureStates
-- A rule's demands in the table of its rule set.
pub mod Placing
-- The tests and the equal sites of a closed rule.
pub mod NormalRules
-- How the rules of terms are gathered into their rule sets.
pub mod GatheredSets
-- Trees of tests.
pub mod Trees
-- Fields that tests open.
pub mod ClosureFields
-- A rule of a rule set, made of what a visit leaves.
pub mod Assembly
-- How the faults between rules of all terms are listed.
pub mod RivalLists
-- In which order opened fields are numbered.
pub mod FieldOrder
