-- What is printed of a program's rule sets and trees.
-- Types, variants, numbers of sites, and places.
pub mod Names
-- Sites and tests.
pub mod Sites
-- The rules of a rule set.
pub mod Rules
-- Steps and arms.
pub mod Steps
-- Whole rule sets with their trees.
pub mod Sets
-- Texts as labels of a graph.
pub mod DotLabels
-- The types of sites that tests of variants and structs tell.
pub mod DotTypes
-- The names of fields.
pub mod DotFields
-- Sites as expressions.
pub mod DotSites
-- Nodes and edges of a tree.
pub mod DotSteps
-- Whole graphs.
pub mod DotSets
