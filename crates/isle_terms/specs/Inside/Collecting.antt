-- What a check of definitions does.
pub mod Checks
-- What the host provides for terms.
pub mod DefinitionLists
-- Tables of the first places of names.
pub mod NameTables
-- What is checked of internal extractors.
pub mod ExtractorChecks
-- Names of definitions with their positions.
pub mod NamedItems
-- What is checked of definitions one by one.
pub mod DefinitionChecks
-- How converters are read.
pub mod ReadConverters
-- The root of a rule, and what reading a whole rule comes to.
pub mod RuleRoots
-- Graphs, and searches for cycles in them.
pub mod Graphs
-- The graph of internal extractors.
pub mod ExtractorGraphs
-- What the typing of all rules does.
pub mod RuleChecks
-- Definitions by kind, and the tables of their names.
pub mod Parts
-- The terms that definitions make.
pub mod MadeTerms
-- The symbols at which a table finds the numbers of terms.
pub mod TermSymbols
-- Of errors that tell the same the first.
pub mod Repeats
-- The terms that declarations make.
pub mod DeclaredTerms
-- Typed rules with their names.
pub mod RuleNames
-- The environment of terms that definitions make.
pub mod Environments
