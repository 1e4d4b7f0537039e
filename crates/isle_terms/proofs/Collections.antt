-- Lists of definitions of one kind.
pub mod Listing
-- A table of names grows by a name.
pub mod NameTables
-- What gathers the terms of a pattern has all of them.
pub mod GatheredTerms
-- Checks of definitions, one after the other and item by item.
pub mod Checking
-- Names are put into a table, and those that occur already are reported.
pub mod Naming
-- Errors that checks add.
pub mod AddedErrors
-- The terms that bodies of extractors name.
pub mod ExtractorBodies
-- Where one rule is broken, one of more rules is.
pub mod WiderFaults
-- What a search for a name finds, by the name's place.
pub mod NamedPlaces
-- How a declared term makes its value and takes one apart, by the places of its name.
pub mod DeclaredForms
-- Converters are read one by one into the table of their terms.
pub mod ReadConverters
-- The roots of rules, and what reading a whole rule comes to.
pub mod RuleRoots
-- A search for cycles of a graph.
pub mod Cycles
-- The graph of internal extractors.
pub mod ExtractorGraphs
-- Edges that are added to a graph.
pub mod AddedEdges
-- Rules are typed one by one under what tables show.
pub mod RuleChecks
-- The typed rules so far, one rule after the other.
pub mod RulesCollected
-- Terms of declarations, under names that grow and one after the other.
pub mod DeclaredTerms
-- What checks of definitions report breaks a rule of terms, and where they report nothing the rule is kept.
pub mod CheckedDefinitions
-- What checks of definitions add are faults of typing.
pub mod CheckedTyping
-- The terms of the types.
pub mod TypeTerms
-- The numbers of terms, by the symbols of their names.
pub mod TermNumbers
-- The names of terms.
pub mod TermNames
-- Facts of what calls answer.
pub mod Answered
-- The names that definitions give.
pub mod PartNames
-- What is checked of definitions before their terms are made.
pub mod FirstRules
-- What is checked of definitions once their terms are made.
pub mod LaterRules
-- The faults of declarations, and what a refusal lists.
pub mod DeclaredFaults
-- The terms of declarations and of types.
pub mod CompletedTerms
-- The names of rules, and their numbers.
pub mod RuleNames
-- Typed rules with their names complete what definitions make.
pub mod RulesTyped
-- Tables of terms show what is declared.
pub mod ShownDeclared
-- The roots of rules are declared terms.
pub mod RootedRules
-- What checks come to where their errors are refused.
pub mod RefusedChecks
-- What a refusal lists means that there is no environment.
pub mod TypingRefused
-- Errors that are told once.
pub mod ToldErrors
