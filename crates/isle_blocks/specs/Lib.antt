-- Numbers that stand for fields and for sites.
pub mod Numbers
-- What a site is made of, and which term it calls.
pub mod Bindings
-- What tests make, and what they can't meet.
pub mod Constraints
-- How sites and tests are ordered.
pub mod Orders
-- What is hashed of sites and tests.
pub mod Hashes
-- The `==` of sites holds exactly where the two are the same, and then they are hashed alike.
pub mod EqualSites
-- Which rules of a rule set may match together.
pub mod Rules
-- Faults between the rules of a term.
pub mod FaultsBetween
-- What is reported of rules that overlap or shadow others.
pub mod Reports
-- Sites and tests as those of the rules' meaning.
pub mod Rows
-- Tables of sites, in which each stands once.
pub mod Tables
-- What a rule's visit gathers.
pub mod Building
-- The rules of a rule set as what follows from their demands.
pub mod ClosedRules
-- What the closure of a rule's demands is.
pub mod Closure
-- The sites that a rule holds equal, set by set.
pub mod ListedSets
-- Rule sets as contracts see them.
pub mod RuleSets
-- A rule of definitions in its term's rule set.
pub mod AddedRules
-- What a rule demands by itself.
pub mod RuleDemands
-- Faults of the rules that definitions make.
pub mod RuleFaults
-- The rule sets of the terms of definitions.
pub mod DefinedSets
-- What holds of each rule set that `check` gives.
pub mod SetLaws
-- What the closure of demands means.
pub mod ClosureLaws
-- Trees of tests.
pub mod Trees
-- What no public contract cites.
pub mod Inside
