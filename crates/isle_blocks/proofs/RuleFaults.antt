-- The faults of rules, and their reports.
-- Keys of rules in order, and the faults that are found by them.
pub mod FaultKeys
-- Groups of pairs.
pub mod Grouping
-- Groups sorted by the positions of their heads.
pub mod SortedGroups
-- The groups of pairs share the pairs out.
pub mod SharedPairs
-- The errors of rules that never match.
pub mod UnreachableErrors
-- A rule whose sites don't fit is one size fault.
pub mod SizeFaults
-- Faults between rules of a rule set are those of the rules that definitions make.
pub mod RivalRules
-- The pairs listed for all terms are the faults between their rules.
pub mod RivalLists
-- Rules without errors are faultless.
pub mod Faultless
-- Numbers in order, each once.
pub mod StrictCalls
-- What is wrong with rules is told in one way.
pub mod OneReport
