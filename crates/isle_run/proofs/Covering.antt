-- Where runs end: by trees.
pub mod TreeEnds
-- By rules.
pub mod RuleEnds
-- At which calls.
pub mod Ends
-- Runs of covered terms, and of calls that no rule matches.
pub mod Covered
