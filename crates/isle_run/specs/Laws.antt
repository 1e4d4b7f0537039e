-- What calls of compiled programs mean.
pub mod Compiled
-- What a compiled program's tables say, and that its rules are sound.
pub mod Sound
-- The order of rules.
pub mod Order
-- How definitions are spelt.
pub mod Spelling
-- Formatted files.
pub mod Formatting
-- Files that are laid out with their comments.
pub mod Keeping
-- What a text is as a query.
pub mod Queries
-- Calls of compiled programs by their trees.
pub mod TreeCalls
-- Runs of calls by trees and by rules.
pub mod Runs
-- What the trees of a compiled program do.
pub mod Trees
-- Values of compiled programs, printed and read back.
pub mod Printing
-- Runs of covered terms, and of calls that no rule matches.
pub mod Coverage
