-- What the tree of a term's rule set owes to the term's rules.
-- The rows of a set's sites.
pub mod Tables
-- A set's rules, and the rules of the term.
pub mod Rules
-- The calls that sound rules make.
pub mod Callees
-- What the sites of a set hold is of their sorts.
pub mod Typing
-- How many steps it takes at most.
pub mod Counted
-- The tree of a term.
pub mod Whole
