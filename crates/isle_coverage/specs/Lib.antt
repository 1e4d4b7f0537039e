-- Whether some rule of a term matches.
pub mod Covered
-- What is told of a term's rules.
pub mod Verdicts
-- Calls of which none is ever stuck.
pub mod Stuck
-- What no public contract cites.
pub mod Inside
