-- which tokens a text has, and what a lexer answers
pub mod Tokens
-- what tokens spell, and which fault a text has
pub mod Grammar
-- the order in which the rules of a text stand
pub mod Positions
-- what reports of errors print
pub mod Errors
-- What no public contract cites.
pub mod Inside
