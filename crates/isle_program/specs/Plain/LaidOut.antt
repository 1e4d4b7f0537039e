-- Rules laid out, and the order in which a term's rules are tried.
pub mod Rules
-- Expressions laid out.
pub mod Words
