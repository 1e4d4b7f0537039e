-- A value's text has the value's tokens.
-- What ends a token.
pub mod Ends
-- Identifiers are symbols, and these are tokens.
pub mod Symbols
-- Integers in decimal are tokens.
pub mod Numbers
-- The tokens of a value's text.
pub mod Texts
-- Values of types are printed to texts that read back as them.
pub mod ReadBack
