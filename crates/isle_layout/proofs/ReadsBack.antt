-- What is printed spells again what it is of, in reading order.
-- S-expressions one after another, the tokens of each.
pub mod Rows
-- Tokens of the S-expressions of patterns, expressions and kept items spell these again.
pub mod Trees
-- Tokens of the S-expressions of types spell these again.
pub mod Types
-- Tokens of the S-expressions of terms' declarations, extractors, externs, converters and kept definitions spell these again.
pub mod Terms
-- Tokens of the S-expressions of rules spell these again.
pub mod Rules
-- Tokens of the S-expressions of definitions spell these again.
pub mod Defs
-- Tokens of the S-expression of a definition open no more parentheses at once than it nests.
pub mod Depths
-- Tokens of S-expressions leave as much room as there was, where there was room for the parentheses that they open.
pub mod DepthsLeft
-- Tokens of the S-expressions of definitions spell a text of these again, within the bound on open parentheses.
pub mod WholeTexts
-- The print of definitions reads back as them where they can be written, and only there.
pub mod Prints
-- How a text is formatted.
pub mod Formatted
