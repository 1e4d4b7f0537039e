-- S-expressions as contracts see them.
pub mod SExprTree
-- An S-expression as a tree: its children are trees already.
pub mod SExprShape
-- Children are lower than their S-expression.
pub mod SExprDecreases
-- The S-expressions of patterns, expressions and kept items.
pub mod Spellings
-- The S-expressions of definitions.
pub mod DefSpellings
-- How S-expressions are laid out.
pub mod Layout
-- How definitions are printed.
pub mod Prints
-- How many parentheses are open at once in what is printed.
pub mod Nesting
-- Which definitions can be printed and read back.
pub mod Writable
-- Which definitions a text reads back as.
pub mod ReadsBack
-- What it is to format a text.
pub mod Formats
-- A text laid out with its comments.
pub mod Keeping
-- What changes from a text to another, as a unified diff.
pub mod Changes
-- What no public contract cites.
pub mod Inside
