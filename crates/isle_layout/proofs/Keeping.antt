-- Lemmas on texts laid out with their comments, in reading order.
-- Bytes without the white space at their end.
pub mod Trimming
-- Whether a newline is the last of some bytes.
pub mod Endings
-- A text without the white space directly before its newlines, and what that leaves of a comment.
pub mod BlockLines
-- Where a text may be cut behind a piece, and that this shortens it.
pub mod Cutting
-- Margins of levels.
pub mod Margins
-- A step of the loop that finds which lists stay on one line.
pub mod Measuring
-- A step of the loop that writes pieces.
pub mod Writing
-- White space at the ends of lines, step by step.
pub mod Cleaning
-- Newlines in a row, step by step.
pub mod Spacing
-- A piece is cut again from its own text.
pub mod Wholes
-- What is laid out has the same pieces, and is laid out again as it is.
pub mod Settling
-- What is laid out has no white space at the ends of lines, no two blank lines in a row, and one newline at its end.
pub mod CleanLines
-- What is laid out has the same tokens.
pub mod SameTokens
-- The same tokens at other places: phrases that they spell there too.
pub mod Moved
-- The same tokens at other places spell the same trees, but for positions.
pub mod MovedTrees
-- The same tokens at other places spell the same definitions, but for positions.
pub mod MovedDefs
-- A text that has the tokens of another is read as it, but for positions.
pub mod ReadAgain
-- The length of a row is that of its list on one line.
pub mod ListLengths
-- What is written of a list that stays on one line is the list on one line.
pub mod ListsOnOneLine
-- The texts of some comments, and the lengths of some lists.
pub mod KeepCases
