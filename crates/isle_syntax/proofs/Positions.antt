-- Lemmas on the positions of what is spelt, and on what is printed of them, in reading order.
-- What an overlap prints, and which errors can be printed.
pub mod ErrorTexts
-- Positions of a known file's text can be printed.
pub mod SourcePositions
-- The positions in a spelt tree are positions of its tokens.
pub mod SpeltPositions
-- The positions of what a text spells, and of its fault, lie in it.
pub mod VerdictPositions
-- The rules of a text stand one behind the other, since its tokens do.
pub mod RuleOrder
-- How the lines of a message are printed, one after another.
pub mod MessageLines
