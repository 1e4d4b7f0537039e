-- What is spelt can be written, in reading order.
-- How many parentheses may be open where tokens are spelt, and how many are then open at once.
pub mod DepthLeft
-- Where a tree is spelt, there was room for the parentheses that are open at once in it.
pub mod TreeDepthLeft
-- Where a definition is spelt, there was room for the parentheses that are open at once in it, and there is as much behind it.
pub mod DefDepthLeft
-- What tokens of a text tell where they spell something.
pub mod Meanings
-- A tree that is spelt in a text can be written.
pub mod SpeltTrees
-- A definition that is spelt in a text can be written.
pub mod SpeltDefs
-- Whether a definition can be written doesn't turn on its positions.
pub mod WithoutPos
