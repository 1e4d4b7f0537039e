-- What is printed of rule sets and trees.
pub mod TreeTexts
-- What no public contract cites.
pub mod Inside
