-- What is still to be printed of a tree.
pub mod TreeTexts
-- Where what is warned of stands.
pub mod Warnings
