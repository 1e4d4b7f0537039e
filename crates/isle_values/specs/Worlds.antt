-- Entries of a table world's text, and the tokens that spell them.
pub mod Entries
-- An entry of a world as something that a proof tells apart.
pub mod EntryCode
-- The external terms that a world answers.
pub mod Externals
-- What a table world answers.
pub mod Tables
-- The texts of table worlds, and what is wrong with others.
pub mod Texts
-- The steps in which a table world's text is read.
pub mod Reading
