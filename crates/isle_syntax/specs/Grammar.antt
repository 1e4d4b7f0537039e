-- What tokens spell, and which fault a text has, in reading order.
-- Words for what tokens spell.
pub mod Phrases
-- The grammar: which tokens spell a tree.
pub mod TreeGrammar
-- The grammar of definitions: which tokens spell one.
pub mod DefGrammar
-- What a parser of a whole text promises, in the grammar's words.
pub mod Verdict
