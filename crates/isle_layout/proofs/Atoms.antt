-- Atoms are tokens, and stay so in a layout, in reading order.
-- What holds of each atom of an S-expression.
pub mod EachAtom
-- Texts that are one token.
pub mod AtomTexts
-- The token of an atom stays the longest one where what follows it ends it.
pub mod AtomEnds
-- The tokens of an atom, read from its text.
pub mod AtomReadings
-- Identifiers are symbols.
pub mod IdentifierTexts
-- Integers in decimal are one token.
pub mod IntegerTexts
-- The atoms of trees that can be written are tokens.
pub mod TreeAtoms
-- The atoms of definitions that can be written are tokens.
pub mod DefAtoms
-- The atoms of what is printed are text, since the whole is.
pub mod PrintedTexts
-- White space before tokens, and a token before others.
pub mod Blanks
-- The layout of an S-expression has the tokens of the S-expression.
pub mod LayoutTokens
-- The tokens of a text stand in it as tokens do.
pub mod TextTokens
