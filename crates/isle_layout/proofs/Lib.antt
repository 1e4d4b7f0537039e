-- lemmas on S-expressions and their layout
pub mod Layouts
-- atoms are tokens, and stay so in a layout
pub mod Atoms
-- what is printed spells again what it is of
pub mod ReadsBack
-- what is spelt can be written
pub mod SpeltTexts
-- a loop over trees asks one after another whether it fits, or whether it passes a test
pub mod Nestings
-- a text laid out with its comments has the same pieces
pub mod Keeping
-- lemmas on unified diffs
pub mod ChangesLemmas
-- unified diffs of texts that are written out
pub mod ChangesCases
